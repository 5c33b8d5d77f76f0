use Rattle.frag_sem.specs.ProxyTypes.{writer_type}
use Rattle.frag_index.proofs.unit.Unit.write_number.Goals as goal

pub returns : goal.returns
returns c = c.number.ensures (writer_type c.args.writer.now) c.key_of_writer.ensures
