use Rattle.frag_sem.specs.ProxyTypes.{reader_type}
use Rattle.frag_index.proofs.unit.Unit.read_truth.Goals as goal

pub returns : goal.returns
returns c = c.truth.ensures (reader_type c.args.reader.now) c.key_of_reader.ensures
