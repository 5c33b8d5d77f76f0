use Rattle.std.proofs.Common.{sym, ◌∙◌}
use Rattle.frag_sem.specs.ProxyTypes.{writer_type}
use Rattle.frag_types.proofs.Calls.{on-else, on-here}
use Rattle.frag_types.proofs.proxy.on_writer.Goals as goal

pub returns-then-is_some : goal.returns-then-is_some
returns-then-is_some c = c.if-is_some.true ∙ on-here (writer_type c.args.writer.now) c.args.name.now c.args.unit.now.values c.write_truth.result c.write_truth.ensures (sym c.is_some.ensures ∙ c.if-is_some.true)

pub returns-else-is_some : goal.returns-else-is_some
returns-else-is_some c =
    c.is_some-else-is_some.ensures ∙ on-else (writer_type c.args.writer.now) c.args.name.now c.args.unit.now.values c.write_truth.result c.write_number.result c.write_truth.ensures c.write_number.ensures (sym c.is_some.ensures ∙ c.if-is_some.false)
