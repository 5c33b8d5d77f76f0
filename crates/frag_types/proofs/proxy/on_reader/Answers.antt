use Rattle.std.proofs.Common.{sym, ◌∙◌}
use Rattle.frag_sem.specs.ProxyTypes.{reader_type}
use Rattle.frag_types.proofs.Calls.{on-else, on-here}
use Rattle.frag_types.proofs.proxy.on_reader.Goals as goal

pub returns-then-is_some : goal.returns-then-is_some
returns-then-is_some c = c.if-is_some.true ∙ on-here (reader_type c.args.reader.now) c.args.name.now c.args.unit.now.values c.read_truth.result c.read_truth.ensures (sym c.is_some.ensures ∙ c.if-is_some.true)

pub returns-else-is_some : goal.returns-else-is_some
returns-else-is_some c =
    c.is_some-else-is_some.ensures ∙ on-else (reader_type c.args.reader.now) c.args.name.now c.args.unit.now.values c.read_truth.result c.read_number.result c.read_truth.ensures c.read_number.ensures (sym c.is_some.ensures ∙ c.if-is_some.false)
