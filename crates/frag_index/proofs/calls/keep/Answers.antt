use Rattle.std.proofs.Common.{sym, ◌∙◌}
use Rattle.frag_index.proofs.Calling.{kept-new, kept-there}
use Rattle.frag_index.proofs.calls.keep.Goals as goal

pub returns-then-is_some : goal.returns-then-is_some
returns-then-is_some g c = kept-there c.args.held.now c.args.key c.args.call c.call_on.result c.call_on.ensures (sym c.is_some.ensures ∙ c.if-is_some.true)

pub returns : goal.returns
returns g c = kept-new c.args.held.now c.insert.new.self c.args.key c.args.call c.call_on.result c.call_on.ensures (sym c.is_some.ensures ∙ c.if-is_some.false) c.in_ok-insert.ensures.entries
