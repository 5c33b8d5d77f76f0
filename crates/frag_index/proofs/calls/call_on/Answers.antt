use Rattle.std.proofs.Common.{◌∙◌}
use Rattle.frag_index.proofs.Calling.{call-found}
use Rattle.frag_index.proofs.calls.call_on.Goals as goal

pub returns : goal.returns
returns g c = call-found c.args.held.now (record { on = c.args.on; name = c.args.name }) c.copied.result (c.copied.ensures ∙ c.get.ensures.value)
