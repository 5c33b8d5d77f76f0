use Rattle.std.proofs.Common.{refl}
use Rattle.svd_keys.specs.Earliest.{earlier, earliest}
use Rattle.svd_keys.proofs.Orders.{earliest-step, earliest-end}
use Rattle.svd_keys.proofs.fault.earliest.Goals as goal

pub loop-rest-init : goal.loop-rest-init
unfolding earlier
loop-rest-init c = refl

pub loop-rest-preserved : goal.loop-rest-preserved
loop-rest-preserved c = earliest-step c.loop-rest.first c.earlier-first.result (earliest c.args.faults.now) c.loop-rest.rest.now c.in-len1-up.len_at_least c.earlier-first.ensures c.loop-rest.invariant

pub returns : goal.returns
returns c = earliest-end c.loop-rest.first (earliest c.args.faults.now) c.loop-rest.rest.now c.in_default.len_below c.loop-rest.invariant
