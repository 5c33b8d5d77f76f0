-- The next peripheral, and those behind it.
use Rattle.std.proofs.Common.{map, sym, ap, ◌∙◌}
use Rattle.dim_expand.specs.Walks.{first_in}
use Rattle.dim_expand.proofs.Firsts.{passed, stopped, nothing_left}
use Rattle.svd_model.specs.Trees.{peripheral_under}
use Rattle.svd_rows.specs.Forest.{siblings}
use Rattle.dim_expand.proofs.walk.first_in_peripherals.Goals as goal

pub returns-in-Some-found : goal.returns-in-Some-found
returns-in-Some-found c =
    sym
    (c.loop-key.invariant
    ∙ ap (λ entries. first_in (siblings (map peripheral_under entries))) c.in-Some.ensures.steps
    ∙ stopped peripheral_under (c.in-Some.key.now, c.in-Some.peripheral.now) c.next.new.self _ (sym c.in_ok-found.ensures ∙ c.in-Some-found.is))

pub loop-key-preserved : goal.loop-key-preserved
loop-key-preserved c =
    c.loop-key.invariant
    ∙ ap (λ entries. first_in (siblings (map peripheral_under entries))) c.in-Some.ensures.steps
    ∙ passed peripheral_under (c.in-Some.key.now, c.in-Some.peripheral.now) c.next.new.self (sym c.in_ok-found.ensures ∙ c.in_default.is)

pub returns : goal.returns
returns c =
    sym (c.loop-key.invariant ∙ nothing_left peripheral_under c.loop-key.key-iterator c.in-None.ensures.steps.0)
