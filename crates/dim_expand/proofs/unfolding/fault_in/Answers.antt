-- What is found is the first fault, or the counts decide.
use Rattle.std.proofs.Common.{Some, option_map, sym, ap, ◌∙◌}
use Rattle.std.specs.Option.{option_or}
use Rattle.dim_expand.specs.Faults.{first_past}
use Rattle.dim_expand.specs.Walks.{told_found, weighed}
use Rattle.dim_expand.proofs.Whole.{not-both}
use Rattle.svd_model.specs.Trees.{device_tree}
use Rattle.dim_expand.proofs.unfolding.fault_in.Goals as goal

pub returns-in_ok-told-in-Some-clause-fault : goal.returns-in_ok-told-in-Some-clause-fault
unfolding device_tree
returns-in_ok-told-in-Some-clause-fault c =
    ap Some c.in_ok-told-in-Some.ensures
    ∙ ap (λ o. option_or (option_map told_found o) (first_past (λ counted. weighed counted (device_tree c.args.device.now).below))) (sym c.in-Some.is ∙ c.in_ok-found.ensures)

pub returns-in_ok-told-in-Some-clause-typed : goal.returns-in_ok-told-in-Some-clause-typed
unfolding device_tree
returns-in_ok-told-in-Some-clause-typed c = λ none. not-both (sym c.in-Some.is ∙ c.in_ok-found.ensures) none

pub returns-in-None-clause-fault : goal.returns-in-None-clause-fault
unfolding device_tree
returns-in-None-clause-fault c =
    c.first_past.ensures.fault
    ∙ ap (λ o. option_or (option_map told_found o) (first_past (λ counted. weighed counted (device_tree c.args.device.now).below))) (sym c.in-None.is ∙ c.in_ok-found.ensures)
