-- A peripheral breaks the rule, or its children decide.
use Rattle.std.proofs.Common.{Some, map, sym, ap, ◌∙◌}
use Rattle.overlap_check.specs.Walks.{fails, first_in, named}
use Rattle.overlap_check.proofs.Firsts.{found_as, found_here, found_below}
use Rattle.overlap_check.proofs.Stated.{entered-peripheral}
use Rattle.svd_model.specs.Steps.{peripheral}
use Rattle.svd_model.specs.Trees.{peripheral_tree, item_under}
use Rattle.svd_rows.specs.Forest.{siblings}
use Rattle.overlap_check.proofs.walk.first_in_peripheral.Goals as goal

pub returns-then-fails_group : goal.returns-then-fails_group
unfolding fails
returns-then-fails_group c =
    found_as c.found_round.result _ _
    (ap (named c.args.key.now.name)
    (ap Some c.new.ensures
    ∙ sym (found_here c.args.rule peripheral c.args.outer.now c.enter-place.result (peripheral_tree c.args.element.now) (entered-peripheral c.args.element.now c.args.outer.now ∙ sym c.enter-place.ensures) (sym c.fails_group.ensures ∙ c.if-fails_group.true))))
    c.found_round.ensures

pub returns : goal.returns
unfolding fails
returns c =
    found_as c.found_round-2.result _ _
    (ap (named c.args.key.now.name)
    (c.in_ok-found.ensures
    ∙ ap (λ items. first_in c.args.rule c.enter-place.result (siblings (map item_under items))) c.as_slice.ensures.value
    ∙ sym (found_below c.args.rule peripheral c.args.outer.now c.enter-place.result (peripheral_tree c.args.element.now) (entered-peripheral c.args.element.now c.args.outer.now ∙ sym c.enter-place.ensures) (sym c.fails_group.ensures ∙ c.if-fails_group.false))))
    c.found_round-2.ensures
