-- A peripheral is itself at fault, or what stands below it decides.
use Rattle.std.proofs.Common.{map, refl, sym, ap, ◌∙◌}
use Rattle.dim_expand.specs.Walks.{first_in, named}
use Rattle.dim_expand.proofs.Firsts.{found_as, found_itself, found_below, cause-says}
use Rattle.dim_expand.proofs.Stated.{peripheral-dim}
use Rattle.svd_model.specs.Steps.{peripheral}
use Rattle.svd_model.specs.Trees.{peripheral_tree, peripheral_places, item_under}
use Rattle.svd_rows.specs.Forest.{siblings}
use Rattle.svd_rows.specs.Ranks.{stated}
use Rattle.dim_expand.proofs.walk.first_in_peripheral.Goals as goal

pub returns-in-Some : goal.returns-in-Some
returns-in-Some c =
    found_as c.round.result _ _
    (ap (named c.args.key.now.name)
    (found_itself peripheral c.args.key.now.name (peripheral_tree c.args.element.now) c.in-Some.cause c.itself.result
    (cause-says peripheral c.args.key.now.name (stated (peripheral_places c.args.element.now)) c.args.element.now.dim refl (peripheral-dim c.args.element.now) ∙ sym c.dim_cause.ensures ∙ c.in-Some.is)
    c.itself.ensures.inner c.itself.ensures.cause))
    c.round.ensures

pub returns : goal.returns
returns c =
    found_as c.round-2.result _ _
    (ap (named c.args.key.now.name)
    (c.in_ok-found.ensures
    ∙ ap (λ items. first_in (siblings (map item_under items))) c.as_slice.ensures.value
    ∙ sym (found_below peripheral c.args.key.now.name (peripheral_tree c.args.element.now)
    (cause-says peripheral c.args.key.now.name (stated (peripheral_places c.args.element.now)) c.args.element.now.dim refl (peripheral-dim c.args.element.now) ∙ sym c.dim_cause.ensures ∙ c.in_default.is))))
    c.round-2.ensures
