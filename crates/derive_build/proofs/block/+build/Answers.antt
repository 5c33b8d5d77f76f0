use Rattle.std.proofs.Common.{◌≡◌, ◌-◌, false, Some, IfNone, IfSome, map, refl, sym, ap, ap₂, ◌∙◌, subst}
use Rattle.std.specs.List.{AllByRecursion}
use Rattle.derive_build.specs.declared.own.Own.TheVariants as own
use Rattle.derive_build.specs.Children.{step_by}
use Rattle.derive_build.specs.Nodes.{own_node}
use Rattle.derive_build.specs.Tables.{HasKids, IsKid, is_kid, tree_of, under}
use Rattle.derive_build.specs.Taking.{keys_by}
use Rattle.derive_build.proofs.Told.{one-made, all-made, pushed-item, plain-made, none-low, some-level, no-kid, none-stands, stood, none-stood}
use Rattle.svd_model.specs.Steps.{cluster}
use Rattle.svd_model.specs.Trees.{item_under}
use Rattle.derive_build.proofs.block.+build.Goals as goal

pub items_of-loop-number-preserved : goal.items_of-loop-number-preserved
items_of-loop-number-preserved t c = λ all.
    one-made (IsKid c.args.table.now c.args.levels (Some cluster)) (under c.args.table.now c.args.levels) item_under c.args.numbers.now c.loop-number.number-index c.loop-number.made.items c.add_item.new.made.items c.loop-number-test.true all
    c.in_ok-add_item.ensures (c.loop-number.invariant all)

pub items_of-returns : goal.items_of-returns
items_of-returns t c = λ all.
    all-made (under c.args.table.now c.args.levels) item_under c.args.numbers.now c.loop-number.number-index c.loop-number.made.items c.loop-number-test.false (c.loop-number.invariant all)

pub add_item-returns-then-levels-eq0 : goal.add_item-returns-then-levels-eq0
add_item-returns-then-levels-eq0 t c = λ kid. absurd (none-low c.args.table.now c.args.levels c.args.number c.if-levels-eq0.true kid.1)

pub add_item-returns-in_ok-push-in-Some : goal.add_item-returns-in_ok-push-in-Some
add_item-returns-in_ok-push-in-Some t c = λ kid.
    let table = c.args.table.now in
    let settled = c.in-Some.settled.now in
    pushed-item table c.args.levels (c.args.levels - 1) c.args.number settled c.args.made.now.items c.push.new.self.items c.in-Some-2.item (some-level c.args.levels c.if-levels-eq0.false)
    (stood table c.args.number settled c.in-Some.ensures.lookup.1 c.in-Some.ensures.lookup.3.0)
    (subst (λ o. IfSome o (λ item. HasKids table (c.args.levels - 1) settled → item_under item ≡ (step_by (own_node settled.own), tree_of table (c.args.levels - 1) settled))) c.in-Some-2.is c.in_ok-item-in-Some.ensures.is)
    c.in_ok-push-in-Some.ensures.items kid.1

pub add_item-returns-in_default : goal.add_item-returns-in_default
add_item-returns-in_default t c = λ kid.
    let table = c.args.table.now in
    let settled = c.in-Some.settled.now in
    absurd (no-kid table c.args.levels c.args.number settled (Some cluster) (stood table c.args.number settled c.in-Some.ensures.lookup.1 c.in-Some.ensures.lookup.3.0)
    (subst (λ o. IfNone o (is_kid (Some cluster) (own_node settled.own).kind ≡ false)) c.in_default.is c.in_ok-item-in-Some.ensures.other) kid)

pub add_item-returns-in-None : goal.add_item-returns-in-None
add_item-returns-in-None t c = λ kid.
    absurd (none-stands c.args.table.now c.args.levels c.args.number (none-stood c.args.table.now c.args.number c.in-None.ensures.lookup.0) kid.1)

pub item_of-returns-in_ok-cluster_item-in-Cluster-clause-is : goal.item_of-returns-in_ok-cluster_item-in-Cluster-clause-is
item_of-returns-in_ok-cluster_item-in-Cluster-clause-is t c = λ kids.
    let table = c.args.table.now in
    let settled = c.args.settled.now in
    let is = c.in-Cluster.is in
    let keys = keys_by (own.Cluster c.in-Cluster.key c.in-Cluster.element) settled.keys in
    let children = c.in_ok-children-in-Cluster.children.items in
    c.in_ok-cluster_item-in-Cluster.ensures
    ∙ ap₂ (λ s t. (s, t)) (sym (ap (λ o. step_by (own_node o)) is))
    (c.in_ok-cluster-in-Cluster.ensures
    ∙ plain-made table c.args.levels item_under children (Some cluster) settled keys (ap (λ o. keys_by o settled.keys) is) (ap (λ o. (own_node o).kind) is) (λ cs. refl) kids
    (λ each apart. subst (λ ns. AllByRecursion (IsKid table c.args.levels (Some cluster)) ns → map item_under children ≡ map (under table c.args.levels) ns) c.as_slice.ensures.value c.in_ok-children-in-Cluster.ensures each))
