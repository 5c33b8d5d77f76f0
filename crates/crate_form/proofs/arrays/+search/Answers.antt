-- The first element with an array of fields decides.
use Rattle.std.proofs.Common.{◌+◌, ◌∷◌, [], List, map, drop, sym, ap, ◌∙◌, subst}
use Rattle.std.proofs.lemmas.List.Elements.{All-get_or}
use Rattle.reg_table.proofs.Walks.{cluster-child, register-child}
use Rattle.svd_model.specs.declared.device.Cluster.{out-Cluster}
use Rattle.svd_model.specs.declared.device.Item.{Item}
use Rattle.svd_model.specs.Keys.{Key}
use Rattle.svd_model.specs.Properties.{holding}
use Rattle.svd_model.specs.Steps.{Step}
use Rattle.svd_model.specs.Trees.{item_under}
use Rattle.svd_model.proofs.Lists.{drop_past, from_place}
use Rattle.svd_rows.specs.Forest.{Tree, siblings}
use Rattle.crate_form.specs.Crates.{takes_indexes}
use Rattle.crate_form.specs.Elements.{HaveArrays, StandsAlone}
use Rattle.crate_form.proofs.Standing.{stand-cluster, stand-each}
use Rattle.crate_form.proofs.Versions.{indexes-cluster, indexes-none, indexes-others, indexes-register, indexes-some}
use Rattle.crate_form.proofs.arrays.+search.Goals as goal

pub any_has_arrays-loop-item-preserved : goal.any_has_arrays-loop-item-preserved
any_has_arrays-loop-item-preserved t c =
    λ outer stand.
    let item = c.item-item.result in
    let others = map item_under (drop (c.loop-item.item-index + 1) c.args.items.now) in
    let left = from_place c.args.items.now c.loop-item.item-index item c.loop-item-test.true c.item-item.is in
    let alone = subst (λ (item : Item). StandsAlone outer (item_under item)) (sym c.item-item.is) (All-get_or (λ (item : Item). StandsAlone outer (item_under item)) c.args.items.now c.loop-item.item-index item c.loop-item-test.true stand) in
    sym (indexes-others outer (item_under item) others (sym (c.item_has_arrays.ensures outer alone) ∙ c.if-item_has_arrays.false))
    ∙ (sym (ap (λ items. takes_indexes outer (siblings (map item_under items))) left) ∙ c.loop-item.invariant outer stand)

pub any_has_arrays-returns-then-item_has_arrays : goal.any_has_arrays-returns-then-item_has_arrays
any_has_arrays-returns-then-item_has_arrays t c =
    λ outer stand.
    let item = c.item-item.result in
    let others = map item_under (drop (c.loop-item.item-index + 1) c.args.items.now) in
    let left = from_place c.args.items.now c.loop-item.item-index item c.loop-item-test.true c.item-item.is in
    let alone = subst (λ (item : Item). StandsAlone outer (item_under item)) (sym c.item-item.is) (All-get_or (λ (item : Item). StandsAlone outer (item_under item)) c.args.items.now c.loop-item.item-index item c.loop-item-test.true stand) in
    let some = indexes-some outer (item_under item) others (sym (c.item_has_arrays.ensures outer alone) ∙ c.if-item_has_arrays.true) in
    sym (sym (c.loop-item.invariant outer stand) ∙ (ap (λ items. takes_indexes outer (siblings (map item_under items))) left ∙ some))

pub any_has_arrays-returns : goal.any_has_arrays-returns
any_has_arrays-returns t c =
    λ outer stand.
    let past = drop_past c.args.items.now c.loop-item.item-index c.loop-item-test.false in
    sym (sym (c.loop-item.invariant outer stand) ∙ (ap (λ items. takes_indexes outer (siblings (map item_under items))) past ∙ indexes-none outer))

pub item_has_arrays-returns-in-Cluster : goal.item_has_arrays-returns-in-Cluster
item_has_arrays-returns-in-Cluster t c =
    λ outer stand.
    let item = c.args.item.now in
    let cluster = c.in-Cluster.cluster in
    let is = cluster-child item cluster c.in-Cluster.is in
    let inner = holding ((out-Cluster cluster).props ∷ outer ∷ []) in
    let has = subst (λ (items : List Item). HaveArrays items c.any_has_arrays.result) c.as_slice.ensures.value c.any_has_arrays.ensures in
    has inner (stand-each inner (out-Cluster cluster).children.items (stand-cluster outer item.key cluster (subst (StandsAlone outer) is stand)))
    ∙ (sym (indexes-cluster outer item.key cluster) ∙ sym (ap (λ (x : Step × Tree Step Key). takes_indexes outer (siblings (x ∷ []))) is))

pub item_has_arrays-returns-in-Register : goal.item_has_arrays-returns-in-Register
item_has_arrays-returns-in-Register t c =
    λ outer stand.
    let item = c.args.item.now in
    let register = c.in-Register.register in
    let is = register-child item register c.in-Register.is in
    c.register_has_arrays.ensures
    ∙ (sym (indexes-register outer item.key register (subst (StandsAlone outer) is stand)) ∙ sym (ap (λ (x : Step × Tree Step Key). takes_indexes outer (siblings (x ∷ []))) is))
