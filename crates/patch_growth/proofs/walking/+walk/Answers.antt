use Rattle.std.proofs.Common.{◌<◌, ◌≤◌, length, Some, map, refl, sym, ap, ◌∙◌, rules}
use Rattle.std.proofs.lemmas.Option.{slice_get-get_or}
use Rattle.glob_select.specs.Matching.{matches}
use Rattle.patch_sem.specs.Selecting.{selects}
use Rattle.patch_edits.proofs.EditedTrees.{item-selected}
use Rattle.patch_growth.proofs.GrownTrees.{cluster-grown, item-grown, register-grown}
use Rattle.patch_growth.proofs.Passed.{broke_off, one, passed-end, passed-fault, passed-start, passed-step}
use Rattle.patch_growth.specs.Growths.{each, grown_all, only_if}
use Rattle.svd_model.specs.Trees.{item_under, register_places}
use Rattle.svd_rows.specs.Forest.{siblings}
use Rattle.patch_growth.proofs.walking.+walk.Goals as goal

pub in_child-returns-in-Cluster : goal.in_child-returns-in-Cluster
in_child-returns-in-Cluster g t c =
    cluster-grown (grown_all (g.M.Maker.growth c.args.maker.now) (map selects c.args.patterns.now)) c.args.total.now c.in_items.new.total c.args.child.now c.in-Cluster.cluster _ c.in_items.result c.in-Cluster.is refl refl refl refl refl c.in_items.ensures.in_cluster

pub in_child-returns-in-Register : goal.in_child-returns-in-Register
unfolding register_places
in_child-returns-in-Register g t c =
    register-grown (grown_all (g.M.Maker.growth c.args.maker.now) (map selects c.args.patterns.now)) c.args.total.now c.in_fields.new.total c.args.child.now c.in-Register.register _ c.in_fields.result c.in-Register.is refl c.in_fields.ensures

pub one_item-returns-then-matches : goal.one_item-returns-then-matches
one_item-returns-then-matches g t c =
    item-grown c.args.first.now c.args.total.now c.in_child.new.total (grown_all (g.M.Maker.growth c.args.maker.now) (map selects c.args.rest.now)) c.args.item.now _ c.in_child.result
    (ap (matches c.args.first.now) (sym c.bytes.ensures.same) ∙ sym c.matches.ensures ∙ c.if-matches.true) refl c.in_child.ensures

pub one_item-returns-else-matches : goal.one_item-returns-else-matches
one_item-returns-else-matches g t c = (
  ap (λ b. only_if b (grown_all (g.M.Maker.growth c.args.maker.now) (map selects c.args.rest.now) (Some (item_under c.args.item.now).0.kind) c.args.total.now (item_under c.args.item.now).1.below) (c.args.total.now, (item_under c.args.item.now).1.below))
      (item-selected c.args.first.now c.args.item.now _ (ap (matches c.args.first.now) (sym c.bytes.ensures.same) ∙ sym c.matches.ensures ∙ c.if-matches.false)),
  refl,
  refl,
)

pub each_item-loop-index-init : goal.each_item-loop-index-init
each_item-loop-index-init g t c =
    ((refl, λ k d le. refl), passed-start (selects c.args.first.now) (λ kind. grown_all (g.M.Maker.growth c.args.maker.now) (map selects c.args.rest.now) (Some kind)) item_under c.args.total.now c.args.items.now.items)

pub each_item-returns-in_err-one_item : goal.each_item-returns-in_err-one_item
each_item-returns-in_err-one_item g t c =
    let within : c.loop-index.index < length c.loop-index.items.items = search rules in
    let here = slice_get-get_or c.loop-index.items.items c.loop-index.index c.index_mut.result.now within ∙ ap Some (sym c.index_mut.ensures.value) in
    broke_off (one (selects c.args.first.now) (λ kind. grown_all (g.M.Maker.growth c.args.maker.now) (map selects c.args.rest.now) (Some kind)) item_under c.loop-index.total c.index_mut.result.now)
    (each (selects c.args.first.now) (λ kind. grown_all (g.M.Maker.growth c.args.maker.now) (map selects c.args.rest.now) (Some kind)) c.args.total.now (siblings (map item_under c.args.items.now.items)))
    _ _ c.in_err-one_item.field-0.0 c.from_residual.result c.from_residual.ensures.1
    (λ e. passed-fault (selects c.args.first.now) (λ kind. grown_all (g.M.Maker.growth c.args.maker.now) (map selects c.args.rest.now) (Some kind)) item_under c.args.total.now c.args.items.now.items c.loop-index.total c.loop-index.items.items c.loop-index.index c.index_mut.result.now c.in_err-one_item.field-0.0 here e c.loop-index.invariant.1)
    c.in_err-one_item.ensures

pub each_item-loop-index-preserved : goal.each_item-loop-index-preserved
each_item-loop-index-preserved g t c =
    let within : c.loop-index.index < length c.loop-index.items.items = search rules in
    let here = slice_get-get_or c.loop-index.items.items c.loop-index.index c.index_mut.result.now within ∙ ap Some (sym c.index_mut.ensures.value) in (
      search rules,
      passed-step (selects c.args.first.now) (λ kind. grown_all (g.M.Maker.growth c.args.maker.now) (map selects c.args.rest.now) (Some kind)) item_under c.args.total.now c.args.items.now.items c.loop-index.total c.loop-index.items.items c.loop-index.index c.one_item.new.total c.index_mut.result.now c.one_item.new.item here c.in_ok-one_item.ensures c.loop-index.invariant.1,
    )

pub each_item-returns : goal.each_item-returns
each_item-returns g t c =
    let done : length c.loop-index.items.items ≤ c.loop-index.index = search rules in
    passed-end (selects c.args.first.now) (λ kind. grown_all (g.M.Maker.growth c.args.maker.now) (map selects c.args.rest.now) (Some kind)) item_under c.args.total.now c.args.items.now.items c.loop-index.total c.loop-index.items.items c.loop-index.index done c.loop-index.invariant.1
