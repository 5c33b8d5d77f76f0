use Rattle.std.proofs.Common.{◌<◌, ◌≤◌, length, Some, map, refl, sym, ap, ◌∙◌, rules}
use Rattle.std.proofs.lemmas.Option.{slice_get-get_or}
use Rattle.glob_select.specs.Matching.{matches}
use Rattle.patch_sem.specs.Selecting.{selects}
use Rattle.patch_edits.proofs.Passed.{broke_off, one, passed-end, passed-fault, passed-start, passed-step}
use Rattle.patch_edits.proofs.EditedTrees.{cluster-edited, cluster-recounts, item-edited, item-recounts, item-selected, register-edited, register-recounts}
use Rattle.patch_edits.proofs.Recounting.{recounted-step}
use Rattle.patch_edits.specs.Visits.{each, only_if, visited}
use Rattle.svd_model.specs.Trees.{item_under, register_places}
use Rattle.svd_rows.specs.Forest.{siblings}
use Rattle.patch_edits.proofs.walking.+walk.Goals as goal

pub in_child-returns-in-Cluster-clause-edited : goal.in_child-returns-in-Cluster-clause-edited
in_child-returns-in-Cluster-clause-edited g t c =
    cluster-edited (visited (g.E.Edit.edit c.args.edit.now) (map selects c.args.patterns.now)) c.args.child.now c.in-Cluster.cluster _ c.in_items.result c.in-Cluster.is refl refl refl refl refl c.in_items.ensures.in_cluster

pub in_child-returns-in-Register-clause-edited : goal.in_child-returns-in-Register-clause-edited
unfolding register_places
in_child-returns-in-Register-clause-edited g t c =
    register-edited (visited (g.E.Edit.edit c.args.edit.now) (map selects c.args.patterns.now)) c.args.child.now c.in-Register.register _ c.in_fields.result c.in-Register.is refl c.in_fields.ensures.edited

pub in_child-returns-in-Cluster-clause-counted : goal.in_child-returns-in-Cluster-clause-counted
in_child-returns-in-Cluster-clause-counted g t c =
    cluster-recounts c.args.child.now c.in-Cluster.cluster _ c.in_items.result c.args.total.now c.in_items.new.total c.in-Cluster.is refl refl refl refl refl c.in_items.ensures.counted

pub in_child-returns-in-Register-clause-counted : goal.in_child-returns-in-Register-clause-counted
in_child-returns-in-Register-clause-counted g t c =
    register-recounts c.args.child.now c.in-Register.register _ c.in_fields.result c.args.total.now c.in_fields.new.total c.in-Register.is c.in_fields.ensures.counted

pub one_item-returns-then-matches-clause-counted : goal.one_item-returns-then-matches-clause-counted
one_item-returns-then-matches-clause-counted g t c =
    item-recounts c.args.item.now _ c.in_child.result c.args.total.now c.in_child.new.total c.in_child.ensures.counted

pub one_item-returns-then-matches-clause-edited : goal.one_item-returns-then-matches-clause-edited
one_item-returns-then-matches-clause-edited g t c =
    item-edited c.args.first.now (visited (g.E.Edit.edit c.args.edit.now) (map selects c.args.rest.now)) c.args.item.now _ c.in_child.result
    (ap (matches c.args.first.now) (sym c.bytes.ensures.same) ∙ sym c.matches.ensures ∙ c.if-matches.true) refl c.in_child.ensures.edited

pub one_item-returns-else-matches-clause-edited : goal.one_item-returns-else-matches-clause-edited
one_item-returns-else-matches-clause-edited g t c = (
  ap (λ b. only_if b (visited (g.E.Edit.edit c.args.edit.now) (map selects c.args.rest.now) (Some (item_under c.args.item.now).0.kind) (item_under c.args.item.now).1.below) (item_under c.args.item.now).1.below)
      (item-selected c.args.first.now c.args.item.now _ (ap (matches c.args.first.now) (sym c.bytes.ensures.same) ∙ sym c.matches.ensures ∙ c.if-matches.false)),
  refl,
  refl,
)

pub each_item-loop-index-init : goal.each_item-loop-index-init
each_item-loop-index-init g t c =
    ((refl, λ k d le. refl), passed-start (selects c.args.first.now) (λ kind. visited (g.E.Edit.edit c.args.edit.now) (map selects c.args.rest.now) (Some kind)) item_under c.args.items.now.items, λ others e. e)

pub each_item-returns-in_err-one_item-clause-edited : goal.each_item-returns-in_err-one_item-clause-edited
each_item-returns-in_err-one_item-clause-edited g t c =
    let within : c.loop-index.index < length c.loop-index.items.items = search rules in
    let here = slice_get-get_or c.loop-index.items.items c.loop-index.index c.index_mut.result.now within ∙ ap Some (sym c.index_mut.ensures.value) in
    broke_off (one (selects c.args.first.now) (λ kind. visited (g.E.Edit.edit c.args.edit.now) (map selects c.args.rest.now) (Some kind)) item_under c.index_mut.result.now)
    (each (selects c.args.first.now) (λ kind. visited (g.E.Edit.edit c.args.edit.now) (map selects c.args.rest.now) (Some kind)) (siblings (map item_under c.args.items.now.items)))
    _ c.in_err-one_item.field-0.0 c.from_residual.result c.from_residual.ensures.1
    (λ e. passed-fault (selects c.args.first.now) (λ kind. visited (g.E.Edit.edit c.args.edit.now) (map selects c.args.rest.now) (Some kind)) item_under c.args.items.now.items c.loop-index.items.items c.loop-index.index c.index_mut.result.now c.in_err-one_item.field-0.0 here e c.loop-index.invariant.1)
    c.in_err-one_item.ensures.edited

pub each_item-loop-index-preserved : goal.each_item-loop-index-preserved
each_item-loop-index-preserved g t c =
    let within : c.loop-index.index < length c.loop-index.items.items = search rules in
    let here = slice_get-get_or c.loop-index.items.items c.loop-index.index c.index_mut.result.now within ∙ ap Some (sym c.index_mut.ensures.value) in (
      search rules,
      passed-step (selects c.args.first.now) (λ kind. visited (g.E.Edit.edit c.args.edit.now) (map selects c.args.rest.now) (Some kind)) item_under c.args.items.now.items c.loop-index.items.items c.loop-index.index c.index_mut.result.now c.one_item.new.item here c.in_ok-one_item.ensures.edited c.loop-index.invariant.1,
      recounted-step item_under c.args.items.now.items c.loop-index.items.items c.loop-index.index c.index_mut.result.now c.one_item.new.item c.args.total.now c.loop-index.total c.one_item.new.total here c.in_ok-one_item.ensures.edited.1 c.in_ok-one_item.ensures.counted c.loop-index.invariant.2,
    )

pub each_item-returns-clause-edited : goal.each_item-returns-clause-edited
each_item-returns-clause-edited g t c =
    let done : length c.loop-index.items.items ≤ c.loop-index.index = search rules in
    passed-end (selects c.args.first.now) (λ kind. visited (g.E.Edit.edit c.args.edit.now) (map selects c.args.rest.now) (Some kind)) item_under c.args.items.now.items c.loop-index.items.items c.loop-index.index done c.loop-index.invariant.1
