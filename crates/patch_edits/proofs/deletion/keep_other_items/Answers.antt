use Rattle.std.proofs.Common.{ap, filter, map, ◌∙◌, rules}
use Rattle.std.proofs.lemmas.Fn.{filter_same}
use Rattle.patch_edits.proofs.Deleting.{is_item_matched}
use Rattle.patch_edits.proofs.Recounting.{recounted-without}
use Rattle.svd_model.specs.Counting.{elements_in, told_count}
use Rattle.svd_model.specs.Trees.{item_under}
use Rattle.svd_rows.specs.Forest.{siblings}
use Rattle.patch_edits.proofs.deletion.keep_other_items.Goals as goal

pub returns-clause-kept : goal.returns-clause-kept
returns-clause-kept c = filter_same _ _ _ (λ item b f called. search rules) _ _ c.retain.ensures.filtered

pub returns-clause-counted : goal.returns-clause-counted
returns-clause-counted c =
    recounted-without item_under (is_item_matched c.args.pattern.now) c.args.items.now.items c.retain.new.self.items c.args.total.now c.matched_items.result c.without.result
    (filter_same _ _ _ (λ item b f called. search rules) _ _ c.retain.ensures.filtered)
    (c.matched_items.ensures ∙ ap (λ items. told_count (elements_in (siblings (map item_under (filter (is_item_matched c.args.pattern.now) items))))) c.as_slice.ensures.value) c.without.ensures.fits c.without.ensures.less
