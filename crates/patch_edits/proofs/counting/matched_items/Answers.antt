use Rattle.std.proofs.Common.{◌≡◌, ◌+◌, ◌∷◌, drop, filter, map, arith, ap, sym, zero-add, ◌∙◌}
use Rattle.std.proofs.lemmas.List.{drop_all, drop_more}
use Rattle.glob_select.specs.Matching.{matches}
use Rattle.patch_edits.proofs.Deleting.{is_item_matched}
use Rattle.patch_edits.proofs.Totals.{counted-none, counted-one, counted-past}
use Rattle.svd_model.proofs.Counts.{item-below, item-counted, told-fits}
use Rattle.svd_model.specs.Counting.{elements_in, told_count}
use Rattle.svd_model.specs.declared.device.Item.{Item}
use Rattle.svd_model.specs.Trees.{item_under}
use Rattle.svd_rows.specs.Forest.{siblings}
use Rattle.patch_edits.proofs.counting.matched_items.Goals as goal
use Rattle.patch_edits.proofs.counting.matched_items.Goals.{else-matches, then-matches}

pub loop-item-init : goal.loop-item-init
loop-item-init c = record { sum = ap told_count (zero-add _); fits = omega arith }

pub loop-item-preserved : goal.loop-item-preserved
loop-item-preserved c =
    let next : drop c.loop-item.item-index c.args.items.now ≡ c.item-item.result ∷ drop (c.loop-item.item-index + 1) c.args.items.now =
    drop_more c.args.items.now c.loop-item.item-index c.item-item.result c.loop-item-test.true ∙ ap (λ (x : Item). x ∷ drop (c.loop-item.item-index + 1) c.args.items.now) (sym c.item-item.is) in
    elim c.if-matches.branch [
      | then-matches w ↦ rw w.total-is (record {
        sum =
            counted-one item_under (is_item_matched c.args.pattern.now) w.one_more-total.result c.loop-item.total w.elements.result (told_count (elements_in (siblings (map item_under (filter (is_item_matched c.args.pattern.now) c.args.items.now)))))
            c.item-item.result (drop (c.loop-item.item-index + 1) c.args.items.now) (drop c.loop-item.item-index c.args.items.now) (item-counted c.item-item.result) next
            (ap (matches c.args.pattern.now) (sym c.bytes.ensures.same) ∙ sym c.matches.ensures ∙ w.if-matches.true)
            (w.elements.ensures ∙ ap told_count (ap elements_in (sym (item-below c.item-item.result)))) w.one_more-total.ensures c.loop-item.invariant.sum;
        fits = told-fits w.one_more-total.result _ w.one_more-total.ensures;
      })
      | else-matches w ↦ rw w.total-is (record {
        sum =
            counted-past item_under (is_item_matched c.args.pattern.now) c.loop-item.total (told_count (elements_in (siblings (map item_under (filter (is_item_matched c.args.pattern.now) c.args.items.now)))))
            c.item-item.result (drop (c.loop-item.item-index + 1) c.args.items.now) (drop c.loop-item.item-index c.args.items.now) next
            (ap (matches c.args.pattern.now) (sym c.bytes.ensures.same) ∙ sym c.matches.ensures ∙ w.if-matches.false) c.loop-item.invariant.sum;
        fits = c.loop-item.invariant.fits;
      })
    ]

pub returns : goal.returns
returns c =
    counted-none item_under (is_item_matched c.args.pattern.now) c.loop-item.total (told_count (elements_in (siblings (map item_under (filter (is_item_matched c.args.pattern.now) c.args.items.now))))) (drop c.loop-item.item-index c.args.items.now)
    c.loop-item.invariant.fits (drop_all c.loop-item.item-index c.args.items.now c.loop-item-test.false) c.loop-item.invariant.sum
