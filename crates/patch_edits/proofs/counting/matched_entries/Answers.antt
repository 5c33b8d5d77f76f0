use Rattle.std.proofs.Common.{filter, map, arith, ap, sym, zero-add, ◌∙◌}
use Rattle.glob_select.specs.Matching.{matches}
use Rattle.patch_edits.proofs.Deleting.{is_matched}
use Rattle.patch_edits.proofs.Totals.{counted-none, counted-one, counted-past}
use Rattle.svd_model.proofs.Counts.{told-fits}
use Rattle.svd_model.specs.Counting.{elements_in, told_count}
use Rattle.svd_rows.specs.Forest.{siblings}
use Rattle.patch_edits.proofs.counting.matched_entries.Goals as goal

pub loop-key-init : goal.loop-key-init
loop-key-init g c = record {
  sum = ap told_count (zero-add _) ∙ ap (λ entries. told_count (elements_in (siblings (map g.V.Counted.under (filter (is_matched c.args.pattern.now) entries))))) c.into_iter-key-iterator.ensures.into_iter_gives.0;
  fits = omega arith;
}

pub loop-key-preserved-then-matches : goal.loop-key-preserved-then-matches
loop-key-preserved-then-matches g c = record {
  sum =
      counted-one g.V.Counted.under (is_matched c.args.pattern.now) c.one_more-total.result c.loop-key.total c.below.result (told_count (elements_in (siblings (map g.V.Counted.under (filter (is_matched c.args.pattern.now) c.args.entries.now.entries)))))
      (c.in-Some.key.now, c.in-Some.value.now) c.next.new.self c.loop-key.key-iterator (g.V.Counted.counts (c.in-Some.key.now, c.in-Some.value.now)) c.in-Some.ensures.steps
      (ap (matches c.args.pattern.now) (sym c.bytes.ensures.same) ∙ sym c.matches.ensures ∙ c.if-matches.true)
      (c.below.ensures c.in-Some.key.now) c.one_more-total.ensures c.loop-key.invariant.sum;
  fits = told-fits c.one_more-total.result _ c.one_more-total.ensures;
}

pub loop-key-preserved : goal.loop-key-preserved
loop-key-preserved g c = record {
  sum =
      counted-past g.V.Counted.under (is_matched c.args.pattern.now) c.loop-key.total (told_count (elements_in (siblings (map g.V.Counted.under (filter (is_matched c.args.pattern.now) c.args.entries.now.entries)))))
      (c.in-Some.key.now, c.in-Some.value.now) c.next.new.self c.loop-key.key-iterator c.in-Some.ensures.steps
      (ap (matches c.args.pattern.now) (sym c.bytes.ensures.same) ∙ sym c.matches.ensures ∙ c.if-matches.false) c.loop-key.invariant.sum;
  fits = c.loop-key.invariant.fits;
}

pub returns : goal.returns
returns g c =
    counted-none g.V.Counted.under (is_matched c.args.pattern.now) c.loop-key.total (told_count (elements_in (siblings (map g.V.Counted.under (filter (is_matched c.args.pattern.now) c.args.entries.now.entries))))) c.loop-key.key-iterator
    c.loop-key.invariant.fits c.in-None.ensures.steps.0 c.loop-key.invariant.sum
