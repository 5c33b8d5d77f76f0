use Rattle.std.proofs.Common.{rules}
use Rattle.std.proofs.lemmas.Map.Made.{filter_same_pairs}
use Rattle.patch_edits.proofs.Deleting.{is_matched}
use Rattle.patch_edits.proofs.Recounting.{recounted-without}
use Rattle.patch_edits.proofs.deletion.keep_others.Goals as goal

pub returns-clause-kept : goal.returns-clause-kept
returns-clause-kept g c = filter_same_pairs _ _ _ (λ key value b kept f called. search rules) _ _ c.retain.ensures.filtered

pub returns-clause-counted : goal.returns-clause-counted
returns-clause-counted g c =
    recounted-without g.V.Counted.under (is_matched c.args.pattern.now) c.args.entries.now.entries c.retain.new.self.entries c.args.total.now c.matched_entries.result c.without.result
    (filter_same_pairs _ _ _ (λ key value b kept f called. search rules) _ _ c.retain.ensures.filtered) c.matched_entries.ensures c.without.ensures.fits c.without.ensures.less
