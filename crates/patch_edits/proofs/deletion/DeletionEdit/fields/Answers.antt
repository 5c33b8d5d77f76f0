use Rattle.std.proofs.Common.{inr}
use Rattle.std.proofs.lemmas.Bool.{both_ways}
use Rattle.patch_edits.proofs.Deleting.{deletes-none, deletes-some, is_matched, field_tells}
use Rattle.patch_edits.specs.Deletions.{deleted_below}
use Rattle.svd_model.specs.Trees.{field_under}
use Rattle.patch_edits.proofs.deletion.DeletionEdit.fields.Goals as goal

pub returns-then-keep_others-clause-edited : goal.returns-then-keep_others-clause-edited
unfolding deleted_below
returns-then-keep_others-clause-edited c =
    inr (deletes-none c.args.self.now.line c.args.self.now.pattern.now field_under (is_matched c.args.self.now.pattern.now) (field_tells c.args.self.now.pattern.now) c.args.fields.now.entries c.keep_others.new.entries.entries c.keep_others.ensures.kept (c.keep_others.ensures.all.0 c.if-keep_others.true))

pub returns-clause-edited : goal.returns-clause-edited
unfolding deleted_below
returns-clause-edited c =
    deletes-some c.args.self.now.line c.args.self.now.pattern.now field_under (is_matched c.args.self.now.pattern.now) (field_tells c.args.self.now.pattern.now) c.args.fields.now.entries c.keep_others.new.entries.entries c.keep_others.ensures.kept (λ e. both_ways _ c.if-keep_others.false (c.keep_others.ensures.all.1 e))
