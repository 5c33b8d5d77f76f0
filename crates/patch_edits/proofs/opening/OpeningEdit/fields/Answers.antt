use Rattle.std.proofs.Common.{inr, sym, ◌∙◌}
use Rattle.patch_edits.proofs.Deleting.{opens-none, opens-some, is_matched, field_tells}
use Rattle.patch_edits.specs.Deletions.{opened_below}
use Rattle.svd_model.specs.Trees.{field_under}
use Rattle.patch_edits.proofs.opening.OpeningEdit.fields.Goals as goal

pub returns-then-matches_one-clause-edited : goal.returns-then-matches_one-clause-edited
unfolding opened_below
returns-then-matches_one-clause-edited c =
    opens-some c.args.self.now.line c.args.self.now.pattern.now field_under (is_matched c.args.self.now.pattern.now) (field_tells c.args.self.now.pattern.now) c.args.fields.now.entries (sym c.matches_one.ensures ∙ c.if-matches_one.true)

pub returns-clause-edited : goal.returns-clause-edited
unfolding opened_below
returns-clause-edited c =
    inr (opens-none c.args.self.now.line c.args.self.now.pattern.now field_under (is_matched c.args.self.now.pattern.now) (field_tells c.args.self.now.pattern.now) c.args.fields.now.entries (sym c.matches_one.ensures ∙ c.if-matches_one.false))
