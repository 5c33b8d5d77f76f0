use Rattle.std.proofs.Common.{inr, sym, ap, ◌∙◌, Err}
use Rattle.patch_sem.specs.declared.fault.PatchFault.TheVariants.{NoMatch}
use Rattle.patch_growth.proofs.Fields.{fields-none, fields-passed}
use Rattle.patch_growth.proofs.walking.at_last.Goals as goal

pub returns-then-matches_one : goal.returns-then-matches_one
returns-then-matches_one g c =
    inr (fields-none (g.M.Maker.growth c.args.maker.now) c.args.first.now c.args.total c.args.fields.now.entries (sym c.matches_one.ensures ∙ c.if-matches_one.true) ∙ ap (λ n. Err (NoMatch n)) (sym c.line.ensures))

pub returns : goal.returns
returns g c =
    fields-passed (g.M.Maker.growth c.args.maker.now) c.args.first.now c.args.total c.args.fields.now.entries (sym c.matches_one.ensures ∙ c.if-matches_one.false)
