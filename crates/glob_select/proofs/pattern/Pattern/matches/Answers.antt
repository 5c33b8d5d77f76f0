use Rattle.std.proofs.Common.{List, ℕ, sym, ap, ◌∙◌}
use Rattle.glob_select.specs.Matching.{fits}
use Rattle.glob_select.specs.Reading.{items_of}
use Rattle.glob_select.proofs.Alternatives.{matches_found, matches_goes_on, matches_ends}
use Rattle.glob_select.proofs.pattern.Pattern.matches.Goals as goal

pub returns-then-fits : goal.returns-then-fits
returns-then-fits c =
    matches_found c.args.name.now _ _ _ (sym c.in-Some.ensures.read)
    (ap (λ (text : List ℕ). fits (items_of text) c.args.name.now) (sym c.after_spaces.ensures) ∙ sym c.if-fits.ensures) c.loop-after.invariant

pub loop-after-preserved : goal.loop-after-preserved
loop-after-preserved c =
    matches_goes_on c.args.name.now _ _ _ (sym c.in-Some.ensures.read)
    (ap (λ (text : List ℕ). fits (items_of text) c.args.name.now) (sym c.after_spaces.ensures) ∙ sym c.if-fits.ensures) c.loop-after.invariant

pub returns : goal.returns
returns c =
    c.fits-2.ensures ∙ ap (λ (text : List ℕ). fits (items_of text) c.args.name.now) c.after_spaces-2.ensures
    ∙ matches_ends c.args.name.now _ _ (sym c.in_default.ensures.read) c.loop-after.invariant
