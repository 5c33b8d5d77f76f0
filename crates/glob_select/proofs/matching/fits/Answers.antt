use Rattle.std.proofs.Common.{sym, ◌∙◌}
use Rattle.glob_select.proofs.Stars.{walk-none, walk-some}
use Rattle.glob_select.proofs.Walks.{empty_length, fits_moves, fits_nowhere, fits_ends}
use Rattle.glob_select.proofs.matching.fits.Goals as goal

pub returns-in_default : goal.returns-in_default
returns-in_default c = sym (walk-none _ _ (sym c.in_default.ensures.walk))

pub loop-after-init : goal.loop-after-init
loop-after-init c = let is = walk-some _ _ _ (sym c.in-Some.ensures.walk) in (sym is.same, is.stops)

pub returns-in_default-first_walk : goal.returns-in_default-first_walk
returns-in_default-first_walk c = fits_nowhere _ _ _ _ (sym c.in-Some-token_at.ensures.read) (sym c.in_default-first_walk.ensures.walk) c.loop-after.invariant

pub loop-after-preserved : goal.loop-after-preserved
loop-after-preserved c = fits_moves _ _ _ _ _ (sym c.in-Some-token_at.ensures.read) (sym c.in-Some-first_walk.ensures.walk) c.loop-after.invariant

pub returns : goal.returns
returns c = c.is_empty.ensures ∙ empty_length _ ∙ fits_ends _ _ _ (sym c.in_default-token_at.ensures.read) c.loop-after.invariant
