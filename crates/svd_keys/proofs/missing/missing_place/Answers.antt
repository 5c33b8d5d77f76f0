use Rattle.std.proofs.Common.{◌∙◌, ◌||◌}
use Rattle.svd_keys.specs.Missing.{missing_place, missing_ends}
use Rattle.svd_keys.specs.Runs.{first_of}
use Rattle.svd_keys.proofs.missing.missing_place.Goals as goal

pub returns : goal.returns
unfolding missing_place
returns c =
    c.missing_ends.ensures
    ∙ (λ i. first_of (missing_ends (c.states-range.ensures i) (c.states-low.ensures i) (c.states-high.ensures i) ((c.either.ensures ∙ (λ j. c.states-offset.ensures j || c.is_derived.ensures j)) i)))
