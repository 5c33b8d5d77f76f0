use Rattle.std.proofs.Common.{◌≡◌, length}
use Rattle.svd_keys.specs.Forms.{path_of, parts_of}
use Rattle.svd_keys.specs.Runs.{steps_with}
use Rattle.patch_settings.proofs.path.path.Given as goal

abbrev pub invariant-parts : goal.invariant-parts
invariant-parts l = steps_with l.steps (parts_of 46 l.rest) ≡ path_of l.text

abbrev pub decreases-parts : goal.decreases-parts
decreases-parts l = length l.rest
