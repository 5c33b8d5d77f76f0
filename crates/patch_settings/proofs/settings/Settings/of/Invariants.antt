use Rattle.patch_settings.proofs.Gathering.{Gathered}
use Rattle.patch_settings.specs.Places.{places}
use Rattle.patch_settings.proofs.settings.Settings.of.Given as goal

abbrev pub invariant-loop-entry : goal.invariant-loop-entry
invariant-loop-entry l = Gathered l.held l.keys (places l.made) l.entry-index
