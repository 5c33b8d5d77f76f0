-- Without a new name nothing is renamed.
use Rattle.patch_changes.proofs.InLists.{unnamed-entries}
use Rattle.patch_changes.proofs.entries.rename_entries.Goals as goal

pub returns-in_default : goal.returns-in_default
returns-in_default g c = unnamed-entries c.args.line c.args.pattern.now c.args.name.now c.args.entries.now.entries c.in_default.not-Some
