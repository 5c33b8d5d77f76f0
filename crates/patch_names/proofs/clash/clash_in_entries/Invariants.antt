-- What was seen, and that the names that are left decide.
use Rattle.std.proofs.Common.{map}
use Rattle.patch_names.proofs.Clashes.{Sought}
use Rattle.patch_names.specs.Renaming.{entry_name}
use Rattle.patch_names.proofs.clash.clash_in_entries.Given as goal

abbrev pub invariant-loop-key : goal.invariant-loop-key
invariant-loop-key g l = Sought l.prefix (map entry_name l.entries.entries) l.seen.entries (map entry_name l.key-iterator)
