-- What is made, and what is left, come to all entries under their names without the prefix.
use Rattle.std.proofs.Common.{map}
use Rattle.patch_names.proofs.Rebuilt.{MadeUpTo}
use Rattle.patch_names.specs.Renaming.{stripped_entry}
use Rattle.patch_names.proofs.renaming.strip_entries.Given as goal

abbrev pub invariant-loop-key : goal.invariant-loop-key
invariant-loop-key g l = MadeUpTo (map (stripped_entry l.prefix) l.fn.entries.entries) l.made.entries (map (stripped_entry l.prefix) l.key-iterator)
