-- What is made, and what is left, come to all entries under their keys then.
use Rattle.std.proofs.Common.{Some, map}
use Rattle.patch_changes.specs.Listed.{new_entry}
use Rattle.patch_names.proofs.Rebuilt.{MadeUpTo}
use Rattle.patch_changes.proofs.entries.put_under.Given as goal

abbrev pub invariant-loop-key : goal.invariant-loop-key
invariant-loop-key g l = MadeUpTo (map (new_entry l.pattern (Some l.name)) l.fn.entries.entries) l.made.entries (map (new_entry l.pattern (Some l.name)) l.key-iterator)
