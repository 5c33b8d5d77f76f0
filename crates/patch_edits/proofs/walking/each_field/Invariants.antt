use Rattle.std.proofs.Common.{Some, map}
use Rattle.patch_sem.specs.Selecting.{selects}
use Rattle.patch_edits.proofs.Fields.{Decides}
use Rattle.patch_edits.specs.Visits.{visited}
use Rattle.patch_edits.proofs.walking.each_field.Given as goal

abbrev pub invariant-loop-key : goal.invariant-loop-key
invariant-loop-key g l =
    Decides l.first (λ kind. visited (g.E.Edit.edit l.edit) (map selects l.rest) (Some kind)) l.key-iterator l.fields.entries
