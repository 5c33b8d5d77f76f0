-- What children become, as an edit of what stands below their parent.
use Rattle.std.proofs.Common.{ℕ, List, Result, sym, ap, subst}
use Rattle.patch_edits.specs.Edits.{Edited}
use Rattle.patch_edits.specs.Visits.{Below}
use Rattle.patch_model.specs.Acts.{PatternItems}
use Rattle.patch_sem.specs.declared.fault.PatchFault.{PatchFault}
use Rattle.patch_sem.specs.Steps.{Outcome}
use Rattle.patch_arrays.proofs.Elements.{elements-siblings}
use Rattle.patch_arrays.specs.Arranging.{Element, arraying_in, elements}
use Rattle.patch_arrays.specs.Makings.{capped}
use Rattle.svd_rows.specs.Forest.{siblings}

pub edited-in : (line : ℕ) (pattern : PatternItems) (name : List ℕ) (old new : List Element) (result : Result (Unit {0}) PatchFault)
    → Edited (arraying_in capped line pattern name old) (siblings new) result → Edited (arraying_in capped line pattern name (elements (siblings old))) (siblings new) result
edited-in line pattern name old new result edited =
    subst (λ (outcome : Outcome Below). Edited outcome (siblings new) result) (sym (ap (arraying_in capped line pattern name) (elements-siblings old))) edited
