-- Opening and deleting in the tree: the edits of what is below one element.
use Rattle.std.specs.Prelude.{ℕ, List, filter, Option, Some, Ok, Err}
use Rattle.patch_model.specs.Acts.{PatternItems}
use Rattle.patch_sem.specs.declared.fault.PatchFault.TheVariants.{NoMatch}
use Rattle.patch_sem.specs.Selecting.{selects}
use Rattle.patch_sem.specs.Steps.{Outcome, unless_none}
use Rattle.patch_edits.specs.Visits.{Below}
use Rattle.svd_model.specs.Steps.{Kind, Step, field}
use Rattle.svd_rows.specs.Edits.{replaced}
use Rattle.svd_rows.specs.Forest.{leaf, steps}

-- a field has no children for a patch
abbrev pub but_in_field : ℕ → Option Kind → Outcome Below → Outcome Below
but_in_field line (Some field) edited = Err (NoMatch line)
but_in_field line kind edited = edited

-- the children that a pattern matches
abbrev pub matched : PatternItems → Below → List Step
matched pattern below = filter (selects pattern) (steps below)

-- nothing changes, but something must match
unfoldable pub opened_below : ℕ → PatternItems → Option Kind → Below → Outcome Below
opened_below line pattern kind below = but_in_field line kind (unless_none line (matched pattern below) (Ok below))

-- what matches is taken away
unfoldable pub deleted_below : ℕ → PatternItems → Option Kind → Below → Outcome Below
deleted_below line pattern kind below =
    but_in_field line kind (unless_none line (matched pattern below) (Ok (replaced (selects pattern) (λ step child. leaf) below)))
