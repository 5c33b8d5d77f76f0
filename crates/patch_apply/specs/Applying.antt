-- What a patch leaves of a description's flat rows, or its fault.
use Rattle.std.specs.Prelude.{◌≡◌, ◌⊎◌, List, Result, Ok, Err, MatchResult}
use Rattle.patch_model.specs.Acts.{Order}
use Rattle.patch_sem.specs.declared.fault.PatchFault.{PatchFault}
use Rattle.patch_sem.specs.declared.fault.PatchFault.TheVariants.{Memory}
use Rattle.patch_sem.specs.Patching.{patched}
use Rattle.patch_sem.specs.Selecting.{Rows}

-- the fault is that of the commands; want of memory says nothing of them
abbrev pub IsFaultOf : List Order → Rows → PatchFault → Type 0
IsFaultOf orders all fault = (fault ≡ Memory) ⊎ (patched orders all ≡ Err fault)

-- the rows of what is left are those of all commands, or the fault is theirs
abbrev pub IsPatched : {A : Type 0} → List Order → Rows → (A → Rows) → Result A PatchFault → Type 0
IsPatched orders all seen result = MatchResult result (λ made. patched orders all ≡ Ok (seen made)) (IsFaultOf orders all)
