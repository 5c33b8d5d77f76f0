-- Elements that are made of a table: one that is added to those before it, and all of some numbers, where the table can
-- be built.
use Rattle.std.specs.Prelude.{◌≡◌, ℕ, List, [], ◌∷◌, ◌++◌, map, Option, Some}
use Rattle.std.specs.List.{AllByRecursion, IsDistinct}
use Rattle.derive_build.specs.declared.settled.Settled.{Settled}
use Rattle.derive_build.specs.Tables.{IsKid, IsNew, named, steps_in, under}
use Rattle.svd_model.specs.Keys.{Key}
use Rattle.svd_model.specs.Steps.{Step, Kind, same_key}
use Rattle.svd_rows.specs.Forest.{Tree}

-- sets or values, whose parent is of this kind
abbrev pub AddsNamed : {A : Type 0} → (A → (List ℕ × Tree Step Key)) → Kind → List Settled → List A → List A → ℕ → Type 0
AddsNamed seen kind table old new e =
    (levels : ℕ) → IsKid table levels (Some kind) e → map seen new ≡ map seen old ++ named table levels e ∷ []

abbrev pub MakesNamed : {A : Type 0} → (A → (List ℕ × Tree Step Key)) → Kind → List Settled → List A → List ℕ → Type 0
MakesNamed seen kind table made numbers =
    (levels : ℕ) → AllByRecursion (IsKid table levels (Some kind)) numbers → map seen made ≡ map (named table levels) numbers

-- elements with keys, whose parent is of this kind, so many levels down
abbrev pub AddsUnder : {A : Type 0} → (A → (Step × Tree Step Key)) → Option Kind → List Settled → ℕ → List A → List A → ℕ → Type 0
AddsUnder seen kind table levels old new e =
    IsKid table levels kind e → IsNew table (map seen old) e → map seen new ≡ map seen old ++ under table levels e ∷ []

abbrev pub MakesUnder : {A : Type 0} → (A → (Step × Tree Step Key)) → Option Kind → List Settled → ℕ → List A → List ℕ → Type 0
MakesUnder seen kind table levels made numbers =
    AllByRecursion (IsKid table levels kind) numbers → IsDistinct same_key (steps_in table numbers) → map seen made ≡ map (under table levels) numbers
