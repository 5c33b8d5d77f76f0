-- A patch goes from step to step, up to the first fault.
use Rattle.std.specs.Prelude.{ℕ, Bool, true, false, List, [], ◌∷◌, Result, Ok, Err}
use Rattle.patch_sem.specs.declared.fault.PatchFault.{PatchFault}
use Rattle.patch_sem.specs.declared.fault.PatchFault.TheVariants.{NoMatch}

-- what a step comes to, or its fault
abbrev pub Outcome : Type 0 → Type 0
Outcome A = Result A PatchFault

-- a step, and then those behind it
infixl 10 ◌>>=◌
abbrev pub ◌>>=◌ : {A B : Type 0} → Outcome A → (A → Outcome B) → Outcome B
(Ok x) >>= others = others x
(Err fault) >>= others = Err fault

-- the fault where the test holds, else the rest
abbrev pub refused_if : {A : Type 0} → Bool → PatchFault → Outcome A → Outcome A
refused_if true fault rest = Err fault
refused_if false fault rest = rest

-- the fault that nothing matches where nothing does, else the rest
abbrev pub unless_none : {A B : Type 0} → ℕ → List A → Outcome B → Outcome B
unless_none line [] rest = Err (NoMatch line)
unless_none line (one ∷ others) rest = rest
