-- What the definitions of buses mean: which byte a value sets, that a value is read back, and what acts keep and fit.
use Rattle.std.specs.Prelude.{◌≡◌, ◌↔◌, ℕ, ◌≤◌, ◌<◌, ◌+◌, ◌^◌, ◌⊎◌, List, ◌∷◌, ◌++◌}
use Rattle.pac_bus.specs.Memory.{Memory, value_at, with_value}
use Rattle.pac_bus.specs.Acts.{Gives, Act, Kept, Fits, FitsOne}
use Rattle.pac_bus.specs.Acts.Gives.{Free, Zeros}

-- a value that so many bytes can hold is read back where it was set
abbrev pub ReadsBack : Type 0
ReadsBack = (memory : Memory) (address count value : ℕ) → value < 256 ^ count → value_at (with_value memory address count value) address count ≡ value

-- a value that is set leaves what is read beside it
abbrev pub LeavesOthers : Type 0
LeavesOthers =
    (memory : Memory) (address count value other many : ℕ)
    → (other + many ≤ address) ⊎ (address + count ≤ other)
    → value_at (with_value memory address count value) other many ≡ value_at memory other many

-- a bus that gives anything, or zeros, goes on giving them
pub record GivesStay : Type 0 where
  pub free : (acts : List Act) → Kept Free acts ≡ Free
  pub zeros : (acts : List Act) → Kept Zeros acts ≡ Zeros

-- acts after acts: they keep what the later ones keep of what the earlier ones kept
abbrev pub KeepsInTurn : Type 0
KeepsInTurn = (gives : Gives) (acts more : List Act) → Kept gives (acts ++ more) ≡ Kept (Kept gives acts) more

-- acts fit exactly where each of them fits what is given after those before it
abbrev pub FitsEach : Type 0
FitsEach =
    (gives : Gives) (acts : List Act)
    → Fits gives acts ↔ ((before after : List Act) (act : Act) → acts ≡ before ++ (act ∷ after) → FitsOne (Kept gives before) act)
