-- What a function of the reader returns, against what reading gives.
use Rattle.std.specs.Prelude.{◌≡◌, ℕ, List, ◌++◌, Option, Some, None, Result, Ok, Err}
use Rattle.text_scan.specs.Steps.{◌>>=◌}
use Rattle.yaml_block.specs.declared.refusal.Refusal.{Refusal}
use Rattle.yaml_block.specs.declared.refusal.Refusal.TheVariants.{NotInForm, Memory}

-- Reading gives nothing, or memory ran out.
abbrev pub Fails : {Y : Type 0} → Refusal → Option Y → Type 0
Fails NotInForm read = read ≡ None
Fails Memory read = Unit {0}

-- What a function returned, seen by `view`, is what reading gives, unless memory ran out.
abbrev pub Gives : {X Y : Type 0} → (X → Y) → Result X Refusal → Option Y → Type 0
Gives view (Ok x) read = read ≡ Some (view x)
Gives view (Err fault) read = Fails fault read

-- items that were read before, in front of those that reading gives
abbrev pub with_front : {X : Type 0} → List X → Option (List X × List ℕ) → Option (List X × List ℕ)
with_front front read = read >>= λ items. Some (front ++ items.0, items.1)
