-- Maps by names, against look-ups in lists.
use Rattle.std.specs.Prelude.{ℕ, ◌≡◌, List, Option, find, option_map}
use Rattle.std.specs.Borrow.{Bor}
use Rattle.std.specs.Map.{lookup}
use Rattle.std.specs.Str.{bytes_eq}

-- what a map by names finds, as the item
abbrev pub named_in : {T : Type 0} → List (List ℕ × Bor T) → List ℕ → Option T
named_in named name = option_map (λ item. item.now) (lookup (bytes_eq name) named)

-- a map finds the first of the items that has the name
abbrev pub FindsFirst : {T : Type 0} → (T → List ℕ) → List T → List (List ℕ × Bor T) → Type 0
FindsFirst name_of items named = (name : List ℕ) → named_in named name ≡ find (λ item. bytes_eq name (name_of item)) items
