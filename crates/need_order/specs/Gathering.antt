-- Distinct numbers below a limit that are gathered one after the other.
use Rattle.std.specs.Prelude.{◌≡◌, ℕ, Bool, false, cond, nat_eq, nat_lt, not, List, [], ◌∷◌, ◌++◌, get_or}
use Rattle.std.specs.List.{list_any, IsDistinct}
use Rattle.need_order.specs.Needs.{among}

pub record Gathering : Type 0 where
  pub limit : ℕ
  pub items : List ℕ

abbrev pub gathering : ℕ → List ℕ → Gathering
gathering limit items = record { limit = limit; items = items }

-- the number behind the others, where it is below the limit and not among them
abbrev pub with_item : ℕ → ℕ → List ℕ → List ℕ
with_item limit d items = cond (nat_lt d limit) (cond (among d items) items (items ++ d ∷ [])) items

-- the same for each of these
unfoldable pub with_items : ℕ → List ℕ → List ℕ → List ℕ
with_items limit [] items = items
with_items limit (d ∷ ds) items = with_items limit ds (with_item limit d items)

-- these were gathered too
abbrev pub Gathers : Gathering → Gathering → List ℕ → Type 0
Gathers old new numbers = new ≡ gathering old.limit (with_items old.limit numbers old.items)

-- the flags tell which numbers are there, and none is there twice
pub record FlagsTell (flags : List Bool) (items : List ℕ) : Type 0 where
  pub told : (d : ℕ) → get_or flags d false ≡ among d items
  pub distinct : IsDistinct nat_eq items

-- one of the needs isn't among the items
abbrev pub lacks : List ℕ → List ℕ → Bool
lacks items needs = list_any (λ d. not (among d items)) needs
