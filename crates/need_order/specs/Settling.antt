-- Elements that are settled behind what they need.
use Rattle.std.specs.Prelude.{◌≡◌, ◌⊎◌, ℕ, ◌<◌, true, false, cond, nat_eq, nat_lt, List, [], ◌∷◌, ◌++◌, ⊤}
use Rattle.std.specs.List.{IsDistinct}
use Rattle.need_order.specs.Gathering.{Gathering, gathering, lacks, with_item}
use Rattle.need_order.specs.Needs.{among}

-- behind those before them, each stands behind all that it needs
unfoldable pub Follows : (ℕ → List ℕ) → List ℕ → List ℕ → Type 0
Follows needs before [] = ⊤
Follows needs before (e ∷ rest) = (lacks before (needs e) ≡ false) × Follows needs (before ++ e ∷ []) rest

-- the element behind the others, where it needs nothing else than them
abbrev pub settled : ℕ → (ℕ → List ℕ) → ℕ → ℕ → List ℕ → List ℕ
settled n needs limit e items = cond (nat_lt e n) (cond (lacks items (needs e)) items (with_item limit e items)) items

-- the same for each of these
unfoldable pub swept : ℕ → (ℕ → List ℕ) → ℕ → List ℕ → List ℕ → List ℕ
swept n needs limit [] items = items
swept n needs limit (e ∷ es) items = swept n needs limit es (settled n needs limit e items)

-- an element was tried
abbrev pub Tries : (ℕ → List ℕ) → ℕ → Gathering → Gathering → ℕ → Type 0
Tries needs n old new e = new ≡ gathering old.limit (settled n needs old.limit e old.items)

-- these were tried, one after the other
abbrev pub Sweeps : (ℕ → List ℕ) → ℕ → Gathering → Gathering → List ℕ → Type 0
Sweeps needs n old new es = new ≡ gathering old.limit (swept n needs old.limit es old.items)

-- each stands behind what it needs, and each that is left lacks something
pub record IsSettled (needs : ℕ → List ℕ) (n : ℕ) (items : List ℕ) : Type 0 where
  pub follows : Follows needs [] items
  pub distinct : IsDistinct nat_eq items
  pub below : (e : ℕ) → among e items ≡ true → e < n
  pub left : (e : ℕ) → e < n → (among e items ≡ true) ⊎ (lacks items (needs e) ≡ true)
