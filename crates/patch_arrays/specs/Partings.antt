-- Children that are parted into those that become members and the others.
use Rattle.std.specs.Prelude.{◌≡◌, ◌≤◌, ℕ, Bool, true, false, not, List, [], ◌∷◌, ◌++◌, filter, take, drop, length}
use Rattle.patch_arrays.specs.declared.parting.Parted.{Parted}
use Rattle.svd_model.specs.declared.sibling.Sibling.{Sibling}
use Rattle.svd_rows.specs.RowEdits.{exchanged}

-- the first of some is put where these others end
abbrev pub next_place : {A : Type 0} → List A → ℕ → ℕ → ℕ
next_place [] here place = here
next_place (x ∷ xs) here place = place

-- what taking one in does, where it becomes a member or not
abbrev pub Takes : {M : Type 0} → Bool → (Sibling × M) → Parted M → Parted M → Type 0
Takes true entry old new =
    (new.members.items ≡ old.members.items ++ entry ∷ []) × (new.others.items ≡ old.others.items) × (new.place ≡ next_place old.members.items (length old.others.items) old.place)
Takes false entry old new =
    (new.members.items ≡ old.members.items) × (new.others.items ≡ old.others.items ++ entry ∷ []) × (new.place ≡ old.place)

-- the others, with new ones where the first of the members stood
abbrev pub put_at : {A : Type 0} → List A → ℕ → List A → List A → List A
put_at [] place new others = others
put_at (member ∷ members) place new others = take place others ++ (new ++ drop place others)

-- the children are parted by a test
pub record IsParted {M : Type 0} (test : Sibling × M → Bool) (all : List (Sibling × M)) (parted : Parted M) : Type 0 where
  pub members : parted.members.items ≡ filter test all
  pub others : parted.others.items ≡ filter (λ entry. not (test entry)) all
  pub placed : (new : List (Sibling × M)) → put_at parted.members.items parted.place new parted.others.items ≡ exchanged test new all
  pub within : parted.place ≤ length parted.others.items
