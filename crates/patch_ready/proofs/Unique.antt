-- Keys of which none comes twice in its mapping.
use Rattle.std.proofs.Common.{◌≡◌, ℕ, Bool, true, false, List, [], ◌∷◌, ◌++◌, None, refl, sym, ◌∙◌}
use Rattle.std.proofs.lemmas.Bool.{or_parts}
use Rattle.std.proofs.lemmas.List.Folds.{list_any-append}
use Rattle.std.proofs.lemmas.Slice.Eq.{bytes_eq-Decides}
use Rattle.std.specs.List.{list_any}
use Rattle.std.specs.Prelude.{if◌then◌else◌}
use Rattle.std.specs.Str.{bytes_eq}
use Rattle.patch_form.specs.Parts.{entries_in}
use Rattle.yaml_block.specs.Nesting.{again, doubles_behind, doubles_in, first}
use Rattle.yaml_block.specs.Trees.{Tree, EntryTrees, nothing, scalar, list, mapping, entry}

abbrev pub IsUnique : Tree → Type 0
IsUnique tree = first (doubles_in tree) ≡ None

-- nor is one of them among these
abbrev pub AreUnique : List (List ℕ) → EntryTrees → Type 0
AreUnique before named = first (doubles_behind before named) ≡ None

first_left : (xs ys : List ℕ) → first (xs ++ ys) ≡ None → first xs ≡ None
first_left [] ys none = refl
first_left (x ∷ xs) ys none = absurd cc

first_right : (xs ys : List ℕ) → first (xs ++ ys) ≡ None → first ys ≡ None
first_right [] ys none = none
first_right (x ∷ xs) ys none = absurd cc

is_fresh : (seen : Bool) (line : ℕ) → first (if seen then line ∷ [] else []) ≡ None → seen ≡ false
is_fresh true line none = absurd cc
is_fresh false line none = refl

-- what an entry and those behind it hold
module _ (before : List (List ℕ)) (line : ℕ) (key : List ℕ) (tree : Tree) (others : EntryTrees) (unique : AreUnique before (entry line key tree others)) where
  pub key_fresh : list_any (bytes_eq key) before ≡ false
  key_fresh = is_fresh (list_any (bytes_eq key) before) line (first_left (again before line key) (doubles_in tree ++ doubles_behind (before ++ key ∷ []) others) unique)

  behind : first (doubles_in tree ++ doubles_behind (before ++ key ∷ []) others) ≡ None
  behind = first_right (again before line key) (doubles_in tree ++ doubles_behind (before ++ key ∷ []) others) unique

  pub value_unique : IsUnique tree
  value_unique = first_left (doubles_in tree) (doubles_behind (before ++ key ∷ []) others) behind

  pub others_unique : AreUnique (before ++ key ∷ []) others
  others_unique = first_right (doubles_in tree) (doubles_behind (before ++ key ∷ []) others) behind

pub inside_unique : (tree : Tree) → IsUnique tree → AreUnique [] (entries_in tree)
inside_unique nothing unique = refl
inside_unique (scalar text) unique = refl
inside_unique (list items) unique = refl
inside_unique (mapping named) unique = unique

-- a name is one of these: what holds of none of them doesn't hold of it
abbrev pub IsAmong : List ℕ → List (List ℕ) → Type 0
IsAmong name names = (test : List ℕ → Bool) → list_any test names ≡ false → test name ≡ false

pub among_last : (name : List ℕ) (names : List (List ℕ)) → IsAmong name (names ++ name ∷ [])
among_last name names test none =
    (or_parts (test name) false (or_parts (list_any test names) (list_any test (name ∷ [])) (sym (list_any-append test names (name ∷ [])) ∙ none)).1).0

pub among_more : (name other : List ℕ) (names : List (List ℕ)) → IsAmong name names → IsAmong name (names ++ other ∷ [])
among_more name other names among test none =
    among test (or_parts (list_any test names) (list_any test (other ∷ [])) (sym (list_any-append test names (other ∷ [])) ∙ none)).0

-- of two names neither is the other
pub apart_back : (one other : List ℕ) → bytes_eq one other ≡ false → bytes_eq other one ≡ false
apart_back one other apart = by (bytes_eq other one) refl
  where
    by : (same : Bool) → bytes_eq other one ≡ same → same ≡ false
    by true is = sym ((bytes_eq-Decides one other).1 (sym ((bytes_eq-Decides other one).0 is))) ∙ apart
    by false is = refl
