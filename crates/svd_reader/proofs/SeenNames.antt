-- The names that were kept, with one more.
use Rattle.std.proofs.Common.{◌≡◌, ℕ, Bool, true, false, not, ◌||◌, List, [], ◌∷◌, ◌++◌, map, Option, Some, None, refl, sym, ap, ◌∙◌, if◌then◌else◌}
use Rattle.std.specs.Borrow.{Bor}
use Rattle.std.specs.List.{list_any}
use Rattle.std.specs.Str.{bytes_eq}
use Rattle.std.proofs.lemmas.List.{map-append}
use Rattle.std.proofs.lemmas.List.Folds.{list_any-append}
use Rattle.std.proofs.lemmas.Slice.Eq.{bytes_eq-Decides}
use Rattle.indexmap.specs.IndexSet.{insert_key}
use Rattle.svd_reader.specs.DoubleNames.{same_name}
use Rattle.svd_reader.specs.Walk.{lent, seen_before}

abbrev pub name_now : Bor (List ℕ) → List ℕ
name_now name = name.now

abbrev pub key_eq : Bor (List ℕ) → Bor (List ℕ) → Bool
key_eq one other = bytes_eq one.now other.now

any-names : (name : List ℕ) (keys : List (Bor (List ℕ))) → list_any (bytes_eq name) (map name_now keys) ≡ list_any (λ key. bytes_eq name key.now) keys
any-names name [] = refl
any-names name (key ∷ keys) = ap (λ b. bytes_eq name key.now || b) (any-names name keys)

not-not : (b : Bool) → not (not b) ≡ b
not-not true = refl
not-not false = refl

or-false : (b : Bool) → b || false ≡ b
or-false true = refl
or-false false = refl

-- whether it was kept before
pub was_before : (keys : List (Bor (List ℕ))) (name : Option (Bor (List ℕ))) (found : Bor (List ℕ)) (fresh : Bool) → name ≡ Some found → fresh ≡ not (list_any (key_eq found) keys) → not fresh ≡ seen_before (map name_now keys) (lent name)
was_before keys name found fresh is added =
    ap not added ∙ not-not (list_any (key_eq found) keys) ∙ sym (any-names found.now keys)
    ∙ ap (λ (n : Option (Bor (List ℕ))). seen_before (map name_now keys) (lent n)) (sym is)

more-names : (keys : List (Bor (List ℕ))) (found : Bor (List ℕ)) (b : Bool) → list_any (key_eq found) keys ≡ b → (other : List ℕ)
    → list_any (bytes_eq other) (map name_now (if b then keys else keys ++ found ∷ [])) ≡ (list_any (bytes_eq other) (map name_now keys) || bytes_eq other found.now)
more-names keys found false fresh other =
    ap (list_any (bytes_eq other)) (map-append name_now keys (found ∷ [])) ∙ list_any-append (bytes_eq other) (map name_now keys) (found.now ∷ [])
    ∙ ap (λ b. list_any (bytes_eq other) (map name_now keys) || b) (or-false (bytes_eq other found.now))
more-names keys found true again other = by (bytes_eq other found.now) refl
  where
    by : (same : Bool) → bytes_eq other found.now ≡ same → list_any (bytes_eq other) (map name_now keys) ≡ (list_any (bytes_eq other) (map name_now keys) || same)
    by false e = sym (or-false (list_any (bytes_eq other) (map name_now keys)))
    by true e =
        let there : list_any (bytes_eq other) (map name_now keys) ≡ true =
        ap (λ name. list_any (bytes_eq name) (map name_now keys)) ((bytes_eq-Decides other found.now).0 e) ∙ any-names found.now keys ∙ again in
        rw there refl

-- the names with this one
pub now_kept : (keys new : List (Bor (List ℕ))) (name : Option (Bor (List ℕ))) (found : Bor (List ℕ)) → name ≡ Some found → new ≡ insert_key key_eq keys found → (other : List ℕ)
    → list_any (bytes_eq other) (map name_now new) ≡ (list_any (bytes_eq other) (map name_now keys) || same_name (Some other) (lent name))
now_kept keys new name found is grew other =
    ap (λ (all : List (Bor (List ℕ))). list_any (bytes_eq other) (map name_now all)) grew
    ∙ more-names keys found (list_any (key_eq found) keys) refl other
    ∙ ap (λ (n : Option (Bor (List ℕ))). list_any (bytes_eq other) (map name_now keys) || same_name (Some other) (lent n)) (sym is)

pub none_kept : (keys : List (Bor (List ℕ))) (name : Option (Bor (List ℕ))) → name ≡ None → (other : List ℕ)
    → list_any (bytes_eq other) (map name_now keys) ≡ (list_any (bytes_eq other) (map name_now keys) || same_name (Some other) (lent name))
none_kept keys name is other = sym (ap (λ (n : Option (Bor (List ℕ))). list_any (bytes_eq other) (map name_now keys) || same_name (Some other) (lent n)) is ∙ or-false (list_any (bytes_eq other) (map name_now keys)))
