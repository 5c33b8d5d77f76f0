-- What an index by places finds.
use Rattle.std.proofs.Common.{◌≡◌, ℕ, Bool, true, false, nat_eq, List, [], ◌∷◌, map, Option, Some, refl, sym, ap, ap₂, ◌∙◌, if◌then◌else◌}
use Rattle.std.specs.Map.{lookup}
use Rattle.std.specs.Str.{bytes_eq}
use Rattle.std.specs.Cmp.Lexicographic.{bytes_decides}
use Rattle.std.proofs.lemmas.Bool.{and_parts, and_from, eqb-true, eq-eqb, true≢false}
use Rattle.indexmap.specs.IndexMap.{insert_entry}
use Rattle.derive_sources.specs.declared.index.Place.{Place}
use Rattle.derive_sources.specs.Places.{place_of, is_place}

abbrev pub entry_of : (Place × ℕ) → ((ℕ × List ℕ) × ℕ)
entry_of entry = (place_of entry.0, entry.1)

same_place : (owner : ℕ) (name : List ℕ) (place : ℕ × List ℕ) → is_place owner name place ≡ true → (owner, name) ≡ place
same_place owner name place e =
    let parts = and_parts (nat_eq owner place.0) (bytes_eq name place.1) e in
    ap₂ (λ o n. (o, n)) (eqb-true owner place.0 parts.0) ((bytes_decides name place.1).0 parts.1)

at_place : (place : ℕ × List ℕ) → is_place place.0 place.1 place ≡ true
at_place place = and_from (nat_eq place.0 place.0) (bytes_eq place.1 place.1) (eq-eqb place.0 place.0 refl) ((bytes_decides place.1 place.1).1 refl)

module _ (E : Place → Place → Bool) (tells : (a b : Place) → E a b ≡ is_place a.owner a.name.now (place_of b)) where
  pub found_entries : (place : Place) (es : List (Place × ℕ)) → lookup (E place) es ≡ lookup (is_place place.owner place.name.now) (map entry_of es)
  found_entries place [] = refl
  found_entries place (e ∷ es) = ap₂ (λ (b : Bool) (o : Option ℕ). if b then Some e.1 else o) (tells place e.0) (found_entries place es)

  pub found_inserted : (es : List (Place × ℕ)) (key : Place) (item owner : ℕ) (name : List ℕ)
      → lookup (is_place owner name) (map entry_of (insert_entry E es key item)) ≡ (if is_place owner name (place_of key) then Some item else lookup (is_place owner name) (map entry_of es))
  found_inserted [] key item owner name = refl
  found_inserted (e ∷ es) key item owner name = by (E key e.0) refl (found_inserted es key item owner name)
    where
      kept : (a b : Bool) (x y : Option ℕ) → is_place owner name (place_of e.0) ≡ a → is_place owner name (place_of key) ≡ b → E key e.0 ≡ false → x ≡ (if b then Some item else y) → (if a then Some e.1 else x) ≡ (if b then Some item else (if a then Some e.1 else y))
      kept false b x y one two apart is = is
      kept true false x y one two apart is = refl
      kept true true x y one two apart is =
          let same : place_of key ≡ place_of e.0 = sym (same_place owner name (place_of key) two) ∙ same_place owner name (place_of e.0) one in
          absurd (true≢false (sym (tells key e.0 ∙ ap (is_place key.owner key.name.now) (sym same) ∙ at_place (place_of key)) ∙ apart))

      put : (a : Bool) (y : Option ℕ) → (if a then Some item else y) ≡ (if a then Some item else (if a then Some e.1 else y))
      put true y = refl
      put false y = refl

      by : (b : Bool) → E key e.0 ≡ b
          → lookup (is_place owner name) (map entry_of (insert_entry E es key item)) ≡ (if is_place owner name (place_of key) then Some item else lookup (is_place owner name) (map entry_of es))
          → lookup (is_place owner name) (map entry_of (if b then (e.0, item) ∷ es else e ∷ insert_entry E es key item)) ≡ (if is_place owner name (place_of key) then Some item else lookup (is_place owner name) (map entry_of (e ∷ es)))
      by true same more =
          let equal : place_of key ≡ place_of e.0 = same_place key.owner key.name.now (place_of e.0) (sym (tells key e.0) ∙ same) in
          put (is_place owner name (place_of e.0)) (lookup (is_place owner name) (map entry_of es))
          ∙ ap (λ place. if is_place owner name place then Some item else (if is_place owner name (place_of e.0) then Some e.1 else lookup (is_place owner name) (map entry_of es))) (sym equal)
      by false apart more = kept (is_place owner name (place_of e.0)) (is_place owner name (place_of key)) _ _ refl refl apart more
