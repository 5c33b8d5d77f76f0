-- The keys of a map in which one entry has another name: they are distinct still.
use Rattle.std.proofs.Common.{◌≡◌, ℕ, Bool, true, false, cond, ◌&&◌, ◌||◌, nat_eq, List, [], ◌∷◌, map, Some, refl, sym, ap, ap₂, ◌∙◌, subst}
use Rattle.std.specs.List.{AllByRecursion, IsDistinct as AreDistinct, list_any}
use Rattle.std.specs.Str.{bytes_eq}
use Rattle.std.proofs.lemmas.Bool.{or_parts}
use Rattle.glob_select.specs.Matching.{matches}
use Rattle.patch_changes.proofs.InLists.{twice-map}
use Rattle.patch_changes.specs.Listed.{entry_comes_to, key_comes_to, new_entry, new_key, twice}
use Rattle.patch_model.specs.Acts.{PatternItems}
use Rattle.patch_names.proofs.Rebuilt.{key_of}
use Rattle.svd_model.proofs.Copies.{sibling_eq, sibling_eq-turns}
use Rattle.svd_model.specs.declared.sibling.Sibling.{Sibling}
use Rattle.svd_rows.proofs.Lists.{map-map}

or-sum : (b c : Bool) → cond b true c ≡ (b || c)
or-sum true c = refl
or-sum false c = refl

-- where it held before, it may hold of none
twice-any : {A : Type 0} (test : A → Bool) (xs : List A) → twice test true xs ≡ list_any test xs
twice-any test [] = refl
twice-any test (x ∷ xs) = ap (λ (b : Bool). cond (test x) true b) (twice-any test xs) ∙ or-sum (test x) (list_any test xs)

module _ (pattern : PatternItems) (name : List ℕ) where
  abbrev named_so : Sibling
  named_so = record { name = name; number = 0 }

  abbrev comes : Sibling → Bool
  comes key = key_comes_to pattern name key

  abbrev new : Sibling → Sibling
  new key = new_key pattern name key

  apart-named : (key : Sibling) → bytes_eq name key.name ≡ false → sibling_eq named_so key ≡ false
  apart-named key e = ap (λ (b : Bool). b && nat_eq 0 key.number) e

  none-changed : (keys : List Sibling) → list_any comes keys ≡ false → map new keys ≡ keys
  none-changed [] none = refl
  none-changed (key ∷ keys) none =
      let parts = or_parts (comes key) (list_any comes keys) none in
      ap₂ (λ (k : Sibling) (ks : List Sibling). k ∷ ks) (ap (λ (b : Bool). cond b named_so key) (or_parts (matches pattern key.name) (bytes_eq name key.name) parts.0).0) (none-changed keys parts.1)

  none-named : (keys : List Sibling) → list_any comes keys ≡ false → AllByRecursion (λ other. sibling_eq named_so other ≡ false) keys
  none-named [] none = tt
  none-named (key ∷ keys) none =
      let parts = or_parts (comes key) (list_any comes keys) none in
      (apart-named key (or_parts (matches pattern key.name) (bytes_eq name key.name) parts.0).1, none-named keys parts.1)

  others-apart : (key : Sibling) (keys : List Sibling) → bytes_eq name key.name ≡ false → AllByRecursion (λ other. sibling_eq key other ≡ false) keys → AllByRecursion (λ other. sibling_eq key other ≡ false) (map new keys)
  others-apart key [] differ h = tt
  others-apart key (other ∷ keys) differ h = (cases (matches pattern other.name), others-apart key keys differ h.1)
    where
      cases : (b : Bool) → sibling_eq key (cond b named_so other) ≡ false
      cases true = sibling_eq-turns key named_so ∙ apart-named key differ
      cases false = h.0

  keys-distinct : (keys : List Sibling) → AreDistinct sibling_eq keys → twice comes false keys ≡ false → AreDistinct sibling_eq (map new keys)
  unfolding AreDistinct
  keys-distinct [] distinct once = tt
  keys-distinct (key ∷ keys) distinct once = cases (matches pattern key.name) refl (bytes_eq name key.name) refl once (keys-distinct keys distinct.1)
    where
      cases : (m : Bool) → matches pattern key.name ≡ m → (n : Bool) → bytes_eq name key.name ≡ n → cond (m || n) (false || twice comes true keys) (twice comes false keys) ≡ false
          → (twice comes false keys ≡ false → AreDistinct sibling_eq (map new keys)) → AreDistinct sibling_eq (cond m named_so key ∷ map new keys)
      cases true is n told once more =
          let none = sym (twice-any comes keys) ∙ once in
          subst (λ (others : List Sibling). AreDistinct sibling_eq (named_so ∷ others)) (sym (none-changed keys none)) (none-named keys none, distinct.1)
      cases false is true told once more =
          subst (λ (others : List Sibling). AreDistinct sibling_eq (key ∷ others)) (sym (none-changed keys (sym (twice-any comes keys) ∙ once))) distinct
      cases false is false told once more = (others-apart key keys told distinct.0, more once)

  -- the entries under their keys then
  pub entries-distinct : {V : Type 0} (entries old : List (Sibling × V)) → old ≡ entries → AreDistinct sibling_eq (map key_of old) → twice (entry_comes_to pattern name) false entries ≡ false → AreDistinct sibling_eq (map key_of (map (new_entry pattern (Some name)) entries))
  entries-distinct entries old same distinct once =
      subst (AreDistinct sibling_eq) (map-map new key_of entries ∙ sym (map-map key_of (new_entry pattern (Some name)) entries))
      (keys-distinct (map key_of entries) (subst (AreDistinct sibling_eq) (ap (map key_of) same) distinct) (twice-map comes key_of false entries ∙ once))
