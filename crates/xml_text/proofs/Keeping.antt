-- A walk over attributes that keeps the names so far.
use Rattle.std.proofs.Common.{◌≡◌, ℕ, suc, ◌+◌, ◌<◌, Bool, true, false, not, ◌||◌, List, [], ◌∷◌, ◌++◌, map, length, take, drop, get_or, refl, sym, ap, ◌∙◌}
use Rattle.std.specs.List.{list_any}
use Rattle.std.specs.Str.{bytes_eq}
use Rattle.std.proofs.Math.Seq.{split_at}
use Rattle.std.proofs.lemmas.Bool.{not-true, not-false}
use Rattle.std.proofs.lemmas.List.{map-append, map_more}
use Rattle.xml_text.specs.Reading.{differ}
use Rattle.xml_text.proofs.Distinct.{differ_more, differ_again}

pub list_any-map : {A B : Type 0} (test : B → Bool) (of : A → B) (xs : List A) → list_any test (map of xs) ≡ list_any (λ x. test (of x)) xs
list_any-map test of [] = refl
list_any-map test of (x ∷ xs) = ap (λ (b : Bool). test (of x) || b) (list_any-map test of xs)

module _ {X : Type 0} (name_of : X → List ℕ) (items : List X) (i : ℕ) (item : X) (within : i < length items) (is : item ≡ get_or items i item) where
  cut : items ≡ take i items ++ item ∷ drop (suc i) items
  cut = split_at items i item within ∙ ap (λ (x : X). take i items ++ x ∷ drop (suc i) items) (sym is)

  cut_names : map name_of items ≡ map name_of (take i items) ++ name_of item ∷ map name_of (drop (suc i) items)
  cut_names = ap (map name_of) cut ∙ map-append name_of (take i items) (item ∷ drop (suc i) items)

  names_more : map name_of (take (i + 1) items) ≡ map name_of (take i items) ++ name_of item ∷ []
  names_more = map_more name_of items i item within ∙ ap (λ (x : X). map name_of (take i items) ++ name_of x ∷ []) (sym is)

  -- the name stood before
  pub found_again : (seen : List (List ℕ)) (fresh : Bool) → seen ≡ map name_of (take i items) → fresh ≡ not (list_any (bytes_eq (name_of item)) seen) → fresh ≡ false → false ≡ differ (map name_of items)
  found_again seen fresh same new again =
      let stood : list_any (bytes_eq (name_of item)) (map name_of (take i items)) ≡ true = ap (list_any (bytes_eq (name_of item))) (sym same) ∙ not-false (list_any (bytes_eq (name_of item)) seen) (sym new ∙ again) in
      sym (ap differ cut_names ∙ differ_again (map name_of (take i items)) (name_of item) (map name_of (drop (suc i) items)) stood)

  -- the name is new
  pub kept_apart : (seen : List (List ℕ)) (fresh : Bool) → seen ≡ map name_of (take i items) → differ (map name_of (take i items)) ≡ true → fresh ≡ not (list_any (bytes_eq (name_of item)) seen) → fresh ≡ true
      → differ (map name_of (take (i + 1) items)) ≡ true
  kept_apart seen fresh same apart new is_new =
      let fresh_name : list_any (bytes_eq (name_of item)) (map name_of (take i items)) ≡ false = ap (list_any (bytes_eq (name_of item))) (sym same) ∙ not-true (list_any (bytes_eq (name_of item)) seen) (sym new ∙ is_new) in
      ap differ names_more ∙ differ_more (map name_of (take i items)) (name_of item) apart fresh_name

  pub kept_names : (seen after : List (List ℕ)) → seen ≡ map name_of (take i items) → after ≡ seen ++ name_of item ∷ [] → after ≡ map name_of (take (i + 1) items)
  kept_names seen after same more = more ∙ ap (λ (names : List (List ℕ)). names ++ name_of item ∷ []) same ∙ sym names_more
