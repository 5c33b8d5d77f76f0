-- The count of elements is the count of the rows that say that one is there.
use Rattle.std.proofs.Common.{◌≡◌, ℕ, ◌+◌, Bool, true, false, cond, List, [], ◌∷◌, ◌++◌, map, filter, length, refl, sym, ap, ap₂, ◌∙◌, arith, length-append}
use Rattle.std.proofs.lemmas.List.{length-map, map-append}
use Rattle.std.proofs.lemmas.List.Elements.{filter-append}
use Rattle.svd_rows.specs.Elements.{count}
use Rattle.svd_rows.specs.Forest.{Forest, Tree, leaf, node}
use Rattle.svd_rows.specs.LookUps.{ends_with, is_element_of}
use Rattle.svd_rows.specs.Rows.{Row, element, states, forest_rows, rows, own, under, is_element}
use Rattle.svd_rows.proofs.Lists.{filter-map, filter_none, map-map}

no_elements : {S K : Type 0} (test : S → Bool) (path : List S) (keys : List K) → filter (is_element_of test) (map (λ key. record { path = path; said = states key }) keys) ≡ []
unfolding is_element
no_elements test path keys =
    filter-map (is_element_of test) (λ key. record { path = path; said = states key }) keys
    ∙ ap (map (λ key. record { path = path; said = states key })) (filter_none (λ key. false) (λ key. refl) keys)

module _ {S K : Type 0} where
  -- the rows of deeper elements
  deep : (test : S → Bool) (s t : S) (all : List (Row S K)) → length (filter (is_element_of test) (map (under s) (map (under t) all))) ≡ length (filter (is_element_of test) (map (under t) all))
  unfolding under is_element ends_with
  deep test s t all =
      ap length (filter-map (is_element_of test) (under s) (map (under t) all) ∙ ap (map (under s)) (filter-map (λ row. is_element_of test (under s row)) (under t) all))
      ∙ length-map (map (under t) (filter (λ row. is_element_of test (under t row)) all)) (under s)
      ∙ sym (ap length (filter-map (is_element_of test) (under t) all))

  deep-forest : (test : S → Bool) (s : S) (siblings : Forest S K) → length (filter (is_element_of test) (map (under s) (forest_rows siblings))) ≡ length (filter (is_element_of test) (forest_rows siblings))
  unfolding forest_rows
  deep-forest test s leaf = refl
  deep-forest test s (node t ks c n) =
      ap (λ r. length (filter (is_element_of test) r)) (map-append (under s) (map (under t) (own ks ++ forest_rows c)) (forest_rows n))
      ∙ both (map (under s) (map (under t) (own ks ++ forest_rows c))) (map (under s) (forest_rows n))
      ∙ ap₂ (λ a b. a + b) (deep test s t (own ks ++ forest_rows c)) (deep-forest test s n)
      ∙ sym (both (map (under t) (own ks ++ forest_rows c)) (forest_rows n))
    where
      both : (xs ys : List (Row S K)) → length (filter (is_element_of test) (xs ++ ys)) ≡ length (filter (is_element_of test) xs) + length (filter (is_element_of test) ys)
      both xs ys = ap length (filter-append (is_element_of test) xs ys) ∙ length-append (filter (is_element_of test) xs) (filter (is_element_of test) ys)

  under-keys : (s : S) (keys : List K) → map (under s) (map (λ key. record { path = []; said = states key }) keys) ≡ map (λ key. record { path = s ∷ []; said = states key }) keys
  unfolding under
  under-keys s keys = map-map (under s) (λ key. record { path = []; said = states key }) keys

  own-under : (test : S → Bool) (s : S) (keys : List K) → length (filter (is_element_of test) (map (under s) (own keys))) ≡ cond (test s) 1 0
  unfolding own under is_element ends_with
  own-under test s keys =
      ap (λ r. length (cond (test s) (first ∷ r) r))
      (ap (filter (is_element_of test)) (under-keys s keys) ∙ no_elements test (s ∷ []) keys)
      ∙ cases (test s)
    where
      first : Row S K
      first = record { path = s ∷ []; said = element }

      cases : (b : Bool) → length (cond b (first ∷ []) []) ≡ cond b 1 0
      cases true = refl
      cases false = refl

  -- each sibling, and each element below it, has one row that says that it is there
  count-forest : (test : S → Bool) (siblings : Forest S K) → length (filter (is_element_of test) (forest_rows siblings)) ≡ count test siblings
  unfolding forest_rows count
  count-forest test leaf = refl
  count-forest test (node s ks c n) =
      ap (λ r. length (filter (is_element_of test) (r ++ forest_rows n))) (map-append (under s) (own ks) (forest_rows c))
      ∙ both (map (under s) (own ks) ++ map (under s) (forest_rows c)) (forest_rows n)
      ∙ ap₂ (λ a b. a + b)
      (both (map (under s) (own ks)) (map (under s) (forest_rows c))
      ∙ ap₂ (λ a b. a + b) (own-under test s ks) (deep-forest test s c ∙ count-forest test c))
      (count-forest test n)
      ∙ sums (cond (test s) 1 0) (count test c) (count test n)
    where
      both : (xs ys : List (Row S K)) → length (filter (is_element_of test) (xs ++ ys)) ≡ length (filter (is_element_of test) xs) + length (filter (is_element_of test) ys)
      both xs ys = ap length (filter-append (is_element_of test) xs ys) ∙ length-append (filter (is_element_of test) xs) (filter (is_element_of test) ys)

      sums : (a b c : ℕ) → (a + b) + c ≡ a + (b + c)
      sums a b c = omega arith

  pub count-rows : (test : S → Bool) (tree : Tree S K) → length (filter (is_element_of test) (rows tree)) ≡ count test tree.below
  unfolding rows own is_element ends_with
  count-rows test tree =
      ap length (filter-append (is_element_of test) (map (λ key. record { path = []; said = states key }) tree.keys) (forest_rows tree.below)
      ∙ ap (λ r. r ++ filter (is_element_of test) (forest_rows tree.below)) (no_elements test [] tree.keys))
      ∙ count-forest test tree.below
