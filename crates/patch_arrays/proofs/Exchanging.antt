-- Siblings in whose place others stand, in the tree and among the rows: those that pass a test of their steps.
use Rattle.std.proofs.Common.{◌≡◌, Bool, true, false, cond, not, ◌&&◌, ◌||◌, List, [], ◌∷◌, ◌++◌, map, filter, refl, sym, ap, ap₂, ◌∙◌}
use Rattle.std.specs.List.{AllByRecursion}
use Rattle.std.proofs.lemmas.List.Elements.{filter-append}
use Rattle.patch_edits.proofs.Contexts.{tree_with}
use Rattle.patch_sem.specs.Selecting.{Rows}
use Rattle.patch_arrays.specs.Arranging.{Element}
use Rattle.svd_model.specs.Keys.{Key}
use Rattle.svd_model.specs.Steps.{Step}
use Rattle.svd_rows.proofs.Lists.{filter-map, filter_all, filter_none}
use Rattle.svd_rows.proofs.Passing.{exchanged-before}
use Rattle.svd_rows.proofs.Rows.{forest_rows-join}
use Rattle.svd_rows.proofs.Siblings.{siblings-append}
use Rattle.svd_rows.proofs.Standing.{some_pass-own}
use Rattle.svd_rows.specs.Forest.{siblings}
use Rattle.svd_rows.specs.Paths.{begins, is_within}
use Rattle.svd_rows.specs.RowEdits.{exchanged, some_pass}
use Rattle.svd_rows.specs.Rows.{Row, element, states, forest_rows, own, rows, under}

module _ (chosen : Step → Bool) (test : Element → Bool) where
  abbrev within : Row Step Key → Bool
  within row = is_within (chosen ∷ []) row

  -- the rows of a child all begin with its step
  within-under : (s : Step) (row : Row Step Key) → within (under s row) ≡ chosen s
  unfolding under begins
  within-under s row = cases (chosen s)
    where
      cases : (b : Bool) → (b && true) ≡ b
      cases true = refl
      cases false = refl

  abbrev rows_of : Element → Rows
  rows_of x = map (under x.0) (rows x.1)

  listed : (x : Element) (others : List Element) → forest_rows (siblings (x ∷ others)) ≡ rows_of x ++ forest_rows (siblings others)
  unfolding siblings forest_rows rows
  listed x others = refl

  left-under : (s : Step) (all : Rows) (b : Bool) → chosen s ≡ b → filter (λ row. not (within row)) (map (under s) all) ≡ cond b [] (map (under s) all)
  left-under s all true is = filter-map (λ row. not (within row)) (under s) all ∙ ap (map (under s)) (filter_none (λ row. not (within (under s row))) (λ row. ap not (within-under s row ∙ is)) all)
  left-under s all false is = filter-map (λ row. not (within row)) (under s) all ∙ ap (map (under s)) (filter_all (λ row. not (within (under s row))) (λ row. ap not (within-under s row ∙ is)) all)

  -- those that stay
  left-rows : (xs : List Element) → AllByRecursion (λ x. chosen x.0 ≡ test x) xs → filter (λ row. not (within row)) (forest_rows (siblings xs)) ≡ forest_rows (siblings (filter (λ x. not (test x)) xs))
  unfolding siblings forest_rows
  left-rows [] told = refl
  left-rows (x ∷ xs) told =
      ap (filter (λ row. not (within row))) (listed x xs)
      ∙ filter-append (λ row. not (within row)) (rows_of x) (forest_rows (siblings xs))
      ∙ ap₂ (λ (a b : Rows). a ++ b) (left-under x.0 (rows x.1) (test x) told.0) (left-rows xs told.1)
      ∙ cases (test x)
    where
      cases : (b : Bool) → cond b [] (rows_of x) ++ forest_rows (siblings (filter (λ y. not (test y)) xs)) ≡ forest_rows (siblings (cond (not b) (x ∷ filter (λ y. not (test y)) xs) (filter (λ y. not (test y)) xs)))
      cases true = refl
      cases false = sym (listed x (filter (λ y. not (test y)) xs))

  none-under : (s : Step) (all : Rows) → chosen s ≡ false → some_pass within (map (under s) all) ≡ false
  unfolding some_pass
  none-under s [] is = refl
  none-under s (row ∷ all) is = ap₂ (λ (a b : Bool). a || b) (within-under s row ∙ is) (none-under s all is)

  abbrev first_row : Row Step Key
  first_row = record { path = []; said = element }

  -- the first that passes makes place for the new ones
  exchange-here : (new : List Element) (x : Element) (xs : List Element) → AllByRecursion (λ y. chosen y.0 ≡ test y) xs → chosen x.0 ≡ true
      → exchanged within (forest_rows (siblings new)) (rows_of x ++ forest_rows (siblings xs)) ≡ forest_rows (siblings (new ++ filter (λ y. not (test y)) xs))
  unfolding rows own exchanged
  exchange-here new x xs told is =
      ap (λ (b : Bool). cond b (forest_rows (siblings new) ++ filter (λ row. not (within row)) (map (under x.0) rest ++ forest_rows (siblings xs))) (under x.0 first_row ∷ exchanged within (forest_rows (siblings new)) (map (under x.0) rest ++ forest_rows (siblings xs)))) (within-under x.0 first_row ∙ is)
      ∙ ap (λ (r : Rows). forest_rows (siblings new) ++ r)
      (filter-append (λ row. not (within row)) (map (under x.0) rest) (forest_rows (siblings xs))
      ∙ ap₂ (λ (a b : Rows). a ++ b) (left-under x.0 rest true is) (left-rows xs told))
      ∙ sym (forest_rows-join (siblings new) (siblings (filter (λ y. not (test y)) xs)))
      ∙ ap forest_rows (sym (siblings-append new (filter (λ y. not (test y)) xs)))
    where
      rest : Rows
      rest = map (λ key. record { path = []; said = states key }) x.1.keys ++ forest_rows x.1.below

  exchange-list : (new xs : List Element) → AllByRecursion (λ x. chosen x.0 ≡ test x) xs → exchanged within (forest_rows (siblings new)) (forest_rows (siblings xs)) ≡ forest_rows (siblings (exchanged test new xs))
  unfolding siblings forest_rows exchanged
  exchange-list new [] told = refl
  exchange-list new (x ∷ xs) told = ap (exchanged within (forest_rows (siblings new))) (listed x xs) ∙ cases (test x) told.0 (exchange-list new xs told.1)
    where
      cases : (b : Bool) → chosen x.0 ≡ b → exchanged within (forest_rows (siblings new)) (forest_rows (siblings xs)) ≡ forest_rows (siblings (exchanged test new xs))
          → exchanged within (forest_rows (siblings new)) (rows_of x ++ forest_rows (siblings xs)) ≡ forest_rows (siblings (cond b (new ++ filter (λ y. not (test y)) xs) (x ∷ exchanged test new xs)))
      cases true is more = exchange-here new x xs told.1 is
      cases false is more =
          exchanged-before within (forest_rows (siblings new)) (rows_of x) (forest_rows (siblings xs)) (none-under x.0 (rows x.1) is)
          ∙ ap (λ (r : Rows). rows_of x ++ r) more
          ∙ sym (listed x (exchanged test new xs))

  -- and so in the whole element
  pub exchange-rows : (keys : List Key) (new xs : List Element) → AllByRecursion (λ x. chosen x.0 ≡ test x) xs → exchanged within (forest_rows (siblings new)) (rows (tree_with keys (siblings xs))) ≡ rows (tree_with keys (siblings (exchanged test new xs)))
  unfolding rows
  exchange-rows keys new xs told =
      exchanged-before within (forest_rows (siblings new)) (own keys) (forest_rows (siblings xs)) (some_pass-own chosen [] keys)
      ∙ ap (λ (r : Rows). own keys ++ r) (exchange-list new xs told)
