-- Deletion in the tree is a filter of the rows.
use Rattle.std.proofs.Common.{◌≡◌, Bool, true, false, cond, not, ◌&&◌, List, [], ◌∷◌, ◌++◌, map, filter, refl, sym, ap, ap₂, ◌∙◌}
use Rattle.std.proofs.lemmas.List.Elements.{filter-append, filter_agree}
use Rattle.svd_rows.specs.Edits.{in_children, within, replaced, without_children}
use Rattle.svd_rows.specs.Forest.{Forest, Tree, leaf, node, join}
use Rattle.svd_rows.specs.Paths.{begins, is_within}
use Rattle.svd_rows.specs.RowEdits.{without}
use Rattle.svd_rows.specs.Rows.{Row, element, states, forest_rows, rows, own, under}
use Rattle.svd_rows.proofs.Lists.{filter-map, filter_all, filter_none}

-- the path stays where it leads elsewhere, or where the test of what is left of it passes
stays : {S : Type 0} → (S → Bool) → (List S → Bool) → List S → Bool
stays test kept [] = true
stays test kept (step ∷ path) = cond (test step) (kept path) true

stays-step : {S : Type 0} (test : S → Bool) (kept : List S → Bool) (step : S) (path : List S) → stays test kept (step ∷ path) ≡ cond (test step) (kept path) true
unfolding stays
stays-step test kept step path = refl

own-filter : {S K : Type 0} (q : List S → Bool) → q [] ≡ true → (keys : List K) → filter (λ (row : Row S K). q row.path) (own keys) ≡ own keys
unfolding own
own-filter q here keys =
    ap (λ b. cond b (record { path = []; said = element } ∷ filter (λ row. q row.path) (map (λ key. record { path = []; said = states key }) keys))
    (filter (λ row. q row.path) (map (λ key. record { path = []; said = states key }) keys))) here
    ∙ ap (λ r. record { path = []; said = element } ∷ r)
    (filter-map (λ row. q row.path) (λ key. record { path = []; said = states key }) keys
    ∙ ap (map (λ key. record { path = []; said = states key })) (filter_all (λ key. q []) (λ key. here) keys))

stays-begins : {S : Type 0} (test : S → Bool) (tests : List (S → Bool)) (path : List S) → stays test (λ rest. not (begins tests rest)) path ≡ not (begins (test ∷ tests) path)
unfolding stays begins
stays-begins test tests [] = refl
stays-begins test tests (s ∷ path) = cases (test s) (begins tests path)
  where
    cases : (b x : Bool) → cond b (not x) true ≡ not (b && x)
    cases true x = refl
    cases false x = refl

module _ {S K : Type 0} where
  here-filter : (test : S → Bool) (kept : List S → Bool) (s : S) (all : List (Row S K)) → filter (λ row. stays test kept row.path) (map (under s) all) ≡ map (under s) (filter (λ row. cond (test s) (kept row.path) true) all)
  unfolding stays under
  here-filter test kept s all = filter-map (λ row. stays test kept row.path) (under s) all

  head-filter : (edit : Tree S K → Tree S K) (kept : List S → Bool) → ((tree : Tree S K) → rows (edit tree) ≡ filter (λ row. kept row.path) (rows tree)) → (s : S) (b : Bool) (tree : Tree S K) → map (under s) (rows (cond b (edit tree) tree)) ≡ map (under s) (filter (λ row. cond b (kept row.path) true) (rows tree))
  head-filter edit kept each s true tree = ap (map (under s)) (each tree)
  head-filter edit kept each s false tree = ap (map (under s)) (sym (filter_all (λ row. true) (λ row. refl) (rows tree)))

  in_children-filter : (test : S → Bool) (edit : Tree S K → Tree S K) (kept : List S → Bool) → ((tree : Tree S K) → rows (edit tree) ≡ filter (λ row. kept row.path) (rows tree)) → (siblings : Forest S K) → forest_rows (in_children test edit siblings) ≡ filter (λ row. stays test kept row.path) (forest_rows siblings)
  unfolding in_children forest_rows rows
  in_children-filter test edit kept each leaf = refl
  in_children-filter test edit kept each (node s ks c n) =
      ap₂ (λ a b. a ++ b) (head-filter edit kept each s (test s) (record { keys = ks; below = c }) ∙ sym (here-filter test kept s (rows (record { keys = ks; below = c }))))
      (in_children-filter test edit kept each n)
      ∙ sym (filter-append (λ row. stays test kept row.path) (map (under s) (rows (record { keys = ks; below = c }))) (forest_rows n))

  -- where the test leads to no row of the element, its rows stay; where it does, they go
  gone : (test : S → Bool) (s : S) (all : List (Row S K)) → filter (λ row. not (is_within (test ∷ []) row)) (map (under s) all) ≡ map (under s) (cond (test s) [] all)
  unfolding under begins
  gone test s all = filter-map (λ row. not (is_within (test ∷ []) row)) (under s) all ∙ ap (map (under s)) (cases (test s))
    where
      cases : (b : Bool) → filter (λ (row : Row S K). not (b && true)) all ≡ cond b [] all
      cases true = filter_none (λ row. false) (λ row. refl) all
      cases false = filter_all (λ row. true) (λ row. refl) all

  replaced-filter : (test : S → Bool) (siblings : Forest S K) → forest_rows (replaced test (λ step child. leaf) siblings) ≡ filter (λ row. not (is_within (test ∷ []) row)) (forest_rows siblings)
  unfolding replaced forest_rows join
  replaced-filter test leaf = refl
  replaced-filter test (node s ks c n) =
      cases (test s)
      ∙ ap₂ (λ a b. a ++ b) (sym (gone test s (own ks ++ forest_rows c))) (replaced-filter test n)
      ∙ sym (filter-append (λ row. not (is_within (test ∷ []) row)) (map (under s) (own ks ++ forest_rows c)) (forest_rows n))
    where
      cases : (b : Bool) → forest_rows (cond b (replaced test (λ step child. leaf) n) (node s ks c (replaced test (λ step child. leaf) n))) ≡ map (under s) (cond b [] (own ks ++ forest_rows c)) ++ forest_rows (replaced test (λ step child. leaf) n)
      cases true = refl
      cases false = refl

  -- the rows of a tree from which the children that pass the test are taken, at each element to which the
  -- tests lead, are those that aren't at or below such a child
  pub rows-without_children : (tests : List (S → Bool)) (test : S → Bool) (tree : Tree S K) → rows (within tests (without_children test) tree) ≡ without (tests ++ test ∷ []) (rows tree)
  unfolding within without rows begins
  rows-without_children [] test tree =
      ap₂ (λ a b. a ++ b) (sym (own-filter (λ path. not (begins (test ∷ []) path)) refl tree.keys)) (replaced-filter test tree.below)
      ∙ sym (filter-append (λ row. not (is_within (test ∷ []) row)) (own tree.keys) (forest_rows tree.below))
  rows-without_children (first ∷ tests) test tree =
      ap₂ (λ a b. a ++ b) (sym (own-filter (λ path. not (begins (first ∷ (tests ++ test ∷ [])) path)) refl tree.keys))
      (in_children-filter first (within tests (without_children test)) (λ rest. not (begins (tests ++ test ∷ []) rest)) (rows-without_children tests test) tree.below
      ∙ filter_agree (λ row. stays first (λ rest. not (begins (tests ++ test ∷ []) rest)) row.path) (λ row. not (is_within (first ∷ (tests ++ test ∷ [])) row)) (λ row. stays-begins first (tests ++ test ∷ []) row.path) (forest_rows tree.below))
      ∙ sym (filter-append (λ row. not (is_within (first ∷ (tests ++ test ∷ [])) row)) (own tree.keys) (forest_rows tree.below))
