-- Renaming in the tree is a map of the rows' paths.
use Rattle.std.proofs.Common.{◌≡◌, Bool, true, false, cond, List, [], ◌∷◌, ◌++◌, map, refl, sym, ap, ap₂, ◌∙◌, map-id}
use Rattle.std.proofs.lemmas.List.{map-append}
use Rattle.svd_rows.specs.Edits.{in_children, within, renamed, with_renamed}
use Rattle.svd_rows.specs.Forest.{Forest, Tree, leaf, node}
use Rattle.svd_rows.specs.RowEdits.{renamed_path, moved}
use Rattle.svd_rows.specs.Rows.{Row, element, states, forest_rows, rows, own, under}
use Rattle.svd_rows.proofs.Lists.{map-map}

nowhere : {S : Type 0} (tests : List (S → Bool)) (new : S → S) → renamed_path tests new [] ≡ []
unfolding renamed_path
nowhere [] new = refl
nowhere (test ∷ tests) new = refl

module _ {S K : Type 0} where
  own-moved : (new : List S → List S) → new [] ≡ [] → (keys : List K) → map (moved new) (own keys) ≡ own keys
  unfolding own
  own-moved new e keys =
      ap (λ p. record { path = p; said = element } ∷ map (moved new) (map (λ key. record { path = []; said = states key }) keys)) e
      ∙ ap (λ r. record { path = []; said = element } ∷ r)
      (map-map (moved new) (λ (key : K). record { path = []; said = states key }) keys
      ∙ ap (λ p. map (λ (key : K). record { path = p; said = states key }) keys) e)

  renamed_path-under : (tests : List (S → Bool)) (new : S → S) (test : S → Bool) (s : S) (all : List (Row S K)) → map (moved (renamed_path (test ∷ tests) new)) (map (under s) all) ≡ map (under s) (map (moved (λ path. cond (test s) (renamed_path tests new path) path)) all)
  unfolding under renamed_path
  renamed_path-under tests new test s all =
      map-map (moved (renamed_path (test ∷ tests) new)) (under s) all
      ∙ sym (map-map (under s) (moved (λ path. cond (test s) (renamed_path tests new path) path)) all)

  in_children-moved : (test : S → Bool) (edit : Tree S K → Tree S K) (tests : List (S → Bool)) (new : S → S) → ((tree : Tree S K) → rows (edit tree) ≡ map (moved (renamed_path tests new)) (rows tree)) → (siblings : Forest S K) → forest_rows (in_children test edit siblings) ≡ map (moved (renamed_path (test ∷ tests) new)) (forest_rows siblings)
  unfolding in_children forest_rows rows
  in_children-moved test edit tests new each leaf = refl
  in_children-moved test edit tests new each (node s ks c n) =
      ap₂ (λ a b. a ++ b) (head (test s) (record { keys = ks; below = c }) ∙ sym (renamed_path-under tests new test s (rows (record { keys = ks; below = c }))))
      (in_children-moved test edit tests new each n)
      ∙ sym (map-append (moved (renamed_path (test ∷ tests) new)) (map (under s) (rows (record { keys = ks; below = c }))) (forest_rows n))
    where
      head : (b : Bool) (tree : Tree S K) → map (under s) (rows (cond b (edit tree) tree)) ≡ map (under s) (map (moved (λ path. cond b (renamed_path tests new path) path)) (rows tree))
      head true tree = ap (map (under s)) (each tree)
      head false tree = ap (map (under s)) (sym (map-id (rows tree)))

  renamed-moved : (new : S → S) (siblings : Forest S K) → forest_rows (renamed new siblings) ≡ map (moved (renamed_path [] new)) (forest_rows siblings)
  unfolding renamed forest_rows renamed_path under
  renamed-moved new leaf = refl
  renamed-moved new (node s ks c n) =
      ap₂ (λ a b. a ++ b) (sym (map-map (moved (renamed_path [] new)) (under s) (own ks ++ forest_rows c))) (renamed-moved new n)
      ∙ sym (map-append (moved (renamed_path [] new)) (map (under s) (own ks ++ forest_rows c)) (forest_rows n))

  -- the rows of a tree in which the children have other steps, at each element to which the tests lead, are
  -- its rows under paths that have the other step there
  pub rows-with_renamed : (tests : List (S → Bool)) (new : S → S) (tree : Tree S K) → rows (within tests (with_renamed new) tree) ≡ map (moved (renamed_path tests new)) (rows tree)
  unfolding within rows
  rows-with_renamed [] new tree =
      ap₂ (λ a b. a ++ b) (sym (own-moved (renamed_path [] new) (nowhere [] new) tree.keys)) (renamed-moved new tree.below)
      ∙ sym (map-append (moved (renamed_path [] new)) (own tree.keys) (forest_rows tree.below))
  rows-with_renamed (test ∷ tests) new tree =
      ap₂ (λ a b. a ++ b) (sym (own-moved (renamed_path (test ∷ tests) new) (nowhere (test ∷ tests) new) tree.keys))
      (in_children-moved test (within tests (with_renamed new)) tests new (rows-with_renamed tests new) tree.below)
      ∙ sym (map-append (moved (renamed_path (test ∷ tests) new)) (own tree.keys) (forest_rows tree.below))
