-- A key that is put into its place among the keys of an element, in the tree and among the rows.
use Rattle.std.proofs.Common.{◌≡◌, Bool, true, false, cond, not, ◌&&◌, nat_eq, nat_lt, List, [], ◌∷◌, ◌++◌, map, filter, refl, ap, ap₂, ◌∙◌}
use Rattle.std.proofs.lemmas.List.Elements.{filter-append, filter_agree}
use Rattle.patch_sem.specs.Selecting.{Rows}
use Rattle.patch_arrays.specs.Arranging.{put_key}
use Rattle.svd_model.proofs.Steps.{same_step-tells}
use Rattle.svd_model.specs.Keys.{Key, rank}
use Rattle.svd_model.specs.Steps.{Step, same_step}
use Rattle.svd_rows.proofs.Exchanging.{some_pass-agree, some_pass-map}
use Rattle.svd_rows.proofs.Lists.{filter-map}
use Rattle.svd_rows.proofs.Passing.{added-before, filter-not_none, some_pass-append}
use Rattle.svd_rows.specs.Forest.{Forest, Tree, leaf, node}
use Rattle.svd_rows.specs.Paths.{fits, is_at}
use Rattle.svd_rows.specs.RowEdits.{added, has_rank, is_below_rank, some_pass, with_key}
use Rattle.svd_rows.specs.Rows.{Row, Said, element, states, forest_rows, own, rows, under}

added-map : {A B : Type 0} (f : A → B) (test : B → Bool) (new xs : List A) → added test (map f new) (map f xs) ≡ map f (added (λ x. test (f x)) new xs)
unfolding added
added-map {A = A} f test new [] = refl
added-map {A = A} f test new (x ∷ xs) =
    ap (λ (b : Bool). cond b (f x ∷ added test (map f new) (map f xs)) (cond (test (f x)) (f x ∷ (map f new ++ map f xs)) (f x ∷ map f xs))) (some_pass-map test f xs)
    ∙ cases (some_pass (λ y. test (f y)) xs) (test (f x)) (added-map f test new xs)
  where
    append-map : (ys : List A) → map f ys ++ map f xs ≡ map f (ys ++ xs)
    append-map [] = refl
    append-map (y ∷ ys) = ap (λ r. f y ∷ r) (append-map ys)

    cases : (a b : Bool) → added test (map f new) (map f xs) ≡ map f (added (λ y. test (f y)) new xs)
        → cond a (f x ∷ added test (map f new) (map f xs)) (cond b (f x ∷ (map f new ++ map f xs)) (f x ∷ map f xs)) ≡ map f (cond a (x ∷ added (λ y. test (f y)) new xs) (cond b (x ∷ (new ++ xs)) (x ∷ xs)))
    cases true b more = ap (λ r. f x ∷ r) more
    cases false true more = ap (λ r. f x ∷ r) (append-map new)
    cases false false more = refl

added-agree : {A : Type 0} (test other : A → Bool) → ((x : A) → test x ≡ other x) → (new xs : List A) → added test new xs ≡ added other new xs
unfolding added
added-agree test other same new [] = refl
added-agree test other same new (x ∷ xs) =
    ap₂ (λ (b : Bool) r. cond b (x ∷ r) (cond (test x) (x ∷ (new ++ xs)) (x ∷ xs))) (some_pass-agree test other same xs) (added-agree test other same new xs)
    ∙ ap (λ (b : Bool). cond (some_pass other xs) (x ∷ added other new xs) (cond b (x ∷ (new ++ xs)) (x ∷ xs))) (same x)

module _ (key : Key) where
  -- rows of the element itself, seen from it
  abbrev lower_here : Row Step Key → Bool
  lower_here row = is_at [] row && is_below_rank rank (rank key) row.said

  abbrev same_here : Row Step Key → Bool
  same_here row = is_at [] row && has_rank rank (rank key) row.said

  abbrev stating : Key → Row Step Key
  stating k = record { path = []; said = states k }

  abbrev is_lower : Key → Bool
  is_lower k = nat_lt (rank k) (rank key)

  abbrev has_same : Key → Bool
  has_same k = nat_eq (rank k) (rank key)

  under-at : (s : Step) (row : Row Step Key) (b : Bool) → (is_at (same_step s ∷ []) (under s row) && b) ≡ (is_at [] row && b)
  unfolding under fits
  under-at s row b = ap (λ (a : Bool). (a && fits [] row.path) && b) (same_step-tells.itself s)

  -- seen from the parent, and from the element
  with_key-under : (s : Step) (all : Rows) → with_key same_step rank (s ∷ []) key (map (under s) all) ≡ map (under s) (with_key same_step rank [] key all)
  unfolding with_key under
  with_key-under s all =
      ap (added (λ row. is_at (same_step s ∷ []) row && is_below_rank rank (rank key) row.said) (map (under s) (stating key ∷ [])))
      (filter-map (λ row. not (is_at (same_step s ∷ []) row && has_rank rank (rank key) row.said)) (under s) all
      ∙ ap (map (under s)) (filter_agree (λ row. not (is_at (same_step s ∷ []) (under s row) && has_rank rank (rank key) row.said)) (λ row. not (same_here row)) (λ row. ap not (under-at s row (has_rank rank (rank key) row.said))) all))
      ∙ added-map (under s) (λ row. is_at (same_step s ∷ []) row && is_below_rank rank (rank key) row.said) (stating key ∷ []) (filter (λ row. not (same_here row)) all)
      ∙ ap (map (under s)) (added-agree (λ row. is_at (same_step s ∷ []) (under s row) && is_below_rank rank (rank key) row.said) lower_here (λ row. under-at s row (is_below_rank rank (rank key) row.said)) (stating key ∷ []) (filter (λ row. not (same_here row)) all))

  -- the rows below an element are none of its own
  not-under : (test : Said Key → Bool) (s : Step) (all : Rows) → some_pass (λ row. is_at [] row && test row.said) (map (under s) all) ≡ false
  unfolding some_pass under fits
  not-under test s [] = refl
  not-under test s (row ∷ all) = not-under test s all

  not-below : (test : Said Key → Bool) (f : Forest Step Key) → some_pass (λ row. is_at [] row && test row.said) (forest_rows f) ≡ false
  unfolding forest_rows some_pass
  not-below test leaf = refl
  not-below test (node s ks c n) =
      some_pass-append (λ row. is_at [] row && test row.said) (map (under s) (own ks ++ forest_rows c)) (forest_rows n) (not-under test s (own ks ++ forest_rows c)) ∙ not-below test n

  abbrev first_row : Row Step Key
  first_row = record { path = []; said = element }

  -- among the rows of the element itself
  with_key-own : (keys : List Key) → added lower_here (stating key ∷ []) (filter (λ row. not (same_here row)) (own keys)) ≡ own (put_key key keys)
  unfolding own put_key added is_below_rank has_rank fits
  with_key-own keys =
      ap (λ r. added lower_here (stating key ∷ []) (first_row ∷ r)) (filter-map (λ row. not (same_here row)) stating keys)
      ∙ ap (λ (b : Bool). cond b (first_row ∷ added lower_here (stating key ∷ []) (map stating kept)) (first_row ∷ (stating key ∷ map stating kept))) (some_pass-map lower_here stating kept)
      ∙ cases (some_pass is_lower kept) (added-map stating lower_here (key ∷ []) kept)
    where
      kept : List Key
      kept = filter (λ k. not (has_same k)) keys

      cases : (b : Bool) → added lower_here (stating key ∷ []) (map stating kept) ≡ map stating (added is_lower (key ∷ []) kept)
          → cond b (first_row ∷ added lower_here (stating key ∷ []) (map stating kept)) (first_row ∷ (stating key ∷ map stating kept)) ≡ first_row ∷ map stating (cond b (added is_lower (key ∷ []) kept) (key ∷ kept))
      cases true more = ap (λ r. first_row ∷ r) more
      cases false more = refl

  with_key-tree : (keys : List Key) (f : Forest Step Key) → with_key same_step rank [] key (own keys ++ forest_rows f) ≡ own (put_key key keys) ++ forest_rows f
  unfolding with_key
  with_key-tree keys f =
      ap (added lower_here (stating key ∷ []))
      (filter-append (λ row. not (same_here row)) (own keys) (forest_rows f)
      ∙ ap (λ r. filter (λ row. not (same_here row)) (own keys) ++ r) (filter-not_none same_here (forest_rows f) (not-below (has_rank rank (rank key)) f)))
      ∙ added-before lower_here (stating key ∷ []) (filter (λ row. not (same_here row)) (own keys)) (forest_rows f) (not-below (is_below_rank rank (rank key)) f)
      ∙ ap (λ r. r ++ forest_rows f) (with_key-own keys)

-- a key that is set at a child
pub key-put : (key : Key) (s : Step) (tree : Tree Step Key) → with_key same_step rank (s ∷ []) key (map (under s) (rows tree)) ≡ map (under s) (rows (record { keys = put_key key tree.keys; below = tree.below }))
unfolding rows
key-put key s tree = with_key-under key s (own tree.keys ++ forest_rows tree.below) ∙ ap (map (under s)) (with_key-tree key tree.keys tree.below)
