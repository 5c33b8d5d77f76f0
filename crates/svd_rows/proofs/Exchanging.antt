-- Elements that stand in the place of one child, among the rows.
use Rattle.std.proofs.Common.{◌≡◌, Bool, true, false, not, ◌&&◌, ◌||◌, List, [], ◌∷◌, ◌++◌, map, filter, refl, sym, ap, ap₂, ◌∙◌, append_assoc}
use Rattle.std.proofs.lemmas.Bool.{cond-true, cond-false, or_parts, or_from}
use Rattle.std.proofs.lemmas.List.{map-append}
use Rattle.std.proofs.lemmas.List.Elements.{filter-append}
use Rattle.svd_rows.specs.Edits.{planted, within, replaced, with_replaced}
use Rattle.svd_rows.specs.Elements.{IsAbsent}
use Rattle.svd_rows.specs.Forest.{Forest, Tree, leaf, node, join, steps}
use Rattle.svd_rows.specs.Paths.{IsSame, begins, exactly, is_within}
use Rattle.svd_rows.specs.RowEdits.{some_pass, exchanged}
use Rattle.svd_rows.specs.Rows.{Row, element, states, forest_rows, rows, own, under, under_path}
use Rattle.svd_rows.specs.Standing.{Stands}
use Rattle.svd_rows.proofs.Passing.{some_pass-append, filter-not_none, exchanged-before}
use Rattle.svd_rows.proofs.Rows.{forest_rows-join}
use Rattle.svd_rows.proofs.Standing.{Splits, absent-rows, some_pass-own}

pub some_pass-weaker : {X : Type 0} (test other : X → Bool) → ((x : X) → test x ≡ false → other x ≡ false) → (xs : List X) → some_pass test xs ≡ false → some_pass other xs ≡ false
unfolding some_pass
some_pass-weaker test other less [] e = refl
some_pass-weaker test other less (x ∷ xs) e =
    let parts = or_parts (test x) (some_pass test xs) e in
    or_from (other x) (some_pass other xs) (less x parts.0) (some_pass-weaker test other less xs parts.1)

pub some_pass-map : {X Y : Type 0} (test : Y → Bool) (f : X → Y) (xs : List X) → some_pass test (map f xs) ≡ some_pass (λ x. test (f x)) xs
unfolding some_pass
some_pass-map test f [] = refl
some_pass-map test f (x ∷ xs) = ap (λ b. test (f x) || b) (some_pass-map test f xs)

pub some_pass-agree : {X : Type 0} (test other : X → Bool) → ((x : X) → test x ≡ other x) → (xs : List X) → some_pass test xs ≡ some_pass other xs
unfolding some_pass
some_pass-agree test other same [] = refl
some_pass-agree test other same (x ∷ xs) = ap₂ (λ a b. a || b) (same x) (some_pass-agree test other same xs)

-- a path that doesn't begin with the first tests doesn't begin with more of them
pub begins-longer : {S : Type 0} (tests more : List (S → Bool)) (path : List S) → begins tests path ≡ false → begins (tests ++ more) path ≡ false
unfolding begins
begins-longer [] more path e = absurd cc
begins-longer (test ∷ tests) more [] e = refl
begins-longer (test ∷ tests) more (step ∷ path) e = cases (test step) (begins-longer tests more path) e
  where
    cases : (b : Bool) → (begins tests path ≡ false → begins (tests ++ more) path ≡ false) → (b && begins tests path) ≡ false → (b && begins (tests ++ more) path) ≡ false
    cases true rest h = rest h
    cases false rest h = refl

-- behind a path, the tests of the path are passed
pub begins-behind : {S : Type 0} (same : S → S → Bool) → IsSame same → (path : List S) (more : List (S → Bool)) (below : List S) → begins (exactly same path ++ more) (path ++ below) ≡ begins more below
unfolding begins
begins-behind same law [] more below = refl
begins-behind same law (step ∷ path) more below =
    ap (λ b. b && begins (exactly same path ++ more) (path ++ below)) (law.itself step) ∙ begins-behind same law path more below

child-begins : {S : Type 0} (same : S → S → Bool) → IsSame same → (step : S) → begins (same step ∷ []) (step ∷ []) ≡ true
unfolding begins
child-begins same law step = ap (λ b. b && true) (law.itself step)

-- the new items stand where items were that all pass
exchanged-middle : {X : Type 0} (test : X → Bool) (new before : List X) (x : X) (xs after : List X) → some_pass test before ≡ false → test x ≡ true → filter (λ y. not (test y)) xs ≡ [] → some_pass test after ≡ false → exchanged test new (before ++ ((x ∷ xs) ++ after)) ≡ before ++ (new ++ after)
unfolding exchanged
exchanged-middle test new before x xs after none here all none_after =
    exchanged-before test new before ((x ∷ xs) ++ after) none
    ∙ ap (λ r. before ++ r)
    (cond-true (test x) (new ++ filter (λ y. not (test y)) (xs ++ after)) (x ∷ exchanged test new (xs ++ after)) here
    ∙ ap (λ r. new ++ r)
    (filter-append (λ y. not (test y)) xs after
    ∙ ap₂ (λ a b. a ++ b) all (filter-not_none test after none_after)))

module _ {S K : Type 0} where
  replaced-absent : (same : S → S → Bool) (step : S) (made : S → Tree S K → Forest S K) (siblings : Forest S K) → IsAbsent same step siblings → replaced (same step) made siblings ≡ siblings
  unfolding replaced steps
  replaced-absent same step made leaf absent = refl
  replaced-absent same step made (node s ks c n) absent =
      cond-false (same step s) (join (made s (record { keys = ks; below = c })) (replaced (same step) made n)) (node s ks c (replaced (same step) made n)) absent.0
      ∙ ap (node s ks c) (replaced-absent same step made n absent.1)

  replaced-left : (same : S → S → Bool) (step : S) (made : S → Tree S K → Forest S K) (left f : Forest S K) → IsAbsent same step left → replaced (same step) made (join left f) ≡ join left (replaced (same step) made f)
  unfolding replaced steps join
  replaced-left same step made leaf f absent = refl
  replaced-left same step made (node s ks c n) f absent =
      cond-false (same step s) (join (made s (record { keys = ks; below = c })) (replaced (same step) made (join n f))) (node s ks c (replaced (same step) made (join n f))) absent.0
      ∙ ap (node s ks c) (replaced-left same step made n f absent.1)

  replaced-here : (same : S → S → Bool) → IsSame same → (step : S) (made : S → Tree S K → Forest S K) (child : Tree S K) (right : Forest S K) → replaced (same step) made (planted step child right) ≡ join (made step child) (replaced (same step) made right)
  unfolding replaced
  replaced-here same law step made child right = cond-true (same step step) (join (made step child) (replaced (same step) made right)) (planted step child (replaced (same step) made right)) (law.itself step)

  pub replaced-split : (same : S → S → Bool) → IsSame same → (step : S) (made : S → Tree S K → Forest S K) (left : Forest S K) (child : Tree S K) (right : Forest S K) → IsAbsent same step left → IsAbsent same step right → replaced (same step) made (join left (planted step child right)) ≡ join left (join (made step child) right)
  replaced-split same law step made left child right absent_left absent_right =
      replaced-left same step made left (planted step child right) absent_left
      ∙ ap (join left) (replaced-here same law step made child right ∙ ap (join (made step child)) (replaced-absent same step made right absent_right))

  behind : (same : S → S → Bool) → IsSame same → (path : List S) (more : List (S → Bool)) (all : List (Row S K)) → some_pass (is_within (exactly same path ++ more)) (map (under_path path) all) ≡ some_pass (is_within more) all
  unfolding under_path
  behind same law path more all =
      some_pass-map (is_within (exactly same path ++ more)) (under_path path) all
      ∙ some_pass-agree (λ row. begins (exactly same path ++ more) (path ++ row.path)) (is_within more) (λ row. begins-behind same law path more row.path) all

  -- the child's rows all are at or below its path
  child-rows : (same : S → S → Bool) → IsSame same → (path : List S) (step : S) (all : List (Row S K)) → filter (λ row. not (is_within (exactly same path ++ same step ∷ []) row)) (map (under_path path) (map (under step) all)) ≡ []
  unfolding under_path under begins
  child-rows same law path step [] = refl
  child-rows same law path step (row ∷ all) =
      cond-false (not (begins (exactly same path ++ same step ∷ []) (path ++ (step ∷ row.path)))) (under_path path (under step row) ∷ filter (λ row. not (is_within (exactly same path ++ same step ∷ []) row)) (map (under_path path) (map (under step) all))) (filter (λ row. not (is_within (exactly same path ++ same step ∷ []) row)) (map (under_path path) (map (under step) all)))
      (ap not (begins-behind same law path (same step ∷ []) (step ∷ row.path) ∙ ap (λ b. b && true) (law.itself step)))
      ∙ child-rows same law path step all

  arranged : (before keys left new right after : List (Row S K)) → before ++ ((keys ++ (left ++ (new ++ right))) ++ after) ≡ (before ++ (keys ++ left)) ++ (new ++ (right ++ after))
  arranged before keys left new right after = simp append_assoc

  parted : (path : List S) (keys : List K) (left new right : List (Row S K)) → map (under_path path) (own keys ++ (left ++ (new ++ right))) ≡ map (under_path path) (own keys) ++ (map (under_path path) left ++ (map (under_path path) new ++ map (under_path path) right))
  parted path keys left new right =
      map-append (under_path path) (own keys) (left ++ (new ++ right))
      ∙ ap (λ r. map (under_path path) (own keys) ++ r)
      (map-append (under_path path) left (new ++ right)
      ∙ ap (λ r. map (under_path path) left ++ r) (map-append (under_path path) new right))

  exchanged-child : (same : S → S → Bool) → IsSame same → (path : List S) (step : S) (new : List (Row S K)) (tree part child : Tree S K) → (here : Stands same path tree part) → (split : Splits same step part.below child) → exchanged (is_within (exactly same path ++ same step ∷ [])) new (rows tree) ≡ (here.before ++ (map (under_path path) (own part.keys) ++ map (under_path path) (forest_rows split.left))) ++ (new ++ (map (under_path path) (forest_rows split.right) ++ here.after))
  unfolding rows forest_rows own under under_path
  exchanged-child same law path step new tree part child here split =
      ap (exchanged tests new)
      (here.stands
      ∙ ap (λ r. here.before ++ (map (under_path path) (own part.keys ++ r) ++ here.after))
      (ap forest_rows split.is ∙ forest_rows-join split.left (planted step child split.right))
      ∙ ap (λ r. here.before ++ (r ++ here.after)) (parted path part.keys (forest_rows split.left) (map (under step) (rows child)) (forest_rows split.right))
      ∙ arranged here.before keys left (map (under_path path) (map (under step) (rows child))) right here.after)
      ∙ exchanged-middle tests new (here.before ++ (keys ++ left))
      (under_path path (under step (record { path = []; said = element })))
      (map (under_path path) (map (under step) (map (λ key. record { path = []; said = states key }) child.keys ++ forest_rows child.below)))
      (right ++ here.after)
      (some_pass-append tests here.before (keys ++ left) (elsewhere here.before here.elsewhere_before)
      ∙ some_pass-append tests keys left (behind same law path (same step ∷ []) (own part.keys) ∙ some_pass-own (same step) [] part.keys)
      ∙ behind same law path (same step ∷ []) (forest_rows split.left)
      ∙ absent-rows same step [] split.left split.absent_left)
      (begins-behind same law path (same step ∷ []) (step ∷ []) ∙ is_child)
      (child-rows same law path step (map (λ key. record { path = []; said = states key }) child.keys ++ forest_rows child.below))
      (some_pass-append tests right here.after (behind same law path (same step ∷ []) (forest_rows split.right) ∙ absent-rows same step [] split.right split.absent_right)
      ∙ elsewhere here.after here.elsewhere_after)
    where
      tests : Row S K → Bool
      tests = is_within (exactly same path ++ same step ∷ [])

      keys : List (Row S K)
      keys = map (under_path path) (own part.keys)

      left : List (Row S K)
      left = map (under_path path) (forest_rows split.left)

      right : List (Row S K)
      right = map (under_path path) (forest_rows split.right)

      elsewhere : (all : List (Row S K)) → some_pass (is_within (exactly same path)) all ≡ false → some_pass tests all ≡ false
      elsewhere all e = some_pass-weaker (is_within (exactly same path)) tests (λ row. begins-longer (exactly same path) (same step ∷ []) row.path) all e

      is_child : begins (same step ∷ []) (step ∷ []) ≡ true
      is_child = child-begins same law step

  -- elements that replace a child stand where its rows stood
  pub rows-with_replaced : (same : S → S → Bool) → IsSame same → (path : List S) (step : S) (made : S → Tree S K → Forest S K) (tree part child : Tree S K) → Stands same path tree part → Splits same step part.below child → rows (within (exactly same path) (with_replaced (same step) made) tree) ≡ exchanged (is_within (exactly same path ++ same step ∷ [])) (map (under_path path) (forest_rows (made step child))) (rows tree)
  unfolding rows
  rows-with_replaced same law path step made tree part child here split =
      here.edited (with_replaced (same step) made)
      ∙ ap (λ f. here.before ++ (map (under_path path) (own part.keys ++ forest_rows f) ++ here.after))
      (ap (replaced (same step) made) split.is
      ∙ replaced-split same law step made split.left child split.right split.absent_left split.absent_right)
      ∙ ap (λ r. here.before ++ (map (under_path path) (own part.keys ++ r) ++ here.after))
      (forest_rows-join split.left (join (made step child) split.right)
      ∙ ap (λ r. forest_rows split.left ++ r) (forest_rows-join (made step child) split.right))
      ∙ ap (λ r. here.before ++ (r ++ here.after)) (parted path part.keys (forest_rows split.left) (forest_rows (made step child)) (forest_rows split.right))
      ∙ arranged here.before (map (under_path path) (own part.keys)) (map (under_path path) (forest_rows split.left)) (map (under_path path) (forest_rows (made step child))) (map (under_path path) (forest_rows split.right)) here.after
      ∙ sym (exchanged-child same law path step (map (under_path path) (forest_rows (made step child))) tree part child here split)
