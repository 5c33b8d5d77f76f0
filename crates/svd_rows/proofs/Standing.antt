-- The rows of one element stand together, and an edit of the element changes them alone.
use Rattle.std.proofs.Common.{◌≡◌, Bool, true, false, cond, ◌&&◌, ◌||◌, List, [], ◌∷◌, ◌++◌, map, Option, None, Some, option_and_then, refl, sym, ap, ap₂, ◌∙◌, subst, append-nil, append_assoc}
use Rattle.std.proofs.lemmas.List.{map-append}
use Rattle.std.proofs.lemmas.Bool.{cond-true, cond-false}
use Rattle.svd_rows.specs.Edits.{planted, in_children, within}
use Rattle.svd_rows.specs.Elements.{child_at, element_at, IsAbsent, IsDistinct}
use Rattle.svd_rows.specs.Forest.{Forest, Tree, leaf, node, join, steps}
use Rattle.svd_rows.specs.Paths.{IsSame, begins, exactly, is_within}
use Rattle.svd_rows.specs.RowEdits.{some_pass}
use Rattle.svd_rows.specs.Rows.{Row, states, forest_rows, rows, own, under, under_path}
use Rattle.svd_rows.specs.Standing.{Stands}
use Rattle.svd_rows.proofs.Finding.{map-under_path, map-under_nothing}
use Rattle.svd_rows.proofs.Passing.{some_pass-append}
use Rattle.svd_rows.proofs.Rows.{forest_rows-join}

-- the sibling of this step with its element, between those before and those after it
pub record Splits {S K : Type 0} (same : S → S → Bool) (step : S) (siblings : Forest S K) (child : Tree S K) : Type 0 where
  pub left : Forest S K
  pub right : Forest S K
  pub is : siblings ≡ join left (planted step child right)
  pub absent_left : IsAbsent same step left
  pub absent_right : IsAbsent same step right

module _ {S K : Type 0} where
  pub child_at-splits : (same : S → S → Bool) → IsSame same → (step : S) (siblings : Forest S K) (child : Tree S K) → IsDistinct same siblings → child_at (same step) siblings ≡ Some child → Splits same step siblings child
  unfolding child_at IsDistinct join steps
  child_at-splits same law step leaf child distinct e = absurd cc
  child_at-splits same law step (node s ks c n) child distinct e =
      cases (same step s) refl (child_at-splits same law step n child distinct.2) (e)
    where
      cases : (b : Bool) → same step s ≡ b → (child_at (same step) n ≡ Some child → Splits same step n child) → cond b (Some (record { keys = ks; below = c })) (child_at (same step) n) ≡ Some child → Splits same step (node s ks c n) child
      cases true here rest h =
          let is_step : s ≡ step = sym (law.alone step s here) in
          let is_child : record { keys = ks; below = c } ≡ child = cc in
          record {
            left = leaf;
            right = n;
            is = ap (λ t. planted t (record { keys = ks; below = c }) n) is_step ∙ ap (λ t. planted step t n) is_child;
            absent_left = tt;
            absent_right = subst (λ t. IsAbsent same t n) is_step distinct.0;
          }
      cases false here rest h =
          let found = rest h in
          record {
            left = node s ks c found.left;
            right = found.right;
            is = ap (node s ks c) found.is;
            absent_left = (here, found.absent_left);
            absent_right = found.absent_right;
          }

  pub child_at-distinct : (same : S → S → Bool) (test : S → Bool) (siblings : Forest S K) (child : Tree S K) → IsDistinct same siblings → child_at test siblings ≡ Some child → IsDistinct same child.below
  unfolding child_at IsDistinct
  child_at-distinct same test leaf child distinct e = absurd cc
  child_at-distinct same test (node s ks c n) child distinct e =
      cases (test s) (child_at-distinct same test n child distinct.2) e
    where
      cases : (b : Bool) → (child_at test n ≡ Some child → IsDistinct same child.below) → cond b (Some (record { keys = ks; below = c })) (child_at test n) ≡ Some child → IsDistinct same child.below
      cases true rest h =
          let is_child : record { keys = ks; below = c } ≡ child = cc in
          subst (λ (t : Tree S K). IsDistinct same t.below) is_child distinct.1
      cases false rest h = rest h

  pub in_children-absent : (same : S → S → Bool) (step : S) (edit : Tree S K → Tree S K) (siblings : Forest S K) → IsAbsent same step siblings → in_children (same step) edit siblings ≡ siblings
  unfolding in_children steps
  in_children-absent same step edit leaf absent = refl
  in_children-absent same step edit (node s ks c n) absent =
      ap (λ t. planted s t (in_children (same step) edit n)) (cond-false (same step s) (edit (record { keys = ks; below = c })) (record { keys = ks; below = c }) absent.0)
      ∙ ap (node s ks c) (in_children-absent same step edit n absent.1)

  pub in_children-join : (test : S → Bool) (edit : Tree S K → Tree S K) (f g : Forest S K) → in_children test edit (join f g) ≡ join (in_children test edit f) (in_children test edit g)
  unfolding in_children join
  in_children-join test edit leaf g = refl
  in_children-join test edit (node s ks c n) g =
      ap (planted s (cond (test s) (edit (record { keys = ks; below = c })) (record { keys = ks; below = c }))) (in_children-join test edit n g)

  in_children-here : (same : S → S → Bool) → IsSame same → (step : S) (edit : Tree S K → Tree S K) (child : Tree S K) (right : Forest S K) → in_children (same step) edit (planted step child right) ≡ planted step (edit child) (in_children (same step) edit right)
  unfolding in_children
  in_children-here same law step edit child right =
      ap (λ t. planted step t (in_children (same step) edit right)) (cond-true (same step step) (edit child) child (law.itself step))

  pub in_children-split : (same : S → S → Bool) → IsSame same → (step : S) (edit : Tree S K → Tree S K) (left : Forest S K) (child : Tree S K) (right : Forest S K) → IsAbsent same step left → IsAbsent same step right → in_children (same step) edit (join left (planted step child right)) ≡ join left (planted step (edit child) right)
  in_children-split same law step edit left child right absent_left absent_right =
      in_children-join (same step) edit left (planted step child right)
      ∙ ap₂ join (in_children-absent same step edit left absent_left)
      (in_children-here same law step edit child right ∙ ap (planted step (edit child)) (in_children-absent same step edit right absent_right))

  some_pass-under : (test : S → Bool) (tests : List (S → Bool)) (s : S) (all : List (Row S K)) → some_pass (is_within (test ∷ tests)) (map (under s) all) ≡ (test s && some_pass (is_within tests) all)
  unfolding some_pass under begins
  some_pass-under test tests s [] = sym (and_false (test s))
    where
      and_false : (b : Bool) → (b && false) ≡ false
      and_false true = refl
      and_false false = refl
  some_pass-under test tests s (row ∷ all) =
      ap (λ b. (test s && begins tests row.path) || b) (some_pass-under test tests s all)
      ∙ cases (test s) (begins tests row.path) (some_pass (is_within tests) all)
    where
      cases : (b x y : Bool) → ((b && x) || (b && y)) ≡ (b && (x || y))
      cases true x y = refl
      cases false x y = refl

  pub some_pass-own : (test : S → Bool) (tests : List (S → Bool)) (keys : List K) → some_pass (is_within (test ∷ tests)) (own keys) ≡ false
  unfolding some_pass own begins
  some_pass-own test tests keys = none keys
    where
      none : (keys : List K) → some_pass (is_within (test ∷ tests)) (map (λ key. record { path = []; said = states key }) keys) ≡ false
      none [] = refl
      none (key ∷ keys) = none keys

  -- no row of the siblings is at or below a path that begins with a step which is none of theirs
  pub absent-rows : (same : S → S → Bool) (step : S) (path : List S) (siblings : Forest S K) → IsAbsent same step siblings → some_pass (is_within (exactly same (step ∷ path))) (forest_rows siblings) ≡ false
  unfolding forest_rows steps some_pass
  absent-rows same step path leaf absent = refl
  absent-rows same step path (node s ks c n) absent =
      some_pass-append (is_within (exactly same (step ∷ path))) (map (under s) (own ks ++ forest_rows c)) (forest_rows n)
      (some_pass-under (same step) (exactly same path) s (own ks ++ forest_rows c)
      ∙ ap (λ b. b && some_pass (is_within (exactly same path)) (own ks ++ forest_rows c)) absent.0)
      ∙ absent-rows same step path n absent.1

  arranged : (keys left before part after right : List (Row S K)) → keys ++ (left ++ ((before ++ (part ++ after)) ++ right)) ≡ (keys ++ (left ++ before)) ++ (part ++ (after ++ right))
  arranged keys left before part after right = simp append_assoc

  -- the rows of an element with its child between its siblings, where those of the child are told
  child_stands : (keys : List K) (left right : Forest S K) (step : S) (path : List S) (child : Tree S K) (before after part : List (Row S K)) → rows child ≡ before ++ (map (under_path path) part ++ after) → own keys ++ forest_rows (join left (planted step child right)) ≡ (own keys ++ (forest_rows left ++ map (under step) before)) ++ (map (under_path (step ∷ path)) part ++ (map (under step) after ++ forest_rows right))
  unfolding forest_rows rows
  child_stands keys left right step path child before after part e =
      ap (λ r. own keys ++ r)
      (forest_rows-join left (planted step child right)
      ∙ ap (λ r. forest_rows left ++ (r ++ forest_rows right))
      (ap (map (under step)) e
      ∙ map-append (under step) before (map (under_path path) part ++ after)
      ∙ ap (λ r. map (under step) before ++ r)
      (map-append (under step) (map (under_path path) part) after
      ∙ ap (λ r. r ++ map (under step) after) (map-under_path step path part))))
      ∙ arranged (own keys) (forest_rows left) (map (under step) before) (map (under_path (step ∷ path)) part) (map (under step) after) (forest_rows right)

  down : (same : S → S → Bool) → IsSame same → (step : S) (path : List S) (tree child part : Tree S K) → Splits same step tree.below child → Stands same path child part → Stands same (step ∷ path) tree part
  unfolding within rows some_pass
  down same law step path tree child part split here = record {
    before = own tree.keys ++ (forest_rows split.left ++ map (under step) here.before);
    after = map (under step) here.after ++ forest_rows split.right;
    elsewhere_before =
        some_pass-append (is_within (exactly same (step ∷ path))) (own tree.keys) (forest_rows split.left ++ map (under step) here.before) (some_pass-own (same step) (exactly same path) tree.keys)
        ∙ some_pass-append (is_within (exactly same (step ∷ path))) (forest_rows split.left) (map (under step) here.before) (absent-rows same step path split.left split.absent_left)
        ∙ none here.before here.elsewhere_before;
    elsewhere_after =
        some_pass-append (is_within (exactly same (step ∷ path))) (map (under step) here.after) (forest_rows split.right) (none here.after here.elsewhere_after)
        ∙ absent-rows same step path split.right split.absent_right;
    stands =
        ap (λ f. own tree.keys ++ forest_rows f) split.is
        ∙ child_stands tree.keys split.left split.right step path child here.before here.after (rows part) here.stands;
    edited = λ edit.
        ap (λ f. own tree.keys ++ forest_rows f)
        (ap (in_children (same step) (within (exactly same path) edit)) split.is
        ∙ in_children-split same law step (within (exactly same path) edit) split.left child split.right split.absent_left split.absent_right)
        ∙ child_stands tree.keys split.left split.right step path (within (exactly same path) edit child) here.before here.after (rows (edit part)) (here.edited edit);
  }
    where
      none : (all : List (Row S K)) → some_pass (is_within (exactly same path)) all ≡ false → some_pass (is_within (exactly same (step ∷ path))) (map (under step) all) ≡ false
      none all e = some_pass-under (same step) (exactly same path) step all ∙ ap (λ b. same step step && b) e ∙ and_none (same step step)
        where
          and_none : (b : Bool) → (b && false) ≡ false
          and_none true = refl
          and_none false = refl

  -- where no two siblings have one step, a path names one element: its rows stand together
  pub element_at-stands : (same : S → S → Bool) → IsSame same → (path : List S) (tree part : Tree S K) → IsDistinct same tree.below → element_at (exactly same path) tree ≡ Some part → Stands same path tree part
  unfolding element_at within some_pass
  element_at-stands same law [] tree part distinct e =
      let is_part : tree ≡ part = cc in
      subst (Stands same [] tree) is_part
      (record {
        before = [];
        after = [];
        elsewhere_before = refl;
        elsewhere_after = refl;
        stands = sym (append-nil (map (under_path []) (rows tree)) ∙ map-under_nothing (rows tree));
        edited = λ edit. sym (append-nil (map (under_path []) (rows (edit tree))) ∙ map-under_nothing (rows (edit tree)));
      })
  element_at-stands same law (step ∷ path) tree part distinct e =
      cases (child_at (same step) tree.below) refl e (λ child. element_at-stands same law path child part)
    where
      cases : (found : Option (Tree S K)) → child_at (same step) tree.below ≡ found → option_and_then (element_at (exactly same path)) found ≡ Some part → ((child : Tree S K) → IsDistinct same child.below → element_at (exactly same path) child ≡ Some part → Stands same path child part) → Stands same (step ∷ path) tree part
      cases None at h rest = absurd cc
      cases (Some child) at h rest = down same law step path tree child part (child_at-splits same law step tree.below child distinct at) (rest child (child_at-distinct same (same step) tree.below child distinct at) h)
