-- Children that are added to an element, or that replace one of its children, among the rows.
use Rattle.std.proofs.Common.{◌≡◌, Bool, true, false, cond, ◌&&◌, ◌||◌, List, [], ◌∷◌, ◌++◌, map, filter, Option, None, Some, option_and_then, refl, sym, ap, ap₂, ◌∙◌, append-nil, append_assoc}
use Rattle.std.proofs.lemmas.List.{map-append}
use Rattle.std.proofs.lemmas.List.Elements.{filter-append}
use Rattle.svd_rows.specs.Edits.{planted, within, with_children}
use Rattle.svd_rows.specs.Elements.{child_at, element_at, IsAbsent, IsDistinct}
use Rattle.svd_rows.specs.Forest.{Forest, Tree, leaf, node, steps}
use Rattle.svd_rows.specs.Paths.{IsSame, begins, exactly, is_within}
use Rattle.svd_rows.specs.RowEdits.{some_pass, added}
use Rattle.svd_rows.specs.Rows.{Row, element, states, forest_rows, rows, own, under, under_path}
use Rattle.svd_rows.specs.Standing.{Stands}
use Rattle.svd_rows.proofs.Finding.{filter-under}
use Rattle.svd_rows.proofs.Passing.{filter-none, added-after, added-before}
use Rattle.svd_rows.proofs.Rows.{forest_rows-join}
use Rattle.svd_rows.proofs.Standing.{Splits, child_at-splits, child_at-distinct, absent-rows, some_pass-own}
use Rattle.std.specs.List.{AllByRecursion}

pub begins-path : {S : Type 0} (same : S → S → Bool) → IsSame same → (path below : List S) → begins (exactly same path) (path ++ below) ≡ true
unfolding begins
begins-path same law [] below = refl
begins-path same law (step ∷ path) below = ap (λ b. b && begins (exactly same path) (path ++ below)) (law.itself step) ∙ begins-path same law path below

module _ {S K : Type 0} where
  -- the rows of the element all are at or below its path
  part-passes : (same : S → S → Bool) → IsSame same → (path : List S) (new : List (Row S K)) (row : Row S K) (all : List (Row S K)) → added (is_within (exactly same path)) new (map (under_path path) (row ∷ all)) ≡ map (under_path path) (row ∷ all) ++ new
  unfolding added some_pass under_path
  part-passes same law path new row [] =
      ap (λ b. cond b (record { path = path ++ row.path; said = row.said } ∷ (new ++ [])) (record { path = path ++ row.path; said = row.said } ∷ [])) (begins-path same law path row.path)
      ∙ ap (λ r. record { path = path ++ row.path; said = row.said } ∷ r) (append-nil new)
  part-passes same law path new row (next ∷ all) =
      ap (λ b. cond (b || some_pass (is_within (exactly same path)) (map (under_path path) all))
      (under_path path row ∷ added (is_within (exactly same path)) new (map (under_path path) (next ∷ all)))
      (cond (begins (exactly same path) (path ++ row.path)) (under_path path row ∷ (new ++ map (under_path path) (next ∷ all))) (map (under_path path) (row ∷ (next ∷ all)))))
      (begins-path same law path next.path)
      ∙ ap (λ r. under_path path row ∷ r) (part-passes same law path new next all)

  some-part : (same : S → S → Bool) → IsSame same → (path : List S) (row : Row S K) (all after : List (Row S K)) → some_pass (is_within (exactly same path)) (map (under_path path) (row ∷ all) ++ after) ≡ true
  unfolding some_pass under_path
  some-part same law path row all after =
      ap (λ b. b || some_pass (is_within (exactly same path)) (map (under_path path) all ++ after)) (begins-path same law path row.path)

  -- what is added after the rows of an element
  pub added-part : (same : S → S → Bool) → IsSame same → (path : List S) (new : List (Row S K)) (tree part : Tree S K) → (here : Stands same path tree part) → added (is_within (exactly same path)) new (rows tree) ≡ here.before ++ ((map (under_path path) (rows part) ++ new) ++ here.after)
  unfolding rows own
  added-part same law path new tree part here =
      let row : Row S K = record { path = []; said = element } in
      let all : List (Row S K) = map (λ key. record { path = []; said = states key }) part.keys ++ forest_rows part.below in
      ap (added (is_within (exactly same path)) new) here.stands
      ∙ added-after (is_within (exactly same path)) new here.before (map (under_path path) (row ∷ all) ++ here.after) (some-part same law path row all here.after)
      ∙ ap (λ r. here.before ++ r)
      (added-before (is_within (exactly same path)) new (map (under_path path) (row ∷ all)) here.after here.elsewhere_after
      ∙ ap (λ r. r ++ here.after) (part-passes same law path new row all))

  -- children that are added to an element stand after all its rows
  pub rows-with_children : (same : S → S → Bool) → IsSame same → (path : List S) (more : Forest S K) (tree part : Tree S K) → Stands same path tree part → rows (within (exactly same path) (with_children more) tree) ≡ added (is_within (exactly same path)) (map (under_path path) (forest_rows more)) (rows tree)
  unfolding rows
  rows-with_children same law path more tree part here =
      here.edited (with_children more)
      ∙ ap (λ r. here.before ++ (r ++ here.after))
      (ap (map (under_path path))
      (ap (λ r. own part.keys ++ r) (forest_rows-join part.below more)
      ∙ sym (append_assoc (own part.keys) (forest_rows part.below) (forest_rows more)))
      ∙ map-append (under_path path) (own part.keys ++ forest_rows part.below) (forest_rows more))
      ∙ sym (added-part same law path (map (under_path path) (forest_rows more)) tree part here)

  -- the rows at and below the path are those of the element
  pub filter-part : (same : S → S → Bool) → IsSame same → (path : List S) (tree part : Tree S K) → Stands same path tree part → filter (is_within (exactly same path)) (rows tree) ≡ map (under_path path) (rows part)
  unfolding under_path
  filter-part same law path tree part here =
      ap (filter (is_within (exactly same path))) here.stands
      ∙ filter-append (is_within (exactly same path)) here.before (map (under_path path) (rows part) ++ here.after)
      ∙ ap₂ (λ a b. a ++ b) (filter-none (is_within (exactly same path)) here.before here.elsewhere_before)
      (filter-append (is_within (exactly same path)) (map (under_path path) (rows part)) here.after
      ∙ ap₂ (λ a b. a ++ b) (all_pass (rows part)) (filter-none (is_within (exactly same path)) here.after here.elsewhere_after)
      ∙ append-nil (map (under_path path) (rows part)))
    where
      all_pass : (all : List (Row S K)) → filter (is_within (exactly same path)) (map (under_path path) all) ≡ map (under_path path) all
      all_pass [] = refl
      all_pass (row ∷ all) =
          ap (λ b. cond b (under_path path row ∷ filter (is_within (exactly same path)) (map (under_path path) all)) (filter (is_within (exactly same path)) (map (under_path path) all))) (begins-path same law path row.path)
          ∙ ap (λ r. under_path path row ∷ r) (all_pass all)

  child_at-none : (same : S → S → Bool) (step : S) (siblings : Forest S K) → child_at (same step) siblings ≡ None → IsAbsent same step siblings
  unfolding child_at steps
  child_at-none same step leaf e = tt
  child_at-none same step (node s ks c n) e = cases (same step s) refl (child_at-none same step n) e
    where
      cases : (b : Bool) → same step s ≡ b → (child_at (same step) n ≡ None → IsAbsent same step n) → cond b (Some (record { keys = ks; below = c })) (child_at (same step) n) ≡ None → AllByRecursion (λ other. same step other ≡ false) (s ∷ steps n)
      cases true here rest h = absurd cc
      cases false here rest h = (here, rest h)

  there : (same : S → S → Bool) (step : S) (path : List S) (siblings : Forest S K) (child : Tree S K) → Splits same step siblings child → filter (is_within (exactly same path)) (rows child) ≡ [] → filter (is_within (exactly same (step ∷ path))) (forest_rows siblings) ≡ []
  unfolding forest_rows rows
  there same step path siblings child split e =
      ap (filter (is_within (exactly same (step ∷ path)))) (ap forest_rows split.is ∙ forest_rows-join split.left (planted step child split.right))
      ∙ filter-append (is_within (exactly same (step ∷ path))) (forest_rows split.left) (map (under step) (own child.keys ++ forest_rows child.below) ++ forest_rows split.right)
      ∙ ap₂ (λ a b. a ++ b) (filter-none (is_within (exactly same (step ∷ path))) (forest_rows split.left) (absent-rows same step path split.left split.absent_left))
      (filter-append (is_within (exactly same (step ∷ path))) (map (under step) (own child.keys ++ forest_rows child.below)) (forest_rows split.right)
      ∙ ap₂ (λ a b. a ++ b)
      (filter-under (same step) (exactly same path) step (own child.keys ++ forest_rows child.below)
      ∙ ap (λ r. map (under step) (cond (same step step) r [])) e
      ∙ nothing (same step step))
      (filter-none (is_within (exactly same (step ∷ path))) (forest_rows split.right) (absent-rows same step path split.right split.absent_right)))
    where
      nothing : (b : Bool) → map (under {K = K} step) (cond b [] []) ≡ []
      nothing true = refl
      nothing false = refl

  -- a path that leads to no element has no rows
  pub filter-none_there : (same : S → S → Bool) → IsSame same → (path : List S) (tree : Tree S K) → IsDistinct same tree.below → element_at (exactly same path) tree ≡ None → filter (is_within (exactly same path)) (rows tree) ≡ []
  unfolding element_at rows
  filter-none_there same law [] tree distinct e = absurd cc
  filter-none_there same law (step ∷ path) tree distinct e =
      filter-append (is_within (exactly same (step ∷ path))) (own tree.keys) (forest_rows tree.below)
      ∙ ap₂ (λ a b. a ++ b)
      (filter-none (is_within (exactly same (step ∷ path))) (own tree.keys) (some_pass-own (same step) (exactly same path) tree.keys))
      (cases (child_at (same step) tree.below) refl e (λ child. filter-none_there same law path child))
    where
      cases : (child : Option (Tree S K)) → child_at (same step) tree.below ≡ child → option_and_then (element_at (exactly same path)) child ≡ None → ((child : Tree S K) → IsDistinct same child.below → element_at (exactly same path) child ≡ None → filter (is_within (exactly same path)) (rows child) ≡ []) → filter (is_within (exactly same (step ∷ path))) (forest_rows tree.below) ≡ []
      cases None at h rest = filter-none (is_within (exactly same (step ∷ path))) (forest_rows tree.below) (absent-rows same step path tree.below (child_at-none same step tree.below at))
      cases (Some child) at h rest = there same step path tree.below child (child_at-splits same law step tree.below child distinct at) (rest child (child_at-distinct same (same step) tree.below child distinct at) h)
