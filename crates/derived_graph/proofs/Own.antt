-- The own children of an element, by their numbers.
use Rattle.std.proofs.Common.{◌≡◌, ℕ, ◌+◌, ◌<◌, ◌≤◌, Bool, true, false, ◌&&◌, cond, List, [], ◌∷◌, ◌++◌, map, filter, filter_map, length, drop, get_or, Option, None, Some, refl, sym, ap, ap₂, ◌∙◌, append_assoc, arith}
use Rattle.std.specs.List.{AllByRecursion, cons_option}
use Rattle.std.proofs.lemmas.List.{length_push}
use Rattle.std.proofs.Math.Seq.{get_or-append_seam}
use Rattle.derived_rows.specs.Sources.{children_at}
use Rattle.derived_graph.specs.Graphs.{Child, path_at, step_below, with_child, children_among, own_children}
use Rattle.svd_model.specs.Keys.{Key}
use Rattle.svd_model.specs.Stating.{paths_of}
use Rattle.svd_model.specs.Steps.{Step, same_step}
use Rattle.svd_model.proofs.Steps.{same_step-tells}
use Rattle.svd_rows.specs.LookUps.{inside, seen_below, child_step, children_of}
use Rattle.svd_rows.specs.Paths.{begins, exactly, is_within}
use Rattle.svd_rows.specs.Rows.{Row, Said, element, states, is_element}

-- the step of a path below another, by what begins as that one
below-begins : (path other : List Step) → step_below path other ≡ cond (begins (exactly same_step path) other) (child_step {K = Key} (drop (length path) other) element) None
unfolding step_below begins child_step
below-begins [] [] = refl
below-begins [] (step ∷ []) = refl
below-begins [] (step ∷ next ∷ path) = refl
below-begins (step ∷ path) [] = refl
below-begins (step ∷ path) (other ∷ below) = at (same_step step other) (below-begins path below)
  where
    at : (b : Bool) → step_below path below ≡ cond (begins (exactly same_step path) below) (child_step {K = Key} (drop (length path) below) element) None
        → cond b (step_below path below) None ≡ cond (b && begins (exactly same_step path) below) (child_step {K = Key} (drop (length path) below) element) None
    at true e = e
    at false e = refl

-- the steps of the children are those of the paths below
children-below : (all : List (Row Step Key)) (path : List Step) → children_at all path ≡ filter_map (step_below path) (paths_of all)
unfolding inside children_of paths_of is_element child_step
children-below [] path = refl
children-below (row ∷ all) path = at row.said (children-below all path)
  where
    tell : Row Step Key → Option Step
    tell r = child_step r.path r.said

    rest : List (Row Step Key)
    rest = filter (is_within (exactly same_step path)) all

    no_row : (b : Bool) (key : Key) → filter_map tell (map (seen_below path) (cond b (record { path = row.path; said = states key } ∷ rest) rest)) ≡ filter_map tell (map (seen_below path) rest)
    no_row true key = none (drop (length path) row.path)
      where
        none : (left : List Step) → cons_option (child_step left (states key)) (filter_map tell (map (seen_below path) rest)) ≡ filter_map tell (map (seen_below path) rest)
        none [] = refl
        none (step ∷ []) = refl
        none (step ∷ next ∷ left) = refl
    no_row false key = refl

    one_row : (b : Bool) → filter_map tell (map (seen_below path) (cond b (record { path = row.path; said = element } ∷ rest) rest)) ≡ cons_option (cond b (child_step {K = Key} (drop (length path) row.path) element) None) (filter_map tell (map (seen_below path) rest))
    one_row true = refl
    one_row false = refl

    at : (said : Said Key) → children_at all path ≡ filter_map (step_below path) (paths_of all)
        → children_at (record { path = row.path; said = said } ∷ all) path ≡ filter_map (step_below path) (paths_of (record { path = row.path; said = said } ∷ all))
    at (states key) e = no_row (begins (exactly same_step path) row.path) key ∙ e
    at element e = one_row (begins (exactly same_step path) row.path) ∙ ap₂ (λ o r. cons_option o r) (sym (below-begins path row.path)) e

-- a path below another is that one and the step
pub below-is : (path other : List Step) (step : Step) → step_below path other ≡ Some step → other ≡ path ++ step ∷ []
unfolding step_below
below-is [] [] step e = absurd cc
below-is [] (s ∷ []) step e = let same : s ≡ step = cc in ap (λ t. t ∷ []) same
below-is [] (s ∷ t ∷ path) step e = absurd cc
below-is (s ∷ path) [] step e = absurd cc
below-is (s ∷ path) (other ∷ below) step e = at (below-is path below step) (same_step s other) refl e
  where
    at : (step_below path below ≡ Some step → below ≡ path ++ step ∷ []) → (b : Bool) → same_step s other ≡ b → cond b (step_below path below) None ≡ Some step → other ∷ below ≡ s ∷ (path ++ step ∷ [])
    at again true p q = ap₂ (λ a r. a ∷ r) (sym (same_step-tells.alone s other p)) (again q)
    at again false p q = absurd cc

module _ {X : Type 0} (f : List Step → X) where
  -- children told by their numbers are those told by their paths
  told-among : (path : List Step) (before paths : List (List Step)) → map {B = Step × X} (λ (child : Child). (child.0, f (get_or (before ++ paths) child.1 []))) (children_among path (length before) paths) ≡ map {B = Step × X} (λ step. (step, f (path ++ step ∷ []))) (filter_map (step_below path) paths)
  unfolding children_among
  told-among path before [] = refl
  told-among path before (other ∷ paths) =
      at (step_below path other) refl
      (ap₂ (λ (whole : List (List Step)) (n : ℕ). map {B = Step × X} (λ (child : Child). (child.0, f (get_or whole child.1 []))) (children_among path n paths)) (sym (append_assoc before (other ∷ []) paths)) (sym (length_push before other))
      ∙ told-among path (before ++ other ∷ []) paths)
    where
      seen : Child → (Step × X)
      seen child = (child.0, f (get_or (before ++ (other ∷ paths)) child.1 []))

      below : Step → (Step × X)
      below step = (step, f (path ++ step ∷ []))

      at : (o : Option Step) → step_below path other ≡ o → map seen (children_among path (length before + 1) paths) ≡ map below (filter_map (step_below path) paths)
          → map seen (with_child o (length before) (children_among path (length before + 1) paths)) ≡ map below (cons_option o (filter_map (step_below path) paths))
      at None e again = again
      at (Some step) e again = ap₂ (λ (p : List Step) r. (step, f p) ∷ r) (get_or-append_seam before other paths [] ∙ below-is path other step e) again

  pub own-told : (all : List (Row Step Key)) (e : ℕ) → map {B = Step × X} (λ (child : Child). (child.0, f (path_at all child.1))) (own_children all e) ≡ map {B = Step × X} (λ step. (step, f (path_at all e ++ step ∷ []))) (children_at all (path_at all e))
  own-told all e =
      told-among (path_at all e) [] (paths_of all)
      ∙ ap (map {A = Step} {B = Step × X} (λ step. (step, f (path_at all e ++ step ∷ [])))) (sym (children-below all (path_at all e)))

-- the numbers of children are those of paths
among-inside : (path : List Step) (n : ℕ) (paths : List (List Step)) (limit : ℕ) → n + length paths ≤ limit → AllByRecursion (λ (child : Child). child.1 < limit) (children_among path n paths)
unfolding children_among
among-inside path n [] limit h = tt
among-inside path n (other ∷ paths) limit h = at (step_below path other) (among-inside path (n + 1) paths limit (omega (arith, h)))
  where
    at : (o : Option Step) → AllByRecursion (λ (child : Child). child.1 < limit) (children_among path (n + 1) paths) → AllByRecursion (λ (child : Child). child.1 < limit) (with_child o n (children_among path (n + 1) paths))
    at None others = others
    at (Some step) others = (omega (arith, h), others)

pub own-inside : (all : List (Row Step Key)) (e : ℕ) → AllByRecursion (λ (child : Child). child.1 < length (paths_of all)) (own_children all e)
own-inside all e = among-inside (path_at all e) 0 (paths_of all) (length (paths_of all)) (omega arith)
