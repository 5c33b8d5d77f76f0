-- The siblings of a forest as a list, and what the flat rows tell of each of them.
use Rattle.std.proofs.Common.{◌≡◌, Bool, true, false, cond, ◌||◌, List, [], ◌∷◌, map, filter, Some, option_and_then, refl, sym, ap, ap₂, ◌∙◌, subst}
use Rattle.std.specs.List.{AllByRecursion, IsDistinct as AreDistinct}
use Rattle.patch_edits.proofs.Contexts.{tree_with}
use Rattle.patch_edits.specs.Visits.{Below}
use Rattle.patch_sem.specs.Arrays.{is_one_of}
use Rattle.patch_arrays.proofs.Each.{each_so}
use Rattle.patch_arrays.specs.Arranging.{Element, elements}
use Rattle.svd_model.proofs.Steps.{same_step-tells}
use Rattle.svd_model.specs.Keys.{Key}
use Rattle.svd_model.specs.Stating.{keys_at}
use Rattle.svd_model.specs.Steps.{Step, same_step}
use Rattle.svd_rows.proofs.Adding.{filter-part}
use Rattle.svd_rows.proofs.LookUps.{children_of-rows, inside-rows, keys_of-rows}
use Rattle.svd_rows.proofs.Siblings.{IsDistinct-each}
use Rattle.svd_rows.proofs.Standing.{element_at-stands}
use Rattle.svd_rows.specs.Elements.{IsDistinct, child_at, element_at}
use Rattle.svd_rows.specs.Forest.{leaf, node, siblings, steps}
use Rattle.svd_rows.specs.LookUps.{children_of, inside, keys_of}
use Rattle.svd_rows.specs.Paths.{is_within}
use Rattle.svd_rows.specs.Rows.{rows, under_path}
use Rattle.svd_rows.specs.Standing.{Stands}

abbrev pub step_in : Element → Step
step_in element = element.0

pub siblings-elements : (f : Below) → siblings (elements f) ≡ f
unfolding siblings elements
siblings-elements leaf = refl
siblings-elements (node s ks c n) = ap (node s ks c) (siblings-elements n)

pub elements-siblings : (xs : List Element) → elements (siblings xs) ≡ xs
unfolding siblings elements
elements-siblings [] = refl
elements-siblings (x ∷ xs) = ap (λ (r : List Element). x ∷ r) (elements-siblings xs)

pub steps-elements : (f : Below) → steps f ≡ map step_in (elements f)
unfolding steps elements
steps-elements leaf = refl
steps-elements (node s ks c n) = ap (λ (r : List Step). s ∷ r) (steps-elements n)

pub turned : (one other : Step) → same_step one other ≡ false → same_step other one ≡ false
turned one other e = cases (same_step other one) refl
  where
    cases : (b : Bool) → same_step other one ≡ b → b ≡ false
    cases true h = sym (same_step-tells.itself one) ∙ ap (same_step one) (sym (same_step-tells.alone other one h)) ∙ e
    cases false h = refl

-- ---- each is found at its step

behind-one : (s : Step) (ks : List Key) (c n m : Below) → AllByRecursion (λ other. same_step s other ≡ false) (steps m) → AllByRecursion (λ e. child_at (same_step e.0) n ≡ Some e.1) (elements m) → AllByRecursion (λ e. child_at (same_step e.0) (node s ks c n) ≡ Some e.1) (elements m)
unfolding steps elements child_at
behind-one s ks c n leaf apart found = tt
behind-one s ks c n (node t ls d m) apart found =
    (ap (λ (b : Bool). cond b (Some (record { keys = ks; below = c })) (child_at (same_step t) n)) (turned s t apart.0) ∙ found.0, behind-one s ks c n m apart.1 found.1)

child_at-each : (f : Below) → IsDistinct same_step f → AllByRecursion (λ e. child_at (same_step e.0) f ≡ Some e.1) (elements f)
unfolding elements IsDistinct child_at
child_at-each leaf distinct = tt
child_at-each (node s ks c n) distinct =
    (ap (λ (b : Bool). cond b (Some (record { keys = ks; below = c })) (child_at (same_step s) n)) (same_step-tells.itself s), behind-one s ks c n n distinct.0 (child_at-each n distinct.2))

module _ (keys : List Key) (f : Below) (distinct : IsDistinct same_step f) where
  abbrev Known : Element → Type 0
  Known e = Stands same_step (e.0 ∷ []) (tree_with keys f) e.1

  known_at : (e : Element) → child_at (same_step e.0) f ≡ Some e.1 → Known e
  unfolding element_at
  known_at e found = element_at-stands same_step same_step-tells (e.0 ∷ []) (tree_with keys f) e.1 distinct (ap (λ o. option_and_then (element_at []) o) found)

  pub known-each : AllByRecursion Known (elements f)
  known-each = each_so (λ e. child_at (same_step e.0) f ≡ Some e.1) Known known_at (elements f) (child_at-each f distinct)

-- what the rows of the parent tell of a child
pub inside-known : (keys : List Key) (f : Below) (e : Element) → Stands same_step (e.0 ∷ []) (tree_with keys f) e.1 → inside same_step (e.0 ∷ []) (rows (tree_with keys f)) ≡ rows e.1
inside-known keys f e known = inside-rows same_step same_step-tells (e.0 ∷ []) (tree_with keys f) e.1 known

pub keys-known : (keys : List Key) (f : Below) (e : Element) → Stands same_step (e.0 ∷ []) (tree_with keys f) e.1 → keys_at (rows (tree_with keys f)) (e.0 ∷ []) ≡ e.1.keys
keys-known keys f e known = ap keys_of (inside-known keys f e known) ∙ keys_of-rows e.1

pub group-known : (keys : List Key) (f : Below) (e : Element) → Stands same_step (e.0 ∷ []) (tree_with keys f) e.1 → filter (is_within (same_step e.0 ∷ [])) (rows (tree_with keys f)) ≡ map (under_path (e.0 ∷ [])) (rows e.1)
group-known keys f e known = filter-part same_step same_step-tells (e.0 ∷ []) (tree_with keys f) e.1 known

pub children-known : (keys : List Key) (f : Below) → children_of (rows (tree_with keys f)) ≡ map step_in (elements f)
children-known keys f = children_of-rows (tree_with keys f) ∙ steps-elements f

-- ---- members are told by their steps

pub distinct-steps : (f : Below) → IsDistinct same_step f → AreDistinct same_step (map step_in (elements f))
distinct-steps f distinct = (IsDistinct-each same_step (elements f) (subst (IsDistinct same_step) (sym (siblings-elements f)) distinct)).0

module _ (test : Element → Bool) where
  abbrev chosen : List Element → List Step
  chosen all = map step_in (filter test all)

  none-chosen : (step : Step) (all : List Element) → AllByRecursion (λ other. same_step step other ≡ false) (map step_in all) → is_one_of (chosen all) step ≡ false
  none-chosen step [] apart = refl
  none-chosen step (x ∷ all) apart = cases (test x) (none-chosen step all apart.1)
    where
      cases : (b : Bool) → is_one_of (chosen all) step ≡ false → is_one_of (map step_in (cond b (x ∷ filter test all) (filter test all))) step ≡ false
      cases true more = ap₂ (λ (a b : Bool). a || b) (turned step x.0 apart.0) more
      cases false more = more

  pub chosen-each : (all : List Element) → AreDistinct same_step (map step_in all) → AllByRecursion (λ e. is_one_of (chosen all) e.0 ≡ test e) all
  unfolding AreDistinct
  chosen-each [] distinct = tt
  chosen-each (x ∷ all) distinct = (first (test x), others all distinct.0 (chosen-each all distinct.1))
    where
      first : (b : Bool) → is_one_of (map step_in (cond b (x ∷ filter test all) (filter test all))) x.0 ≡ b
      first true = ap (λ (b : Bool). b || is_one_of (chosen all) x.0) (same_step-tells.itself x.0)
      first false = none-chosen x.0 all distinct.0

      more : (b : Bool) (e : Element) → same_step x.0 e.0 ≡ false → is_one_of (chosen all) e.0 ≡ test e → is_one_of (map step_in (cond b (x ∷ filter test all) (filter test all))) e.0 ≡ test e
      more true e apart is = ap₂ (λ (a b : Bool). a || b) apart is
      more false e apart is = is

      others : (rest : List Element) → AllByRecursion (λ other. same_step x.0 other ≡ false) (map step_in rest) → AllByRecursion (λ e. is_one_of (chosen all) e.0 ≡ test e) rest → AllByRecursion (λ e. is_one_of (map step_in (cond (test x) (x ∷ filter test all) (filter test all))) e.0 ≡ test e) rest
      others [] apart is = tt
      others (e ∷ rest) apart is = (more (test x) e apart.0 is.0, others rest apart.1 is.1)
