-- The graph, unfolded so many levels down, has the derived rows, where no path has more steps.
use Rattle.std.proofs.Common.{◌≡◌, inl, inr, ℕ, zero, suc, ◌<◌, ◌≤◌, Bool, true, false, cond, nat_lt, List, [], ◌∷◌, ◌++◌, map, take, length, Option, None, Some, option_map, refl, sym, ap, ap₂, ◌∙◌, subst, arith}
use Rattle.std.specs.List.{AllByRecursion, find}
use Rattle.std.proofs.lemmas.Bool.{lt-ltb, true≢false, cases_lt}
use Rattle.derived_graph.specs.Graphs.{Child, path_at, unfolded}
use Rattle.derived_graph.specs.Laws.{GraphUnfolds}
use Rattle.derived_graph.proofs.Along.{rows_of, all-inside, all-grow}
use Rattle.derived_graph.proofs.Parts.{Rows, parts_rows}
use Rattle.derived_rows.specs.Deriving.{Part, derived_at, derived_rows, element_rows}
use Rattle.derived_rows.specs.Faults.{first_deep, step_limit}
use Rattle.need_order.specs.Levels.{by_levels}
use Rattle.svd_model.specs.Keys.{Key}
use Rattle.svd_model.specs.Stating.{paths_of}
use Rattle.svd_model.specs.Steps.{Step}
use Rattle.svd_model.proofs.Walking.{paths-append, paths-own}
use Rattle.svd_rows.specs.Forest.{Tree, siblings}
use Rattle.svd_rows.specs.Rows.{Said, element, states, is_element, own, under, rows, forest_rows}
use Rattle.svd_rows.proofs.Lists.{map-map}

-- the rows of siblings are those of each, under its step
pub sibling-rows : (xs : List (Step × Tree Step Key)) → forest_rows (siblings xs) ≡ parts_rows (map (λ x. (x.0, rows x.1)) xs)
unfolding forest_rows siblings rows
sibling-rows [] = refl
sibling-rows (x ∷ xs) = ap (λ r. map (under x.0) (own x.1.keys ++ forest_rows x.1.below) ++ r) (sibling-rows xs)

paths-under : (step : Step) (all : Rows) → paths_of (map (under step) all) ≡ map (λ path. step ∷ path) (paths_of all)
unfolding paths_of under is_element
paths-under step [] = refl
paths-under step (row ∷ all) = at row.said (paths-under step all)
  where
    at : (said : Said Key) → paths_of (map (under step) all) ≡ map (λ path. step ∷ path) (paths_of all)
        → paths_of (map (under step) (record { path = row.path; said = said } ∷ all)) ≡ map (λ path. step ∷ path) (paths_of (record { path = row.path; said = said } ∷ all))
    at element e = ap (λ r. (step ∷ row.path) ∷ r) e
    at (states key) e = e

-- the paths of these elements have fewer steps
abbrev pub IsShallow : ℕ → Rows → Type 0
IsShallow levels all = AllByRecursion (λ path. length path < levels) (paths_of all)

all-left : {X : Type 0} (P : X → Type 0) (xs ys : List X) → AllByRecursion P (xs ++ ys) → AllByRecursion P xs
all-left P [] ys h = tt
all-left P (x ∷ xs) ys h = (h.0, all-left P xs ys h.1)

all-right : {X : Type 0} (P : X → Type 0) (xs ys : List X) → AllByRecursion P (xs ++ ys) → AllByRecursion P ys
all-right P [] ys h = h
all-right P (x ∷ xs) ys h = all-right P xs ys h.1

one-less : (levels : ℕ) (step : Step) (paths : List (List Step)) → AllByRecursion (λ path. length path < suc levels) (map (λ path. step ∷ path) paths) → AllByRecursion (λ path. length path < levels) paths
one-less levels step [] h = tt
one-less levels step (path ∷ paths) h = (omega (arith, h.0), one-less levels step paths h.1)

pub shallow-parts : (levels : ℕ) (keys : List Key) (parts : List Part) → IsShallow (suc levels) (element_rows keys parts) → AllByRecursion (λ (part : Part). IsShallow levels part.1) parts
unfolding element_rows
shallow-parts levels keys parts h =
    each parts (all-right (λ path. length path < suc levels) (paths_of (own keys)) (paths_of (parts_rows parts)) (subst (AllByRecursion (λ path. length path < suc levels)) (paths-append (own keys) (parts_rows parts)) h))
  where
    each : (parts : List Part) → AllByRecursion (λ path. length path < suc levels) (paths_of (parts_rows parts)) → AllByRecursion (λ (part : Part). IsShallow levels part.1) parts
    each [] h = tt
    each (part ∷ parts) h =
        let both = subst (AllByRecursion (λ path. length path < suc levels)) (paths-append (map (under part.0) part.1) (parts_rows parts)) h in (
          one-less levels part.0 (paths_of part.1) (subst (AllByRecursion (λ path. length path < suc levels)) (paths-under part.0 part.1) (all-left (λ path. length path < suc levels) (paths_of (map (under part.0) part.1)) (paths_of (parts_rows parts)) both)),
          each parts (all-right (λ path. length path < suc levels) (paths_of (map (under part.0) part.1)) (paths_of (parts_rows parts)) both),
        )

pub none-shallow : (keys : List Key) (parts : List Part) → IsShallow 0 (element_rows keys parts) → ⊥
unfolding element_rows
none-shallow keys parts h =
    let both = subst (AllByRecursion (λ path. length path < 0)) (paths-append (own keys) (parts_rows parts) ∙ ap (λ r. r ++ paths_of (parts_rows parts)) (paths-own keys)) h in
    absurd (omega (arith, both.0))

module _ (keys : ℕ → List Key) (children : ℕ → List Child) (n : ℕ) (of : ℕ → Rows) (inside : (e : ℕ) → e < n → AllByRecursion (λ (child : Child). child.1 < n) (children e)) (grows : (e : ℕ) → e < n → of e ≡ element_rows (keys e) (map (λ child. (child.0, of child.1)) (children e))) where
  abbrev told : Child → Part
  told child = (child.0, of child.1)

  unfolds : (levels e : ℕ) → e < n → IsShallow levels (of e) → rows (unfolded keys children levels e) ≡ of e
  unfolding by_levels rows element_rows
  unfolds zero e here shallow = absurd (none-shallow (keys e) (map told (children e)) (subst (IsShallow 0) (grows e here) shallow))
  unfolds (suc levels) e here shallow =
      ap (λ r. own (keys e) ++ r)
      (sibling-rows (map (λ child. (child.0, unfolded keys children levels child.1)) (children e))
      ∙ ap parts_rows (map-map (λ (x : Step × Tree Step Key). (x.0, rows x.1)) (λ (child : Child). (child.0, unfolded keys children levels child.1)) (children e)
      ∙ below (unfolds levels) (children e) (inside e here) (shallow-parts levels (keys e) (map told (children e)) (subst (IsShallow (suc levels)) (grows e here) shallow))))
      ∙ sym (grows e here)
    where
      below : ((e : ℕ) → e < n → IsShallow levels (of e) → rows (unfolded keys children levels e) ≡ of e)
          → (cs : List Child) → AllByRecursion (λ (child : Child). child.1 < n) cs → AllByRecursion (λ (part : Part). IsShallow levels part.1) (map told cs)
          → map (λ (child : Child). (child.0, rows (unfolded keys children levels child.1))) cs ≡ map told cs
      below again [] p q = refl
      below again (c ∷ cs) p q = ap₂ (λ (r : Rows) others. (c.0, r) ∷ others) (again c.1 p.0 q.0) (below again cs p.1 q.1)

-- no path has more than so many steps
no-deep : (limit : ℕ) (paths : List (List Step)) → find (λ path. nat_lt limit (length path)) paths ≡ None → (levels : ℕ) → limit < levels → AllByRecursion (λ path. length path < levels) paths
no-deep limit [] e levels more = tt
no-deep limit (path ∷ paths) e levels more = at (λ q. no-deep limit paths q levels more) (nat_lt limit (length path)) refl e
  where
    at : (find (λ path. nat_lt limit (length path)) paths ≡ None → AllByRecursion (λ path. length path < levels) paths) → (b : Bool) → nat_lt limit (length path) ≡ b → cond b (Some path) (find (λ path. nat_lt limit (length path)) paths) ≡ None → (length path < levels) × AllByRecursion (λ path. length path < levels) paths
    at again true p q = absurd cc
    at again false p q = (omega (arith, more, not_less p), again q)
      where
        not_less : nat_lt limit (length path) ≡ false → length path ≤ limit
        not_less e = elim (cases_lt limit (length path)) [ inl less ↦ absurd (true≢false (sym (lt-ltb limit (length path) less) ∙ e)) | inr other ↦ other ]

no_map : (o : Option (List Step)) → option_map (take 1) o ≡ None → o ≡ None
no_map None e = refl
no_map (Some path) e = absurd cc

-- the derived rows have no path of more steps
pub shallow-top : (all : Rows) → path_at all 0 ≡ [] → first_deep all ≡ None → (levels : ℕ) → step_limit < levels → IsShallow levels (derived_at all (length (paths_of all)) (path_at all 0))
unfolding derived_rows first_deep
shallow-top all top shallow levels enough =
    subst (λ (path : List Step). IsShallow levels (derived_at all (length (paths_of all)) path)) (sym top)
    (no-deep step_limit (paths_of (derived_at all (length (paths_of all)) [])) (no_map (find (λ path. nat_lt step_limit (length path)) (paths_of (derived_at all (length (paths_of all)) []))) shallow) levels enough)

pub graph_unfolds : GraphUnfolds
unfolding derived_rows
graph_unfolds all found needs order keys children no_circle told needed ordered graph apart top some shallow levels enough =
    unfolds keys children (length (paths_of all)) (rows_of all no_circle found told top some) (all-inside all no_circle found told top some keys children graph apart needs order needed ordered) (all-grow all no_circle found told top some keys children graph apart needs order needed ordered)
    levels 0 some (shallow-top all top shallow levels enough)
    ∙ ap (derived_at all (length (paths_of all))) top
