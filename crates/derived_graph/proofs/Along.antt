-- Along an order in which each element stands behind its source, the rows of each are those of its keys and its children.
use Rattle.std.proofs.Common.{◌≡◌, inl, inr, ℕ, zero, suc, ◌<◌, true, List, [], ◌∷◌, ◌++◌, map, length, get_or, Option, None, Some, option_map, refl, sym, ap, ap₂, ◌∙◌, subst, arith, append_assoc, append-nil}
use Rattle.std.specs.List.{AllByRecursion, IsDistinct}
use Rattle.std.proofs.lemmas.Bool.{true≢false}
use Rattle.std.proofs.lemmas.List.{get_or-map, length-map}
use Rattle.derived_graph.specs.Graphs.{Child, TellsSources, path_at, own_children, source_at, keys_from, children_from, IsGraph, NeedsSources}
use Rattle.derived_graph.specs.Laws.{AreApart}
use Rattle.derived_graph.proofs.Merging.{children-over, each-by}
use Rattle.derived_graph.proofs.Own.{own-told, own-inside}
use Rattle.derived_graph.proofs.Parts.{Rows, IsWhole, keys_of-element, parts_of-element}
use Rattle.derived_rows.specs.Dependence.{same_path, IsAmong, HasNoCircle}
use Rattle.derived_rows.specs.Deriving.{Part, derived_by, derived_at, element_rows, own_parts, parts_of, with_source}
use Rattle.derived_rows.specs.Merging.{is_marked_at, taken, children_by}
use Rattle.derived_rows.specs.Sources.{kind_at, source_of}
use Rattle.derived_rows.proofs.Levels.{levels_are_enough}
use Rattle.derived_rows.proofs.Paths.{same_path-tells, member-head, member-tail}
use Rattle.need_order.specs.Needs.{among, IsOrder}
use Rattle.need_order.proofs.Numbers.{among-head, among-left, among-right, among-cases, among-one}
use Rattle.svd_model.specs.Keys.{Key}
use Rattle.svd_model.specs.Stating.{keys_at, paths_of}
use Rattle.svd_model.specs.Steps.{Step, same_step}
use Rattle.svd_rows.specs.LookUps.{keys_of}
use Rattle.svd_rows.proofs.Lists.{map-map}

pub member-at : (paths : List (List Step)) (e : ℕ) → e < length paths → IsAmong paths (get_or paths e [])
member-at [] e h = absurd (omega (arith, h))
member-at (path ∷ paths) zero h = member-head same_path same_path-tells path paths
member-at (path ∷ paths) (suc e) h = member-tail same_path same_path-tells path paths (get_or paths e []) (member-at paths e (omega (arith, h)))

-- what holds of each element, where it holds of its source, holds of all
module _ (found : List (Option ℕ)) (needs : ℕ → List ℕ) (n : ℕ) (order : List ℕ) (needed : NeedsSources found needs) (ordered : IsOrder needs n order) (P : ℕ → Type 0) (step : (e : ℕ) → e < n → ((s : ℕ) → source_at found e ≡ Some s → (s < n) × P s) → P e) where
  along-rest : (before rest : List ℕ) → order ≡ before ++ rest → ((d : ℕ) → among d before ≡ true → (d < n) × P d) → (d : ℕ) → among d (before ++ rest) ≡ true → (d < n) × P d
  along-rest before [] is holds d there = holds d (subst (λ ds. among d ds ≡ true) (append-nil before) there)
  along-rest before (e ∷ rest) is holds d there =
      along-rest (before ++ e ∷ []) rest (is ∙ sym (append_assoc before (e ∷ []) rest)) more d (subst (λ ds. among d ds ≡ true) (sym (append_assoc before (e ∷ []) rest)) there)
    where
      inside : e < n
      inside = (ordered.whole e).0 (subst (λ ds. among e ds ≡ true) (sym is) (among-right e before (e ∷ rest) (among-left e (e ∷ []) rest (among-head e []))))

      more : (d : ℕ) → among d (before ++ e ∷ []) ≡ true → (d < n) × P d
      more d p = elim (among-cases d before (e ∷ []) p) [
        | inl q ↦ holds d q
        | inr q ↦ subst (λ i. (i < n) × P i) (sym (among-one d e q)) (inside, step e inside (λ s source. holds s (ordered.behind before rest e s is (needed e s source))))
      ]

  pub along : (e : ℕ) → e < n → P e
  along e inside = (along-rest [] order refl (λ d there. absurd (true≢false (sym there))) e ((ordered.whole e).1 inside)).1

module _ (all : Rows) (no_circle : HasNoCircle all) (found : List (Option ℕ)) (told : TellsSources all found) (top : path_at all 0 ≡ []) (some : 0 < length (paths_of all)) where
  abbrev pub count : ℕ
  count = length (paths_of all)

  abbrev pub derived : List Step → Rows
  derived = derived_at all (length (paths_of all))

  -- the derived rows at and below an element
  abbrev pub rows_of : ℕ → Rows
  rows_of e = derived (path_at all e)

  -- a child with its rows
  abbrev pub seen : Child → Part
  seen child = (child.0, rows_of child.1)

  source-is : (e : ℕ) → e < count → source_of all (path_at all e) ≡ option_map (path_at all) (source_at found e)
  source-is e inside =
      sym (get_or-map (source_of all) (paths_of all) e [] None inside)
      ∙ sym (ap (λ l. get_or l e None) told)
      ∙ get_or-map (option_map (path_at all)) found e None None (omega (arith, inside, as_many))
    where
      as_many : length found ≡ length (paths_of all)
      as_many = sym (length-map found (option_map (path_at all))) ∙ ap (λ l. length l) told ∙ length-map (paths_of all) (source_of all)

  twice : (o : Option ℕ) → option_map derived (option_map (path_at all) o) ≡ option_map rows_of o
  twice None = refl
  twice (Some s) = refl

  -- an element by the rows of its source, where it has one
  settled : (e : ℕ) → e < count → rows_of e ≡ with_source (path_at all e) (keys_at all (path_at all e)) (own_parts all derived (path_at all e)) (option_map rows_of (source_at found e))
  unfolding derived_by
  settled e inside =
      levels_are_enough all no_circle (length (paths_of all)) (omega arith) (path_at all e) (member-at (paths_of all) e inside)
      ∙ ap (λ o. with_source (path_at all e) (keys_at all (path_at all e)) (own_parts all derived (path_at all e)) o) (ap (option_map derived) (source-is e inside) ∙ twice (source_at found e))

  pub whole : (e : ℕ) → e < count → IsWhole (rows_of e)
  whole e inside = at (option_map rows_of (source_at found e)) (settled e inside)
    where
      at : (o : Option Rows) → rows_of e ≡ with_source (path_at all e) (keys_at all (path_at all e)) (own_parts all derived (path_at all e)) o → IsWhole (rows_of e)
      at None is = record { keys = keys_at all (path_at all e); parts = own_parts all derived (path_at all e); is = is }
      at (Some source) is = record { keys = taken (is_marked_at (path_at all e)) (keys_at all (path_at all e)) (keys_of source); parts = children_by (kind_at (path_at all e)) (parts_of source) (own_parts all derived (path_at all e)); is = is }

  module _ (keys : ℕ → List Key) (children : ℕ → List Child) (graph : IsGraph all found keys children) (apart : AreApart (length (paths_of all)) children) where
    abbrev pub AreInside : ℕ → Type 0
    AreInside e = AllByRecursion (λ (child : Child). child.1 < length (paths_of all)) (children e)

    inside-step : (e : ℕ) → e < count → ((s : ℕ) → source_at found e ≡ Some s → (s < count) × AreInside s) → AreInside e
    inside-step e inside before = subst (AllByRecursion (λ (child : Child). child.1 < length (paths_of all))) (sym (graph.children_are e inside)) (at (source_at found e) refl)
      where
        at : (o : Option ℕ) → source_at found e ≡ o → AllByRecursion (λ (child : Child). child.1 < length (paths_of all)) (children_from (kind_at (path_at all e)) (own_children all e) (option_map children o))
        at None is = own-inside all e
        at (Some s) is = each-by (λ (child : Child). child.1 < length (paths_of all)) (kind_at (path_at all e)) (λ _ n child p. p) (children s) (own_children all e) (before s is).1 (own-inside all e)

    all-whole : (cs : List Child) → AllByRecursion (λ (child : Child). child.1 < length (paths_of all)) cs → AllByRecursion (λ (part : Part). IsWhole part.1) (map seen cs)
    all-whole [] h = tt
    all-whole (c ∷ cs) h = (whole c.1 h.0, all-whole cs h.1)

    -- the rows of an element are those of its keys and its children
    abbrev pub Grows : ℕ → Type 0
    Grows e = rows_of e ≡ element_rows (keys e) (map seen (children e))

    grows-step : (e : ℕ) → e < count → AreInside e → ((s : ℕ) → source_at found e ≡ Some s → (s < count) × AreInside s × Grows s) → Grows e
    grows-step e inside here before =
        settled e inside ∙ at (source_at found e) refl
        ∙ sym (ap₂ (λ ks cs. element_rows ks (map seen cs)) (graph.keys_are e inside) (graph.children_are e inside))
      where
        path : List Step
        path = path_at all e

        own : map seen (own_children all e) ≡ own_parts all derived path
        own = own-told derived all e

        at : (o : Option ℕ) → source_at found e ≡ o
            → with_source path (keys_at all path) (own_parts all derived path) (option_map rows_of o) ≡ element_rows (keys_from path (keys_at all path) (option_map keys o)) (map seen (children_from (kind_at path) (own_children all e) (option_map children o)))
        at None is = ap (element_rows (keys_at all path)) (sym own)
        at (Some s) is =
            let source = before s is in
            let keys_are : keys_of (rows_of s) ≡ keys s = ap keys_of source.2 ∙ keys_of-element (keys s) (map seen (children s)) in
            let parts_are : parts_of (rows_of s) ≡ map seen (children s) =
            ap parts_of source.2
            ∙ parts_of-element (keys s) (map seen (children s)) (all-whole (children s) source.1)
            (subst (IsDistinct same_step) (sym (map-map (λ (part : Part). part.0) seen (children s))) (apart s source.0)) in
            ap₂ (λ ks ps. element_rows (taken (is_marked_at path) (keys_at all path) ks) (children_by (kind_at path) ps (own_parts all derived path))) keys_are parts_are
            ∙ ap (λ ps. element_rows (taken (is_marked_at path) (keys_at all path) (keys s)) ps)
            (ap (children_by (kind_at path) (map seen (children s))) (sym own) ∙ children-over rows_of (kind_at path) (children s) (own_children all e))

    module _ (needs : ℕ → List ℕ) (order : List ℕ) (needed : NeedsSources found needs) (ordered : IsOrder needs (length (paths_of all)) order) where
      pub all-inside : (e : ℕ) → e < count → AreInside e
      all-inside = along found needs count order needed ordered AreInside inside-step

      pub all-grow : (e : ℕ) → e < count → Grows e
      all-grow = along found needs count order needed ordered Grows (λ e inside before. grows-step e inside (all-inside e inside) (λ s is. let source = before s is in (source.0, all-inside s source.0, source.1)))
