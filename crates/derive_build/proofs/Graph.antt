-- A table that is filled is the graph of a described device.
use Rattle.std.proofs.Common.{◌≡◌, inl, inr, ℕ, zero, suc, ◌<◌, Bool, true, false, not, List, [], ◌∷◌, map, length, Option, None, Some, option_map, slice_get, refl, sym, ap, ap₂, ◌∙◌, arith}
use Rattle.std.specs.List.{list_all}
use Rattle.std.proofs.lemmas.Bool.{cases_lt}
use Rattle.std.proofs.lemmas.List.{get_or_past}
use Rattle.derive_build.specs.declared.own.Own.{Own}
use Rattle.derive_build.specs.declared.own.Own.TheVariants as own
use Rattle.derive_build.specs.declared.settled.Settled.{Settled}
use Rattle.derive_build.specs.Children.{node_at, children_of, plain_by}
use Rattle.derive_build.specs.Filling.{numbers_in, plain_told, keys_made, children_made, IsFilled, takes_of, AllTake}
use Rattle.derive_build.specs.Nodes.{Node, nodes_of, own_node}
use Rattle.derive_build.specs.Tables.{by_place, children_by_number, keys_told, children_told}
use Rattle.derive_build.specs.Taking.{takes}
use Rattle.derive_build.proofs.Filled.{node-of, table-long}
use Rattle.derive_build.proofs.Numbered.{placed-by}
use Rattle.derive_build.proofs.Parts.{parts-are}
use Rattle.derive_build.proofs.Paths.{node_by, node-at, node-kind, node-marked, node-keys, as-many-owns}
use Rattle.derive_build.proofs.Told.{own-at}
use Rattle.derive_order.proofs.Ties.{needs_are, elements_long, sources_long, source_inside}
use Rattle.derive_sources.specs.Graphs.{parts_at, children_among}
use Rattle.derive_sources.specs.Graphs.{IsGraph as IsNeedGraph}
use Rattle.derive_sources.specs.Numbers.{Item, AreNumbered}
use Rattle.derive_sources.proofs.Seats.{as_many}
use Rattle.derive_sources.proofs.Told.{told_at}
use Rattle.derived_graph.specs.Graphs.{path_at, own_children, source_at, keys_from, children_from, IsGraph, TellsSources, NeedsSources}
use Rattle.derived_graph.specs.Nesting.{IsNested}
use Rattle.derived_graph.proofs.SameKind.{source-kind}
use Rattle.derived_rows.specs.Merging.{taken, children_by}
use Rattle.derived_rows.specs.Sources.{stated_source, source_names, source_of, kind_at, sought_from}
use Rattle.need_order.specs.declared.element.Element.{Element}
use Rattle.need_order.specs.Needs.{among, needs, with_base, IsOrder}
use Rattle.need_order.proofs.Numbers.{among-head}
use Rattle.pac_base.specs.Names.{is_word_byte}
use Rattle.pac_base.specs.declared.path.Step.{Step as Written}
use Rattle.svd_model.specs.declared.device.Variant.{Variant}
use Rattle.svd_model.specs.Facts.{IsElement, IsPlacedOrDerived}
use Rattle.svd_model.specs.Keys.{Key, enumerated_value}
use Rattle.svd_model.specs.Stating.{keys_at, paths_of, value_of}
use Rattle.svd_model.specs.Steps.{Step, Kind, value, same_key, same_step}
use Rattle.svd_model.specs.Trees.{value_places}
use Rattle.svd_model.proofs.Steps.{same_step-finer}
use Rattle.svd_rows.specs.Elements.{Every}
use Rattle.svd_rows.specs.Elements.{IsDistinct as AreDistinct}
use Rattle.svd_rows.specs.Forest.{Tree}
use Rattle.svd_rows.specs.Ranks.{stated}
use Rattle.svd_rows.specs.Rows.{rows}
use Rattle.svd_rows.proofs.Facts.{IsDistinct-finer}

there : {X : Type 0} (xs : List X) (i : ℕ) → i < length xs → slice_get xs i ≡ None → ⊥
there [] i h is = absurd (omega (arith, h))
there (x ∷ xs) zero h is = absurd cc
there (x ∷ xs) (suc i) h is = there xs i (omega (arith, h)) is

-- ---- elements that state sources

-- elements of this kind may state sources
abbrev may_state : Option Kind → Bool
may_state None = false
may_state (Some value) = false
may_state (Some kind) = true

same-takes : (one source : Own) → may_state (own_node one).kind ≡ true → (own_node one).kind ≡ (own_node source).kind → takes one source ≡ true
same-takes (own.Peripheral k e) (own.Peripheral l f) may same = refl
same-takes (own.Cluster k e) (own.Cluster l f) may same = refl
same-takes (own.Register k e) (own.Register l f) may same = refl
same-takes (own.Field k e) (own.Field l f) may same = refl
same-takes (own.Set e) (own.Set f) may same = refl
same-takes _ _ may same = absurd cc

-- an enumerated value states none
value-alone : (v : Variant) → value_of stated_source (stated (value_places v)) ≡ None
unfolding value_of stated value_places
value-alone v = at v.value
  where
    at : (o : Option ℕ) → value_of stated_source (stated (None ∷ None ∷ None ∷ None ∷ None ∷ None ∷ None ∷ None ∷ None ∷ None ∷ None ∷ None ∷ None ∷ None ∷ None ∷ None ∷ None ∷ option_map enumerated_value o ∷ [])) ≡ None
    at None = refl
    at (Some n) = refl

source-states : (one : Own) (names : Option (List Written)) (all_sought : Option Kind → Option (List Written) → Option (List Step)) → names ≡ value_of stated_source (own_node one).keys → ((kind : Option Kind) → all_sought kind None ≡ None) → ((ns : Option (List Written)) → all_sought None ns ≡ None) → (path : List Step) → all_sought (own_node one).kind names ≡ Some path → may_state (own_node one).kind ≡ true
source-states (own.Device d) names sought is none alone path found = absurd (differ (sym found ∙ alone names))
  where
    differ : {p : List Step} → Some p ≡ None → ⊥
    differ e = absurd cc
source-states (own.Value v) names sought is none alone path found = absurd (differ (sym found ∙ ap (sought (Some value)) (is ∙ value-alone v.now) ∙ none (Some value)))
  where
    differ : {p : List Step} → Some p ≡ None → ⊥
    differ e = absurd cc
source-states (own.Peripheral k e) names sought is none alone path found = refl
source-states (own.Cluster k e) names sought is none alone path found = refl
source-states (own.Register k e) names sought is none alone path found = refl
source-states (own.Field k e) names sought is none alone path found = refl
source-states (own.Set e) names sought is none alone path found = refl

module _ (tree : Tree Step Key) (distinct : AreDistinct same_key tree.below) (elements_are : Every (IsElement IsPlacedOrDerived) tree.below) (nested : IsNested None tree.below)
    (items : List Item) (numbered : AreNumbered (rows tree) items) (owns : List Own) (listed : map own_node owns ≡ nodes_of tree)
    (sources : List (Option ℕ)) (told : TellsSources (rows tree) sources) (elements : List Element) (graph : IsNeedGraph items sources elements) where
  abbrev pub count : ℕ
  count = length (paths_of (rows tree))

  abbrev at : ℕ → List Step
  at e = path_at (rows tree) e

  finer : AreDistinct same_step tree.below
  finer = IsDistinct-finer same_key same_step same_step-finer tree.below distinct

  items-long : length (paths_of (rows tree)) ≡ length items
  items-long = as_many (rows tree) items numbered

  node_is : (e : ℕ) → e < length (paths_of (rows tree)) → node_at owns e ≡ node_by (path_at (rows tree) e) (keys_at (rows tree) (path_at (rows tree) e))
  node_is = node-at tree finer owns listed

  pub kind-is : (e : ℕ) → e < length (paths_of (rows tree)) → (node_at owns e).kind ≡ kind_at (path_at (rows tree) e)
  kind-is e inside = ap (λ (n : Node). n.kind) (node_is e inside) ∙ node-kind (path_at (rows tree) e) (keys_at (rows tree) (path_at (rows tree) e))

  keys-are : (e : ℕ) → e < length (paths_of (rows tree)) → (node_at owns e).keys ≡ keys_at (rows tree) (path_at (rows tree) e)
  keys-are e inside = ap (λ (n : Node). n.keys) (node_is e inside) ∙ node-keys (path_at (rows tree) e) (keys_at (rows tree) (path_at (rows tree) e))

  source-inside : (e s : ℕ) → source_at sources e ≡ Some s → (e < length (paths_of (rows tree))) × (s < length (paths_of (rows tree)))
  source-inside e s is = elim (cases_lt e (length items)) [
    | inr past ↦ absurd (differ (sym is ∙ get_or_past sources e None (omega (arith, past, sources_long (rows tree) items numbered sources told))))
    | inl inside ↦ (omega (arith, inside, items-long), omega (arith, source_inside (rows tree) items numbered sources told e s inside is, items-long))
  ]
    where
      differ : Some s ≡ None → ⊥
      differ e = absurd cc

  pub source-path : (e s : ℕ) → source_at sources e ≡ Some s → source_of (rows tree) (path_at (rows tree) e) ≡ Some (path_at (rows tree) s)
  source-path e s is = sym (told_at (rows tree) items numbered sources told e (omega (arith, (source-inside e s is).0, items-long))) ∙ ap (option_map (path_at (rows tree))) is

  pub source-kinds : (e s : ℕ) → source_at sources e ≡ Some s → kind_at (path_at (rows tree) s) ≡ kind_at (path_at (rows tree) e)
  source-kinds e s is = source-kind (rows tree) (path_at (rows tree) e) (path_at (rows tree) s) (source-path e s is)

  pub needs-sources : NeedsSources sources (needs elements)
  needs-sources e s is =
      ap (among s) (needs_are (rows tree) items numbered sources told elements graph e (omega (arith, (source-inside e s is).0, items-long)) ∙ ap (λ o. with_base o (children_among e 0 items)) is)
      ∙ among-head s (children_among e 0 items)

  -- each source is of the kind of what takes from it
  pub all-take : AllTake owns sources
  unfolding source_of
  all-take e s is =
      let inside = source-inside e s is in
      let one = get owns e (omega (arith, inside.0, as-many-owns tree finer owns listed)) in
      let other = get owns s (omega (arith, inside.1, as-many-owns tree finer owns listed)) in
      let node_of : node_at owns e ≡ own_node one.0 = node-of owns e one.0 one.1 in
      let kind_of : (own_node one.0).kind ≡ kind_at (path_at (rows tree) e) = ap (λ (n : Node). n.kind) (sym node_of) ∙ kind-is e inside.0 in
      ap₂ takes_of one.1 other.1
      ∙ same-takes one.0 other.0
      (source-states one.0 (source_names (rows tree) (path_at (rows tree) e)) (sought_from (rows tree) (path_at (rows tree) e))
      (ap (value_of stated_source) (sym (keys-are e inside.0) ∙ ap (λ (n : Node). n.keys) node_of))
      (λ kind. none-sought kind) (λ names. refl) (path_at (rows tree) s) (ap (λ k. sought_from (rows tree) (path_at (rows tree) e) k (source_names (rows tree) (path_at (rows tree) e))) kind_of ∙ source-path e s is))
      (kind_of ∙ sym (source-kinds e s is) ∙ sym (kind-is s inside.1) ∙ ap (λ (n : Node). n.kind) (node-of owns s other.0 other.1))
    where
      get : (os : List Own) (i : ℕ) → i < length os → (o : Own) × (slice_get os i ≡ Some o)
      get [] i h = absurd (omega (arith, h))
      get (o ∷ os) zero h = (o, refl)
      get (o ∷ os) (suc i) h = get os i (omega (arith, h))

      none-sought : (kind : Option Kind) → sought_from (rows tree) (path_at (rows tree) e) kind None ≡ None
      none-sought None = refl
      none-sought (Some kind) = refl

  -- ---- the graph

  module _ (table : List Settled) (order : List ℕ) (ordered : IsOrder (needs elements) (length (paths_of (rows tree))) order) (filled : IsFilled owns sources elements table order) where
    children-by : (e : ℕ) → e < length (paths_of (rows tree)) → children_told table e ≡ by_place (kind_at (path_at (rows tree) e)) (plain_told owns table e)
    unfolding children_told plain_told
    children-by e inside =
        at_one (slice_get table e) refl (omega (arith, inside, as-many-owns tree finer owns listed, table-long table owns filled.owns_are))
      where
        at_one : (o : Option Settled) → slice_get table e ≡ o → e < length table → children_by_number table o ≡ by_place (kind_at (path_at (rows tree) e)) (children_of owns (numbers_in o))
        at_one None is short = absurd (there table e short is)
        at_one (Some settled) is short =
            ap₂ (λ k os. by_place k (children_of os settled.children.items))
            (ap (λ (n : Node). n.kind) (sym (own-at table e settled is) ∙ ap (λ os. node_at os e) filled.owns_are) ∙ kind-is e inside)
            filled.owns_are

    pub table-graph : IsGraph (rows tree) sources (keys_told table) (children_told table)
    table-graph = record {
      keys_are = λ e inside. (filled.made e ((ordered.whole e).1 inside)).keys ∙ keys_one e inside (source_at sources e);
      children_are = λ e inside.
          children-by e inside
          ∙ ap (by_place (kind_at (path_at (rows tree) e))) (filled.made e ((ordered.whole e).1 inside)).children
          ∙ children_one e inside (source_at sources e) refl;
    }
      where
        keys_one : (e : ℕ) → e < length (paths_of (rows tree)) → (o : Option ℕ) → keys_made owns table e o ≡ keys_from (path_at (rows tree) e) (keys_at (rows tree) (path_at (rows tree) e)) (option_map (keys_told table) o)
        keys_one e inside None = keys-are e inside
        keys_one e inside (Some s) =
            ap₂ (λ m ks. taken m ks (keys_told table s))
            (ap (λ (n : Node). not (list_all is_word_byte n.name)) (node_is e inside) ∙ node-marked (path_at (rows tree) e) (keys_at (rows tree) (path_at (rows tree) e)))
            (keys-are e inside)

        parts_one : (e : ℕ) → e < length (paths_of (rows tree)) → by_place (kind_at (path_at (rows tree) e)) (children_of owns (parts_at elements e)) ≡ own_children (rows tree) e
        parts_one e inside =
            ap (λ ds. by_place (kind_at (path_at (rows tree) e)) (children_of owns ds)) (graph.parts e (omega (arith, inside, items-long, elements_long (rows tree) items numbered sources told elements graph)))
            ∙ parts-are tree distinct elements_are nested items numbered owns listed e inside

        children_one : (e : ℕ) → e < length (paths_of (rows tree)) → (o : Option ℕ) → source_at sources e ≡ o → by_place (kind_at (path_at (rows tree) e)) (children_made owns elements table e o) ≡ children_from (kind_at (path_at (rows tree) e)) (own_children (rows tree) e) (option_map (children_told table) o)
        children_one e inside None is = parts_one e inside
        children_one e inside (Some s) is =
            ap (λ k. by_place (kind_at (path_at (rows tree) e)) (plain_by k (plain_told owns table s) (children_of owns (parts_at elements e)))) (kind-is e inside)
            ∙ placed-by (kind_at (path_at (rows tree) e)) (plain_told owns table s) (children_of owns (parts_at elements e))
            ∙ ap₂ (children_by (kind_at (path_at (rows tree) e)))
            (ap (λ k. by_place k (plain_told owns table s)) (sym (source-kinds e s is)) ∙ sym (children-by s (source-inside e s is).1))
            (parts_one e inside)
