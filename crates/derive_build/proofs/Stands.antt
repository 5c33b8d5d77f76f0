-- The elements of a filled table can be built, as many levels down as derived paths may have steps, and come to the
-- derived device.
use Rattle.std.proofs.Common.{◌≡◌, ℕ, zero, suc, ◌+◌, ◌<◌, true, false, List, [], ◌∷◌, ◌++◌, map, length, get_or, Option, None, Some, option_map, slice_get, refl, sym, ap, ◌∙◌, subst, arith}
use Rattle.std.specs.List.{AllByRecursion, IsDistinct}
use Rattle.derive_build.specs.declared.own.Own.{Own}
use Rattle.derive_build.specs.declared.settled.Settled.{Settled}
use Rattle.derive_build.specs.Children.{no_node, node_at, children_of}
use Rattle.derive_build.specs.Filling.{IsFilled, keys_made}
use Rattle.derive_build.specs.Nodes.{Node, nodes_of, top_node, own_node}
use Rattle.derive_build.specs.Taking.{keys_by}
use Rattle.derive_build.specs.Tables.{owns_in, by_place, children_in, keys_in, children_by_number, keys_told, children_told, tree_at, with_trees, tree_of, is_kid, AtSettled, KidIs, KidsAre, CanStand, HasKids}
use Rattle.derive_build.proofs.Filled.{table-long}
use Rattle.derive_build.proofs.Graph.{kind-is, needs-sources, source-kinds, source-path, table-graph}
use Rattle.derive_build.proofs.Paths.{as-many-owns}
use Rattle.derive_build.proofs.Told.{tree-at, own-at}
use Rattle.derive_sources.specs.Graphs.{IsGraph as IsNeedGraph}
use Rattle.derive_sources.specs.Numbers.{Item, AreNumbered}
use Rattle.derived_graph.specs.Graphs.{Child, path_at, own_children, source_at, children_from, IsGraph, TellsSources}
use Rattle.derived_graph.specs.Nesting.{is_child, IsNested}
use Rattle.derived_graph.proofs.Along.{along}
use Rattle.derived_graph.proofs.Derived.{graph_is_derived}
use Rattle.derived_graph.proofs.Merging.{each-by}
use Rattle.derived_graph.proofs.Parts.{parts_rows}
use Rattle.derived_graph.proofs.SameKind.{no-source-top}
use Rattle.derived_graph.proofs.Standing.{Sits, ZeroAt, own-sit}
use Rattle.derived_graph.proofs.Unfolding.{IsShallow, none-shallow, shallow-parts, shallow-top, sibling-rows}
use Rattle.derived_rows.specs.Deriving.{Part, derived_at, derived_rows, element_rows}
use Rattle.derived_rows.specs.Faults.{IsFaultless}
use Rattle.derived_rows.specs.Merging.{renumbered}
use Rattle.derived_rows.specs.Sources.{source_of, kind_at}
use Rattle.derived_rows.proofs.Kept.{kind-last}
use Rattle.need_order.specs.declared.element.Element.{Element}
use Rattle.need_order.specs.Levels.{by_levels}
use Rattle.need_order.specs.Needs.{needs, IsOrder}
use Rattle.svd_model.specs.Facts.{IsFolded, IsPlaced, IsPlacedOrDerived}
use Rattle.svd_model.specs.Keys.{Key}
use Rattle.svd_model.specs.Stating.{paths_of}
use Rattle.svd_model.specs.Steps.{Step, Kind, peripheral, cluster, register, field, set, value, same_key, same_step}
use Rattle.svd_model.proofs.Steps.{same_step-finer}
use Rattle.svd_model.proofs.Walking.{paths-append, paths-own}
use Rattle.svd_rows.specs.Elements.{IsDistinct as AreDistinct}
use Rattle.svd_rows.specs.Forest.{Tree, siblings, steps}
use Rattle.svd_rows.specs.Rows.{own, rows, forest_rows}
use Rattle.svd_rows.proofs.Facts.{IsDistinct-finer}
use Rattle.svd_rows.proofs.Lists.{map-map}

-- ---- siblings that are told apart, at any level

first-apart : (xs : List (Step × Tree Step Key)) → AreDistinct same_key (siblings xs) → IsDistinct same_key (map (λ x. x.0) xs)
unfolding siblings AreDistinct IsDistinct steps
first-apart [] h = tt
first-apart (x ∷ xs) h = (steps-apart xs h.0, first-apart xs h.2)
  where
    steps-apart : (ys : List (Step × Tree Step Key)) → AllByRecursion (λ other. same_key x.0 other ≡ false) (steps (siblings ys)) → AllByRecursion (λ other. same_key x.0 other ≡ false) (map (λ y. y.0) ys)
    steps-apart [] p = tt
    steps-apart (y ∷ ys) p = (p.0, steps-apart ys p.1)

below-apart : (xs : List (Step × Tree Step Key)) → AreDistinct same_key (siblings xs) → AllByRecursion (λ x. AreDistinct same_key x.1.below) xs
unfolding siblings AreDistinct
below-apart [] h = tt
below-apart (x ∷ xs) h = (h.1, below-apart xs h.2)

-- ---- what holds of children, and of their numbers

all-numbered : (P : ℕ → Type 0) (n : ℕ) (children : List Child) → AllByRecursion (λ (child : Child). P child.1) (renumbered n children) → AllByRecursion (λ (child : Child). P child.1) children
unfolding renumbered
all-numbered P n [] h = tt
all-numbered P n (child ∷ children) h = (h.0, all-numbered P (n + 1) children h.1)

all-placed : (P : ℕ → Type 0) (kind : Option Kind) (children : List Child) → AllByRecursion (λ (child : Child). P child.1) (by_place kind children) → AllByRecursion (λ (child : Child). P child.1) children
all-placed P None children h = h
all-placed P (Some peripheral) children h = h
all-placed P (Some cluster) children h = h
all-placed P (Some register) children h = h
all-placed P (Some field) children h = all-numbered P 0 children h
all-placed P (Some set) children h = all-numbered P 0 children h
all-placed P (Some value) children h = h

all-numbers : (owns : List Own) (P : ℕ → Type 0) (numbers : List ℕ) → AllByRecursion (λ (child : Child). P child.1) (children_of owns numbers) → AllByRecursion P numbers
all-numbers owns P [] h = tt
all-numbers owns P (d ∷ numbers) h = (h.0, all-numbers owns P numbers h.1)

-- children of a set are values, whatever number they have
value-child : (kind : Kind) → is_child (Some set) kind ≡ true → (n : ℕ) → ZeroAt kind n
value-child value e n = tt
value-child _ e n = absurd cc

sits-stable : (all : List (List Step)) (kind : Option Kind) → kind ≡ Some set → (n : ℕ) (child : Child) → Sits all kind child → Sits all kind (record { kind = child.0.kind; name = child.0.name; number = n }, child.1)
sits-stable all kind is n child h = record {
  inside = h.inside;
  fitting = h.fitting;
  zero = value-child child.0.kind (ap (λ k. is_child k child.0.kind) (sym is) ∙ h.fitting) n;
  parent = h.parent;
  step = h.step;
  is = h.is;
  same_kind = h.same_kind;
  same_name = h.same_name;
}

paths_are : (tree : Tree Step Key) → paths_of (rows tree) ≡ [] ∷ paths_of (forest_rows tree.below)
unfolding rows
paths_are tree = paths-append (own tree.keys) (forest_rows tree.below) ∙ ap (λ r. r ++ paths_of (forest_rows tree.below)) (paths-own tree.keys)

-- one of these stands at a number
pub got : (table : List Settled) (e : ℕ) → e < length table → (settled : Settled) × (slice_get table e ≡ Some settled)
got [] e inside = absurd (omega (arith, inside))
got (x ∷ table) zero inside = (x, refl)
got (x ∷ table) (suc e) inside = got table e (omega (arith, inside))

module _ (tree : Tree Step Key) (folded : IsFolded IsPlacedOrDerived tree) (nested : IsNested None tree.below) (faultless : IsFaultless (rows tree))
    (items : List Item) (numbered : AreNumbered (rows tree) items) (owns : List Own) (listed : map own_node owns ≡ nodes_of tree)
    (sources : List (Option ℕ)) (told : TellsSources (rows tree) sources) (elements : List Element) (graph : IsNeedGraph items sources elements)
    (table : List Settled) (order : List ℕ) (ordered : IsOrder (needs elements) (length (paths_of (rows tree))) order) (filled : IsFilled owns sources elements table order) where
  finer : AreDistinct same_step tree.below
  finer = IsDistinct-finer same_key same_step same_step-finer tree.below folded.distinct

  is-graph : IsGraph (rows tree) sources (keys_told table) (children_told table)
  is-graph = table-graph tree folded.distinct folded.elements nested items numbered owns listed sources told elements graph table order ordered filled

  table-inside : (e : ℕ) → e < length (paths_of (rows tree)) → e < length table
  table-inside e inside = omega (arith, inside, as-many-owns tree finer owns listed, table-long table owns filled.owns_are)

  -- each child is an element of a kind that may stand there
  abbrev Seated : ℕ → Type 0
  Seated e = AllByRecursion (Sits (paths_of (rows tree)) (kind_at (path_at (rows tree) e))) (children_told table e)

  seated-step : (e : ℕ) → e < length (paths_of (rows tree)) → ((s : ℕ) → source_at sources e ≡ Some s → (s < length (paths_of (rows tree))) × Seated s) → Seated e
  seated-step e inside before =
      subst (AllByRecursion (Sits (paths_of (rows tree)) (kind_at (path_at (rows tree) e)))) (sym (is-graph.children_are e inside)) (at (source_at sources e) refl)
    where
      at : (o : Option ℕ) → source_at sources e ≡ o → AllByRecursion (Sits (paths_of (rows tree)) (kind_at (path_at (rows tree) e))) (children_from (kind_at (path_at (rows tree) e)) (own_children (rows tree) e) (option_map (children_told table) o))
      at None is = own-sit tree folded.distinct folded.elements nested e inside
      at (Some s) is =
          each-by (Sits (paths_of (rows tree)) (kind_at (path_at (rows tree) e))) (kind_at (path_at (rows tree) e)) (sits-stable (paths_of (rows tree)) (kind_at (path_at (rows tree) e))) (children_told table s) (own_children (rows tree) e)
          (subst (λ k. AllByRecursion (Sits (paths_of (rows tree)) k) (children_told table s)) (source-kinds tree folded.distinct folded.elements nested items numbered owns listed sources told elements graph e s is) (before s is).1)
          (own-sit tree folded.distinct folded.elements nested e inside)

  seated : (e : ℕ) → e < length (paths_of (rows tree)) → Seated e
  seated = along sources (needs elements) (length (paths_of (rows tree))) order (needs-sources tree folded.distinct folded.elements nested items numbered owns listed sources told elements graph) ordered Seated seated-step

  -- ---- levels

  abbrev Apart : ℕ → ℕ → Type 0
  Apart levels e = AreDistinct same_key (tree_at table levels e).below

  abbrev Shallow : ℕ → ℕ → Type 0
  Shallow levels e = IsShallow levels (rows (tree_at table levels e))

  rows-over : (levels : ℕ) (settled : Settled) → rows (tree_of table levels settled) ≡ element_rows (tree_of table levels settled).keys (map (λ (child : Child). (child.0, rows (tree_at table levels child.1))) (children_in table settled))
  unfolding rows element_rows tree_of
  rows-over levels settled =
      ap (λ r. own (tree_of table levels settled).keys ++ r)
      (sibling-rows (with_trees table levels (children_in table settled))
      ∙ ap parts_rows (map-map (λ (x : Step × Tree Step Key). (x.0, rows x.1)) (λ (child : Child). (child.0, tree_at table levels child.1)) (children_in table settled)))

  tree_of-is : (levels : ℕ) (settled : Settled) → (tree_of table levels settled).below ≡ siblings (with_trees table levels (children_in table settled))
  unfolding tree_of
  tree_of-is levels settled = refl

  told-is : (e : ℕ) (settled : Settled) → slice_get table e ≡ Some settled → children_told table e ≡ children_in table settled
  unfolding children_told
  told-is e settled is = ap (children_by_number table) is

  -- a child stands where it may
  kid : (kind : Option Kind) (child : Child) → Sits (paths_of (rows tree)) kind child → is_kid kind (node_at (owns_in table) child.1).kind ≡ true
  kid kind child h =
      ap (is_kid kind)
      (ap (λ os. (node_at os child.1).kind) filled.owns_are
      ∙ kind-is tree folded.distinct folded.elements nested items numbered owns listed sources told elements graph child.1 h.inside
      ∙ ap kind_at h.is ∙ kind-last h.parent h.step ∙ ap Some h.same_kind)
      ∙ h.fitting

  rows-none : (e : ℕ) → rows (tree_at table 0 e) ≡ element_rows [] []
  unfolding rows element_rows tree_at by_levels forest_rows
  rows-none e = refl

  stands : (levels e : ℕ) → e < length (paths_of (rows tree)) → Apart levels e → Shallow levels e → CanStand table levels e
  unfolding CanStand
  stands zero e inside apart shallow = absurd (none-shallow [] [] (subst (IsShallow 0) (rows-none e) shallow))
  stands (suc levels) e inside apart shallow =
      let one = got table e (table-inside e inside) in
      let is = tree-at table levels e one.0 one.1 in
      let kind_is : (own_node one.0.own).kind ≡ kind_at (path_at (rows tree) e) =
      ap (λ (n : Node). n.kind) (sym (own-at table e one.0 one.1) ∙ ap (λ os. node_at os e) filled.owns_are) ∙ kind-is tree folded.distinct folded.elements nested items numbered owns listed sources told elements graph e inside in
      let apart_here : AreDistinct same_key (siblings (with_trees table levels (children_in table one.0))) = subst (AreDistinct same_key) (ap (λ (t : Tree Step Key). t.below) is ∙ tree_of-is levels one.0) apart in
      let sit : AllByRecursion (Sits (paths_of (rows tree)) (kind_at (path_at (rows tree) e))) (children_in table one.0) = subst (AllByRecursion (Sits (paths_of (rows tree)) (kind_at (path_at (rows tree) e)))) (told-is e one.0 one.1) (seated e inside) in
      subst (AtSettled (KidsAre (CanStand table levels) table)) (sym one.1) (record {
        apart = subst (IsDistinct same_key) (map-map (λ (x : Step × Tree Step Key). x.0) (λ (child : Child). (child.0, tree_at table levels child.1)) (children_in table one.0)) (first-apart (with_trees table levels (children_in table one.0)) apart_here);
        each =
            all-numbers (owns_in table) (KidIs (CanStand table levels) table (own_node one.0.own).kind) one.0.children.items
            (all-placed (KidIs (CanStand table levels) table (own_node one.0.own).kind) (own_node one.0.own).kind (children_of (owns_in table) one.0.children.items)
            (subst (λ k. AllByRecursion (λ (child : Child). KidIs (CanStand table levels) table k child.1) (children_in table one.0)) (sym kind_is)
            (all_kids (stands levels) (children_in table one.0) sit (below-apart (with_trees table levels (children_in table one.0)) apart_here)
            (shallow-parts levels (tree_of table levels one.0).keys (map (λ (child : Child). (child.0, rows (tree_at table levels child.1))) (children_in table one.0)) (subst (IsShallow (suc levels)) (ap rows is ∙ rows-over levels one.0) shallow)))));
      })
    where
      all_kids : ((d : ℕ) → d < length (paths_of (rows tree)) → Apart levels d → Shallow levels d → CanStand table levels d)
          → (cs : List Child) → AllByRecursion (Sits (paths_of (rows tree)) (kind_at (path_at (rows tree) e))) cs → AllByRecursion (λ (x : Step × Tree Step Key). AreDistinct same_key x.1.below) (with_trees table levels cs)
          → AllByRecursion (λ (part : Part). IsShallow levels part.1) (map (λ (child : Child). (child.0, rows (tree_at table levels child.1))) cs)
          → AllByRecursion (λ (child : Child). KidIs (CanStand table levels) table (kind_at (path_at (rows tree) e)) child.1) cs
      all_kids again [] s a h = tt
      all_kids again (c ∷ cs) s a h = ((kid (kind_at (path_at (rows tree) e)) c s.0, again c.1 s.0.inside a.0 h.0), all_kids again cs s.1 a.1 h.1)

  -- ---- the device

  top : path_at (rows tree) 0 ≡ []
  top = ap (λ paths. get_or paths 0 []) (paths_are tree)

  some : 0 < length (paths_of (rows tree))
  some = omega (arith, ap (λ (paths : List (List Step)). length paths) (paths_are tree))

  derived : (rows (tree_at table 65 0) ≡ derived_rows (rows tree)) × IsFolded IsPlaced (tree_at table 65 0)
  unfolding tree_at
  derived =
      graph_is_derived tree sources (needs elements) order (keys_told table) (children_told table) folded nested faultless told
      (needs-sources tree folded.distinct folded.elements nested items numbered owns listed sources told elements graph) ordered is-graph 65 (omega arith)

  shallow-derived : IsShallow 65 (derived_rows (rows tree))
  unfolding derived_rows
  shallow-derived = subst (λ (path : List Step). IsShallow 65 (derived_at (rows tree) (length (paths_of (rows tree))) path)) top (shallow-top (rows tree) top faultless.shallow 65 (omega arith))

  first-stands : CanStand table 65 0
  first-stands = stands 65 0 some derived.1.distinct (subst (IsShallow 65) (sym derived.0) shallow-derived)

  -- the first element is the device: it has no source
  pub first-is : (settled : Settled) → slice_get table 0 ≡ Some settled → ((own_node settled.own).kind ≡ None) × (keys_by settled.own settled.keys ≡ tree.keys)
  unfolding nodes_of keys_told
  first-is settled is =
      let first : node_at owns 0 ≡ top_node tree.keys = ap (λ ns. get_or ns 0 no_node) listed in (
        ap (λ (n : Node). n.kind) (sym (own-at table 0 settled is) ∙ ap (λ os. node_at os 0) filled.owns_are ∙ first),
        sym (ap keys_in is) ∙ (filled.made 0 ((ordered.whole 0).1 some)).keys ∙ at (source_at sources 0) refl ∙ ap (λ (n : Node). n.keys) first,
      )
    where
      at : (o : Option ℕ) → source_at sources 0 ≡ o → keys_made owns table 0 o ≡ (node_at owns 0).keys
      at None none = refl
      at (Some s) found = absurd (differ (sym (source-path tree folded.distinct folded.elements nested items numbered owns listed sources told elements graph 0 s found) ∙ ap (source_of (rows tree)) top ∙ no-source-top (rows tree)))
        where
          differ : Some (path_at (rows tree) s) ≡ None → ⊥
          differ e = absurd cc

  -- a device that is made of it is the derived one
  pub made-is : (settled : Settled) (made : Tree Step Key) → slice_get table 0 ≡ Some settled → (HasKids table 64 settled → made ≡ tree_of table 64 settled) → (rows made ≡ derived_rows (rows tree)) × IsFolded IsPlaced made
  unfolding CanStand
  made-is settled made is each =
      let same : made ≡ tree_at table 65 0 = each (subst (AtSettled (KidsAre (CanStand table 64) table)) is first-stands) ∙ sym (tree-at table 64 0 settled is) in
      (ap rows same ∙ derived.0, subst (IsFolded IsPlaced) (sym same) derived.1)

  -- there is a first element
  pub first-there : slice_get table 0 ≡ None → ⊥
  first-there none = let one = got table 0 (table-inside 0 some) in differ one.0 (sym none ∙ one.1)
    where
      differ : (settled : Settled) → None ≡ Some settled → ⊥
      differ settled e = absurd cc
