-- The facts of a derived device hold of the graph, along an order, and so of its unfolding.
use Rattle.std.proofs.Common.{◌≡◌, ◌⊎◌, inl, inr, ℕ, zero, suc, ◌+◌, ◌<◌, ◌≤◌, ◌^◌, Bool, true, false, ◌&&◌, ◌||◌, cond, nat_eq, List, [], ◌∷◌, ◌++◌, map, filter, length, get_or, Option, None, Some, option_map, is_some, refl, sym, ap, ◌∙◌, subst, arith}
use Rattle.std.specs.List.{AllByRecursion, IsDistinct, find, list_any}
use Rattle.std.specs.Option.{is_none}
use Rattle.std.specs.Str.{bytes_eq}
use Rattle.std.proofs.lemmas.List.{get_or-map, length-map}
use Rattle.std.proofs.lemmas.Bool.{or_cases, and_right, true≢false, ne_eqb}
use Rattle.derived_graph.specs.Facts.{GraphIsDerived}
use Rattle.derived_graph.specs.Graphs.{Rows, Child, path_at, own_children, source_at, keys_from, children_from, IsGraph, TellsSources, NeedsSources, unfolded}
use Rattle.derived_graph.specs.Nesting.{is_child, ArePlaced, IsNested}
use Rattle.derived_graph.specs.Laws.{AreApart}
use Rattle.derived_graph.proofs.Along.{along, member-at, rows_of, all-grow}
use Rattle.derived_graph.proofs.Unfolding.{IsShallow, shallow-parts, none-shallow, shallow-top, graph_unfolds}
use Rattle.derived_graph.proofs.Apart.{same_name, merged_apart}
use Rattle.derived_graph.proofs.Merging.{each-by}
use Rattle.derived_graph.proofs.SameKind.{source-kind}
use Rattle.derived_graph.proofs.Standing.{ZeroAt, AreChildren, StandsBelow, Sits, names-apart, told-at, own-keys, own-children, own-sit}
use Rattle.derived_graph.proofs.Taken.{has_offset, or-right, last-same, no_push, each-taken, taken-source}
use Rattle.derived_rows.specs.Dependence.{same_path, IsAmong, HasNoCircle, deriving_paths}
use Rattle.derived_rows.specs.Deriving.{Part, derived_rows, element_rows}
use Rattle.derived_rows.specs.Faults.{first_missing, first_deep}
use Rattle.derived_rows.specs.Merging.{is_marked_at, taken, merged, renumbered, children_by}
use Rattle.derived_rows.specs.Sources.{stated_source, source_of, kind_at}
use Rattle.derived_rows.proofs.Circles.{deriving-member}
use Rattle.derived_rows.proofs.Kept.{kind-last}
use Rattle.derived_rows.proofs.Paths.{same_path-tells, member-cases}
use Rattle.need_order.specs.Levels.{by_levels}
use Rattle.need_order.specs.Needs.{IsOrder}
use Rattle.pac_base.specs.declared.path.Step.{Step as Written}
use Rattle.svd_model.specs.Facts.{IsElement, IsPlaced, IsPlacedOrDerived, IsBounded, IsIndexed, IsValueName, is_offset, is_derived, is_counted, element_limit, elements_of}
use Rattle.svd_model.specs.Keys.{Key, derived_from}
use Rattle.svd_model.specs.Properties.{nearest}
use Rattle.svd_model.specs.Stating.{keys_at, paths_of, value_of}
use Rattle.svd_model.specs.Steps.{Step, Kind, peripheral, cluster, register, field, set, value, same_key, same_step}
use Rattle.svd_model.proofs.Steps.{same_step-finer}
use Rattle.svd_model.proofs.Walking.{paths-append, paths-own}
use Rattle.svd_rows.specs.Elements.{Every}
use Rattle.svd_rows.specs.Elements.{IsDistinct as AreDistinct}
use Rattle.svd_rows.specs.Forest.{Tree}
use Rattle.svd_rows.specs.LookUps.{is_element_of}
use Rattle.svd_rows.specs.Rows.{own, rows, forest_rows}
use Rattle.svd_rows.proofs.Counting.{count-rows}
use Rattle.svd_rows.proofs.Lists.{map-map}
use Rattle.svd_rows.proofs.Siblings.{Every-siblings, IsDistinct-siblings}

abbrev steps_of : List Child → List Step
steps_of children = map (λ (child : Child). child.0) children

-- ---- siblings that are told apart

-- those of a field or a set by their places, and any others by their names
abbrev AreDifferent : Option Kind → List Step → Type 0
AreDifferent (Some field) steps = ArePlaced 0 steps
AreDifferent (Some set) steps = ArePlaced 0 steps
AreDifferent kind steps = IsDistinct same_name steps

later-places : (s : Step) (n : ℕ) (steps : List Step) → s.number < n → ArePlaced n steps → AllByRecursion (λ t. same_key s t ≡ false) steps
unfolding ArePlaced same_key
later-places s n [] h p = tt
later-places s n (t ∷ steps) h p = (
  and_right (bytes_eq s.name t.name) (nat_eq s.number t.number) (ne_eqb s.number t.number (λ e. absurd (omega (arith, e, p.0, h)))),
  later-places s (n + 1) steps (omega (arith, h)) p.1,
)

places-apart : (n : ℕ) (steps : List Step) → ArePlaced n steps → IsDistinct same_key steps
unfolding ArePlaced IsDistinct
places-apart n [] p = tt
places-apart n (s ∷ steps) p = (later-places s (n + 1) steps (omega (arith, p.0)) p.1, places-apart (n + 1) steps p.1)

all-weaker : (P Q : Step → Type 0) → ((s : Step) → P s → Q s) → (steps : List Step) → AllByRecursion P steps → AllByRecursion Q steps
all-weaker P Q f [] h = tt
all-weaker P Q f (s ∷ steps) h = (f s h.0, all-weaker P Q f steps h.1)

weaker : (same finer : Step → Step → Bool) → ((s t : Step) → same s t ≡ false → finer s t ≡ false) → (steps : List Step) → IsDistinct same steps → IsDistinct finer steps
unfolding IsDistinct
weaker same finer f [] h = tt
weaker same finer f (s ∷ steps) h = (all-weaker (λ t. same s t ≡ false) (λ t. finer s t ≡ false) (f s) steps h.0, weaker same finer f steps h.1)

key-finer : (s t : Step) → same_name s t ≡ false → same_key s t ≡ false
unfolding same_key
key-finer s t e = ap (λ b. b && nat_eq s.number t.number) e

different-apart : (kind : Option Kind) (steps : List Step) → AreDifferent kind steps → IsDistinct same_key steps
different-apart None steps h = weaker same_name same_key key-finer steps h
different-apart (Some peripheral) steps h = weaker same_name same_key key-finer steps h
different-apart (Some cluster) steps h = weaker same_name same_key key-finer steps h
different-apart (Some register) steps h = weaker same_name same_key key-finer steps h
different-apart (Some field) steps h = places-apart 0 steps h
different-apart (Some set) steps h = places-apart 0 steps h
different-apart (Some value) steps h = weaker same_name same_key key-finer steps h

own-different : (kind : Option Kind) (steps : List Step) → AreChildren kind steps → AreDifferent kind steps
own-different None steps h = names-apart None (λ e. absurd cc) (λ e. absurd cc) steps h.apart h.kinds h.zero
own-different (Some peripheral) steps h = names-apart (Some peripheral) (λ e. absurd cc) (λ e. absurd cc) steps h.apart h.kinds h.zero
own-different (Some cluster) steps h = names-apart (Some cluster) (λ e. absurd cc) (λ e. absurd cc) steps h.apart h.kinds h.zero
own-different (Some register) steps h = names-apart (Some register) (λ e. absurd cc) (λ e. absurd cc) steps h.apart h.kinds h.zero
own-different (Some field) steps h = h.placed
own-different (Some set) steps h = h.placed
own-different (Some value) steps h = names-apart (Some value) (λ e. absurd cc) (λ e. absurd cc) steps h.apart h.kinds h.zero

renumbered-places : (n : ℕ) (children : List Child) → ArePlaced n (steps_of (renumbered n children))
unfolding ArePlaced renumbered
renumbered-places n [] = tt
renumbered-places n (child ∷ children) = (refl, renumbered-places (n + 1) children)

by-different : (kind : Option Kind) (source own : List Child) → AreDifferent kind (steps_of source) → AreDifferent kind (steps_of own) → AreDifferent kind (steps_of (children_by kind source own))
by-different None source own h k = merged_apart source own h k
by-different (Some peripheral) source own h k = merged_apart source own h k
by-different (Some cluster) source own h k = merged_apart source own h k
by-different (Some register) source own h k = merged_apart source own h k
by-different (Some field) source [] h k = h
by-different (Some field) source (first ∷ own) h k = k
by-different (Some set) source own h k = renumbered-places 0 (merged source own)
by-different (Some value) source own h k = merged_apart source own h k

-- ---- children of a set are values, whatever number they have

value-child : (kind : Kind) → is_child (Some set) kind ≡ true → (n : ℕ) → ZeroAt kind n
value-child value e n = tt
value-child _ e n = absurd cc

sits-stable : (all : List (List Step)) (kind : Option Kind) → kind ≡ Some set → (n : ℕ) (child : Child) → Sits all kind child → Sits all kind (record { kind = child.0.kind; name = child.0.name; number = n }, child.1)
sits-stable all kind is n child h = record {
  inside = h.inside;
  fitting = h.fitting;
  zero = value-child child.0.kind (ap (λ k. is_child k child.0.kind) (sym is) ∙ h.fitting) n;
  parent = h.parent;
  step = h.step;
  is = h.is;
  same_kind = h.same_kind;
  same_name = h.same_name;
}

-- ---- sources that are stated

source_or_none : (key : Key) → ((path : List Written) × (stated_source key ≡ Some path)) ⊎ ((is_derived key ≡ false) × (stated_source key ≡ None))
source_or_none (derived_from path) = inl (path, refl)
source_or_none _ = inr (refl, refl)

derived-stated : (keys : List Key) → list_any is_derived keys ≡ true → is_some (value_of stated_source keys) ≡ true
unfolding value_of
derived-stated [] e = absurd (true≢false (sym e))
derived-stated (key ∷ keys) e = elim (source_or_none key) [
  | inl p ↦ ap (λ o. is_some (nearest (o ∷ map stated_source keys))) p.1
  | inr q ↦ ap (λ o. is_some (nearest (o ∷ map stated_source keys))) q.1 ∙ derived-stated keys (sym (ap (λ b. b || list_any is_derived keys) q.0) ∙ e)
]

find-none : (test : List Step → Bool) (paths : List (List Step)) (path : List Step) → find test paths ≡ None → IsAmong paths path → test path ≡ false
find-none test [] path e h = absurd (true≢false (sym h))
find-none test (x ∷ paths) path e h = at (find-none test paths path) (test x) refl e
  where
    at : (find test paths ≡ None → IsAmong paths path → test path ≡ false) → (b : Bool) → test x ≡ b → cond b (Some x) (find test paths) ≡ None → test path ≡ false
    at again true p q = absurd cc
    at again false p q = elim (member-cases same_path same_path-tells x paths path h) [
      | inl same ↦ ap test same ∙ p
      | inr there ↦ again q there
    ]

offset-or-derived : (keys : List Key) → list_any (λ key. is_offset key || is_derived key) keys ≡ true → (has_offset keys ≡ true) ⊎ (list_any is_derived keys ≡ true)
offset-or-derived [] e = absurd (true≢false (sym e))
offset-or-derived (key ∷ keys) e = elim (or_cases (is_offset key || is_derived key) (list_any (λ k. is_offset k || is_derived k) keys) e) [
  | inl p ↦ elim (or_cases (is_offset key) (is_derived key) p) [
    | inl q ↦ inl (ap (λ b. b || has_offset keys) q)
    | inr q ↦ inr (ap (λ b. b || list_any is_derived keys) q)
  ]
  | inr p ↦ elim (offset-or-derived keys p) [
    | inl q ↦ inl (or-right (is_offset key) (has_offset keys) q)
    | inr q ↦ inr (or-right (is_derived key) (list_any is_derived keys) q)
  ]
]

form-field : (kind : Kind) (name : List ℕ) (number : ℕ) (keys : List Key) → kind ≡ field → IsElement IsPlacedOrDerived (record { kind = kind; name = name; number = number }) keys → IsPlacedOrDerived keys
form-field field name number keys e h = h.form.1
form-field _ name number keys e h = absurd cc

form-value : (kind : Kind) (name : List ℕ) (number : ℕ) (keys : List Key) → kind ≡ value → IsElement IsPlacedOrDerived (record { kind = kind; name = name; number = number }) keys → IsValueName name
form-value value name number keys e h = h.form
form-value _ name number keys e h = absurd cc

module _ (tree : Tree Step Key) (found : List (Option ℕ)) (needs : ℕ → List ℕ) (order : List ℕ) (keys : ℕ → List Key) (children : ℕ → List Child)
    (distinct : AreDistinct same_key tree.below) (elements : Every (IsElement IsPlacedOrDerived) tree.below) (nested : IsNested None tree.below)
    (there : first_missing (rows tree) ≡ None) (told : TellsSources (rows tree) found) (needed : NeedsSources found needs) (ordered : IsOrder needs (length (paths_of (rows tree))) order)
    (graph : IsGraph (rows tree) found keys children) where
  abbrev n : ℕ
  n = length (paths_of (rows tree))

  abbrev at : ℕ → List Step
  at e = path_at (rows tree) e

  -- what holds of each element in the graph
  record Fits (e : ℕ) : Type 0 where
    different : AreDifferent (kind_at (at e)) (steps_of (children e))
    sit : AllByRecursion (Sits (paths_of (rows tree)) (kind_at (at e))) (children e)
    bounded : (at e ≡ [] → ⊥) → AllByRecursion (IsBounded (2 ^ 64)) (keys e)
    indexed : (at e ≡ [] → ⊥) → AllByRecursion IsIndexed (keys e)
    offset : kind_at (at e) ≡ Some field → has_offset (keys e) ≡ true

  source_is : (e : ℕ) → e < n → source_of (rows tree) (at e) ≡ option_map (path_at (rows tree)) (source_at found e)
  source_is e inside =
      sym (get_or-map (source_of (rows tree)) (paths_of (rows tree)) e [] None inside)
      ∙ sym (ap (λ l. get_or l e None) told)
      ∙ get_or-map (option_map (path_at (rows tree))) found e None None (omega (arith, inside, as_many))
    where
      as_many : length found ≡ length (paths_of (rows tree))
      as_many = sym (length-map found (option_map (path_at (rows tree)))) ∙ ap (λ l. length l) told ∙ length-map (paths_of (rows tree)) (source_of (rows tree))

  same-kind : (e s : ℕ) → e < n → source_at found e ≡ Some s → kind_at (at s) ≡ kind_at (at e)
  same-kind e s inside is = source-kind (rows tree) (at e) (at s) (source_is e inside ∙ ap (option_map (path_at (rows tree))) is)

  -- a field without an offset states a source, which is there
  no-source : (e : ℕ) → e < n → source_at found e ≡ None → list_any is_derived (keys_at (rows tree) (at e)) ≡ true → ⊥
  unfolding first_missing
  no-source e inside none derived =
      true≢false
      (sym (ap is_none (source_is e inside ∙ ap (option_map (path_at (rows tree))) none))
      ∙ find-none (λ path. is_none (source_of (rows tree) path)) (deriving_paths (rows tree)) (at e) there (deriving-member (rows tree) (at e) (member-at (paths_of (rows tree)) e inside) (derived-stated (keys_at (rows tree) (at e)) derived)))

  -- the own keys of an element below the device
  own-element : (e : ℕ) → e < n → (at e ≡ [] → ⊥) → StandsBelow (at e) (keys_at (rows tree) (at e))
  own-element e inside below =
      let h = told-at tree distinct elements nested e inside in
      elim h.stands [
        | inl top ↦ absurd (below top)
        | inr p ↦ subst (StandsBelow (at e)) (sym (own-keys tree distinct elements nested e inside)) p
      ]

  own-offset : (e : ℕ) → e < n → kind_at (at e) ≡ Some field → IsPlacedOrDerived (keys_at (rows tree) (at e))
  unfolding kind_at
  own-offset e inside is =
      let h = own-element e inside (λ top. absurd (none_some (ap kind_at (sym top) ∙ is))) in
      form-field h.step.kind h.step.name h.step.number (keys_at (rows tree) (at e)) (some_same (sym (kind-last h.parent h.step) ∙ ap kind_at (sym h.is) ∙ is)) h.element
    where
      none_some : {k : Kind} → None ≡ Some k → ⊥
      none_some e = absurd cc

      some_same : {k l : Kind} → Some k ≡ Some l → k ≡ l
      some_same e = cc

  below-source : (e s : ℕ) → e < n → source_at found e ≡ Some s → (at e ≡ [] → ⊥) → at s ≡ [] → ⊥
  unfolding kind_at
  below-source e s inside is below top =
      let h = own-element e inside below in
      none_some (ap kind_at (sym top) ∙ same-kind e s inside is ∙ ap kind_at h.is ∙ kind-last h.parent h.step)
    where
      none_some : {k : Kind} → None ≡ Some k → ⊥
      none_some e = absurd cc

  fits-step : (e : ℕ) → e < n → ((s : ℕ) → source_at found e ≡ Some s → (s < n) × Fits s) → Fits e
  fits-step e inside before = by (source_at found e) refl
    where
      path : List Step
      path = path_at (rows tree) e

      own : AreChildren (kind_at (path_at (rows tree) e)) (steps_of (own_children (rows tree) e))
      own = own-children tree distinct elements nested e inside

      by : (o : Option ℕ) → source_at found e ≡ o → Fits e
      by None is =
          let keys_are : keys e ≡ keys_at (rows tree) (path_at (rows tree) e) = graph.keys_are e inside ∙ ap (λ o. keys_from (path_at (rows tree) e) (keys_at (rows tree) (path_at (rows tree) e)) (option_map keys o)) is in
          let children_are : children e ≡ own_children (rows tree) e = graph.children_are e inside ∙ ap (λ o. children_from (kind_at (path_at (rows tree) e)) (own_children (rows tree) e) (option_map children o)) is in
          record {
            different = subst (λ cs. AreDifferent (kind_at (path_at (rows tree) e)) (steps_of cs)) (sym children_are) (own-different (kind_at (path_at (rows tree) e)) (steps_of (own_children (rows tree) e)) own);
            sit = subst (AllByRecursion (Sits (paths_of (rows tree)) (kind_at (path_at (rows tree) e)))) (sym children_are) (own-sit tree distinct elements nested e inside);
            bounded = λ below. subst (AllByRecursion (IsBounded (2 ^ 64))) (sym keys_are) (own-element e inside below).element.bounded;
            indexed = λ below. subst (AllByRecursion IsIndexed) (sym keys_are) (own-element e inside below).element.indexed;
            offset = λ kind. ap has_offset keys_are ∙ elim (offset-or-derived (keys_at (rows tree) (path_at (rows tree) e)) (own-offset e inside kind)) [ inl p ↦ p | inr q ↦ absurd (no-source e inside is q) ];
          }
      by (Some s) is =
          let source = before s is in
          let keys_are : keys e ≡ taken (is_marked_at (path_at (rows tree) e)) (keys_at (rows tree) (path_at (rows tree) e)) (keys s) = graph.keys_are e inside ∙ ap (λ o. keys_from (path_at (rows tree) e) (keys_at (rows tree) (path_at (rows tree) e)) (option_map keys o)) is in
          let children_are : children e ≡ children_by (kind_at (path_at (rows tree) e)) (children s) (own_children (rows tree) e) = graph.children_are e inside ∙ ap (λ o. children_from (kind_at (path_at (rows tree) e)) (own_children (rows tree) e) (option_map children o)) is in
          let kinds = same-kind e s inside is in
          record {
            different = subst (λ cs. AreDifferent (kind_at (path_at (rows tree) e)) (steps_of cs)) (sym children_are) (by-different (kind_at (path_at (rows tree) e)) (children s) (own_children (rows tree) e) (subst (λ k. AreDifferent k (steps_of (children s))) kinds source.1.different) (own-different (kind_at (path_at (rows tree) e)) (steps_of (own_children (rows tree) e)) own));
            sit = subst (AllByRecursion (Sits (paths_of (rows tree)) (kind_at (path_at (rows tree) e)))) (sym children_are) (each-by (Sits (paths_of (rows tree)) (kind_at (path_at (rows tree) e))) (kind_at (path_at (rows tree) e)) (sits-stable (paths_of (rows tree)) (kind_at (path_at (rows tree) e))) (children s) (own_children (rows tree) e) (subst (λ k. AllByRecursion (Sits (paths_of (rows tree)) k) (children s)) kinds source.1.sit) (own-sit tree distinct elements nested e inside));
            bounded = λ below. subst (AllByRecursion (IsBounded (2 ^ 64))) (sym keys_are) (each-taken (IsBounded (2 ^ 64)) (is_marked_at (path_at (rows tree) e)) (keys_at (rows tree) (path_at (rows tree) e)) (keys s) (own-element e inside below).element.bounded (source.1.bounded (below-source e s inside is below)));
            indexed = λ below. subst (AllByRecursion IsIndexed) (sym keys_are) (each-taken IsIndexed (is_marked_at (path_at (rows tree) e)) (keys_at (rows tree) (path_at (rows tree) e)) (keys s) (own-element e inside below).element.indexed (source.1.indexed (below-source e s inside is below)));
            offset = λ kind. ap has_offset keys_are ∙ taken-source (is_marked_at (path_at (rows tree) e)) (keys_at (rows tree) (path_at (rows tree) e)) (keys s) (source.1.offset (kinds ∙ kind));
          }

  fits : (e : ℕ) → e < n → Fits e
  fits = along found needs n order needed ordered Fits fits-step

  -- ---- the unfolding

  form-of : (kind : Kind) (name : List ℕ) (number : ℕ) (ks : List Key) → ZeroAt kind number → (kind ≡ field → has_offset ks ≡ true) → (kind ≡ value → IsValueName name) → AllByRecursion (IsBounded (2 ^ 64)) ks → AllByRecursion IsIndexed ks → IsElement IsPlaced (record { kind = kind; name = name; number = number }) ks
  form-of peripheral name number ks z o v b i = record { form = z; bounded = b; indexed = i }
  form-of cluster name number ks z o v b i = record { form = z; bounded = b; indexed = i }
  form-of register name number ks z o v b i = record { form = z; bounded = b; indexed = i }
  form-of field name number ks z o v b i = record { form = (z, o refl); bounded = b; indexed = i }
  form-of set name number ks z o v b i = record { form = tt; bounded = b; indexed = i }
  form-of value name number ks z o v b i = record { form = v refl; bounded = b; indexed = i }

  child-element : (kind : Option Kind) (child : Child) → Sits (paths_of (rows tree)) kind child → IsElement IsPlaced child.0 (keys child.1)
  child-element kind child h =
      let below : at child.1 ≡ [] → ⊥ = λ top. no_push h.parent h.step (sym h.is ∙ top) in
      let fit = fits child.1 h.inside in
      let own = own-element child.1 h.inside below in
      form-of child.0.kind child.0.name child.0.number (keys child.1) h.zero
      (λ kind_is. fit.offset (ap kind_at h.is ∙ kind-last h.parent h.step ∙ ap Some (h.same_kind ∙ kind_is)))
      (λ kind_is. subst IsValueName (ap (λ (s : Step). s.name) (last-same own.parent h.parent own.step h.step (sym own.is ∙ h.is)) ∙ h.same_name)
      (form-value own.step.kind own.step.name own.step.number (keys_at (rows tree) (at child.1)) (ap (λ (s : Step). s.kind) (last-same own.parent h.parent own.step h.step (sym own.is ∙ h.is)) ∙ h.same_kind ∙ kind_is) own.element))
      (fit.bounded below) (fit.indexed below)

  are_apart : AreApart (length (paths_of (rows tree))) children
  are_apart = λ e inside. weaker same_key same_step same_step-finer (steps_of (children e)) (different-apart (kind_at (at e)) (steps_of (children e)) (fits e inside).different)

  module _ (no_circle : HasNoCircle (rows tree)) (top : path_at (rows tree) 0 ≡ []) (some : 0 < length (paths_of (rows tree))) where
    abbrev of : ℕ → Rows
    of e = rows_of (rows tree) no_circle found told top some e

    abbrev told_child : Child → Part
    told_child child = (child.0, of child.1)

    grows : (e : ℕ) → e < n → of e ≡ element_rows (keys e) (map told_child (children e))
    grows = all-grow (rows tree) no_circle found told top some keys children graph are_apart needs order needed ordered

    unfolded-keys : (levels e : ℕ) → e < n → IsShallow levels (of e) → (unfolded keys children levels e).keys ≡ keys e
    unfolding by_levels
    unfolded-keys zero e inside shallow = absurd (none-shallow (keys e) (map told_child (children e)) (subst (IsShallow 0) (grows e inside) shallow))
    unfolded-keys (suc levels) e inside shallow = refl

    below-facts : (levels : ℕ) (e : ℕ) → e < n → IsShallow levels (of e) → AreDistinct same_key (unfolded keys children levels e).below × Every (IsElement IsPlaced) (unfolded keys children levels e).below
    unfolding by_levels
    below-facts zero e inside shallow = absurd (none-shallow (keys e) (map told_child (children e)) (subst (IsShallow 0) (grows e inside) shallow))
    below-facts (suc levels) e inside shallow =
        let fit = fits e inside in
        let each = all (below-facts levels) (children e) fit.sit (shallow-parts levels (keys e) (map told_child (children e)) (subst (IsShallow (suc levels)) (grows e inside) shallow)) in (
          IsDistinct-siblings same_key (map seen (children e)) (subst (IsDistinct same_key) (sym (map-map (λ (x : Step × Tree Step Key). x.0) seen (children e))) (different-apart (kind_at (at e)) (steps_of (children e)) fit.different)) each.0,
          Every-siblings (IsElement IsPlaced) (map seen (children e)) each.1,
        )
      where
        seen : Child → (Step × Tree Step Key)
        seen child = (child.0, unfolded keys children levels child.1)

        all : ((d : ℕ) → d < n → IsShallow levels (of d) → AreDistinct same_key (unfolded keys children levels d).below × Every (IsElement IsPlaced) (unfolded keys children levels d).below)
            → (cs : List Child) → AllByRecursion (Sits (paths_of (rows tree)) (kind_at (path_at (rows tree) e))) cs → AllByRecursion (λ (part : Part). IsShallow levels part.1) (map told_child cs)
            → AllByRecursion (λ (x : Step × Tree Step Key). AreDistinct same_key x.1.below) (map seen cs) × AllByRecursion (λ (x : Step × Tree Step Key). IsElement IsPlaced x.0 x.1.keys × Every (IsElement IsPlaced) x.1.below) (map seen cs)
        all again [] h k = (tt, tt)
        all again (c ∷ cs) h k =
            let one = again c.1 h.0.inside k.0 in
            let rest = all again cs h.1 k.1 in
            let element = subst (IsElement IsPlaced c.0) (sym (unfolded-keys levels c.1 h.0.inside k.0)) (child-element (kind_at (path_at (rows tree) e)) c h.0) in
            ((one.0, rest.0), ((element, one.1), rest.1))

paths_are : (tree : Tree Step Key) → paths_of (rows tree) ≡ [] ∷ paths_of (forest_rows tree.below)
unfolding rows
paths_are tree = paths-append (own tree.keys) (forest_rows tree.below) ∙ ap (λ r. r ++ paths_of (forest_rows tree.below)) (paths-own tree.keys)

pub graph_is_derived : GraphIsDerived
unfolding first_deep elements_of
graph_is_derived tree found needs order keys children folded nested faultless told needed ordered graph levels enough = (
  same,
  record {
    distinct = facts.0;
    elements = facts.1;
    few = subst (λ n. n ≤ element_limit) (sym (ap (λ r. length (filter (is_element_of is_counted) r)) same) ∙ count-rows is_counted (unfolded keys children levels 0)) faultless.few;
  },
)
  where
    top : path_at (rows tree) 0 ≡ []
    top = ap (λ paths. get_or paths 0 []) (paths_are tree)

    some : 0 < length (paths_of (rows tree))
    some = omega (arith, ap (λ (paths : List (List Step)). length paths) (paths_are tree))

    apart : AreApart (length (paths_of (rows tree))) children
    apart = are_apart tree found needs order keys children folded.distinct folded.elements nested faultless.ordered.sources told needed ordered graph

    same : rows (unfolded keys children levels 0) ≡ derived_rows (rows tree)
    same = graph_unfolds (rows tree) found needs order keys children faultless.ordered.no_circle told needed ordered graph apart top some faultless.shallow levels enough

    shallow : IsShallow levels (rows_of (rows tree) faultless.ordered.no_circle found told top some 0)
    shallow = shallow-top (rows tree) top faultless.shallow levels enough

    facts : AreDistinct same_key (unfolded keys children levels 0).below × Every (IsElement IsPlaced) (unfolded keys children levels 0).below
    facts = below-facts tree found needs order keys children folded.distinct folded.elements nested faultless.ordered.sources told needed ordered graph faultless.ordered.no_circle top some levels 0 some shallow
