-- Circles by numbers are circles by paths.
use Rattle.std.proofs.Common.{◌≡◌, inl, inr, ◌⊎◌, ℕ, zero, suc, ◌<◌, Bool, true, false, cond, nat_eq, List, [], ◌∷◌, ◌++◌, map, filter, length, take, drop, take-append-drop, drop-cons, get_or, Option, None, Some, option_map, is_some, refl, sym, ap, ◌∙◌, subst, arith}
use Rattle.std.specs.List.{AllByRecursion, find}
use Rattle.std.specs.Option.{is_none}
use Rattle.std.proofs.lemmas.Bool.{cases_Bool, eqb-true, eq-eqb, true≢false}
use Rattle.std.proofs.lemmas.List.{get_or-take, length-take-le}
use Rattle.std.proofs.lemmas.List.Elements.{filter-append}
use Rattle.derive_order.specs.Faults.{TellsCycle}
use Rattle.derive_order.proofs.Ties.{child_later, needs_are, based_is, needs_paths, need_inside, within}
use Rattle.derive_sources.specs.Graphs.{children_among, IsGraph}
use Rattle.derive_sources.specs.Missing.{TellsSources}
use Rattle.derive_sources.specs.Numbers.{Item, AreNumbered, Rows, path_at}
use Rattle.derive_sources.proofs.Seats.{as_many, one_number}
use Rattle.derive_sources.proofs.Told.{told_at}
use Rattle.derived_rows.specs.Dependence.{same_path, dependences, IsAmong, IsChain, IsOnCircle, HasNoCircle, IsFirstOnCircle, deriving_paths}
use Rattle.derived_rows.specs.Faults.{first_missing}
use Rattle.derived_rows.specs.Sources.{source_names, source_of}
use Rattle.derived_rows.proofs.Circles.{deriving-member, no_source}
use Rattle.derived_rows.proofs.Paths.{same_path-tells, member-cases, member-head, member-tail, member-map, member-mapped}
use Rattle.need_order.specs.declared.element.Element.{Element}
use Rattle.need_order.specs.declared.fault.NeedFault.{NeedFault}
use Rattle.need_order.specs.declared.fault.NeedFault.TheVariants as need_fault
use Rattle.need_order.specs.Laws.{NeedsLater}
use Rattle.need_order.specs.Needs.{among, needs, is_based, with_base, Leads, IsPath, HasNoCircle as HasNone, HasNoneBelow, IsFaultOf}
use Rattle.need_order.proofs.Circles.{circle_is_based}
use Rattle.svd_model.specs.Stating.{paths_of}
use Rattle.svd_model.specs.Steps.{Step}
use Rattle.svd_rows.specs.Paths.{IsSame}

number-tells : IsSame nat_eq
number-tells = record { itself = λ n. eq-eqb n n refl; alone = λ a b e. eqb-true a b e }

-- a path that is there stands at a place
place_of : (paths : List (List Step)) (path : List Step) → IsAmong paths path → (e : ℕ) × (e < length paths) × (path ≡ get_or paths e [])
place_of [] path h = absurd (true≢false (sym h))
place_of (x ∷ paths) path h = elim (member-cases same_path same_path-tells x paths path h) [
  | inl same ↦ (0, omega arith, same)
  | inr p ↦ let r = place_of paths path p in (suc r.0, omega (arith, r.1), r.2)
]

-- a property of what passes a test holds at each that does
all_passing : (P : List Step → Type 0) (test : List Step → Bool) (paths : List (List Step)) → ((i : ℕ) → i < length paths → test (get_or paths i []) ≡ true → P (get_or paths i [])) → AllByRecursion P (filter test paths)
all_passing P test [] each = tt
all_passing P test (path ∷ paths) each = at (test path) refl (all_passing P test paths (λ i inside passes. each (suc i) (omega (arith, inside)) passes))
  where
    at : (b : Bool) → test path ≡ b → AllByRecursion P (filter test paths) → AllByRecursion P (cond b (path ∷ filter test paths) (filter test paths))
    at true e others = (each 0 (omega arith) e, others)
    at false e others = others

-- where nothing is found, each fails the test
nothing_found : (test : List Step → Bool) (paths : List (List Step)) (path : List Step) → find test paths ≡ None → IsAmong paths path → test path ≡ false
nothing_found test [] path none h = absurd (true≢false (sym h))
nothing_found test (x ∷ paths) path none h = at (λ p q. nothing_found test paths path p q) (test x) refl none (member-cases same_path same_path-tells x paths path h)
  where
    at : (find test paths ≡ None → IsAmong paths path → test path ≡ false) → (b : Bool) → test x ≡ b → cond b (Some x) (find test paths) ≡ None → (path ≡ x) ⊎ IsAmong paths path → test path ≡ false
    at again true e p c = absurd cc
    at again false e p (inl same) = ap test same ∙ e
    at again false e p (inr q) = again p q

module _ (all : Rows) (items : List Item) (numbered : AreNumbered all items) (sources : List (Option ℕ)) (tells : TellsSources all sources) (elements : List Element) (graph : IsGraph items sources elements) where
  abbrev at : ℕ → List Step
  at = path_at all

  -- a need is a dependence
  depends : (e d : ℕ) → among d (needs elements e) ≡ true → IsAmong (dependences all (at e)) (at d)
  depends e d h =
      subst (λ paths. IsAmong paths (at d)) (needs_paths all items numbered sources tells elements graph e (need_inside all items numbered sources tells elements graph e d h).0)
      (member-mapped same_path same_path-tells nat_eq number-tells at (needs elements e) d h)

  -- a dependence is a need
  needed : (e : ℕ) (path : List Step) → e < length items → IsAmong (dependences all (at e)) path → (d : ℕ) × (among d (needs elements e) ≡ true) × (path ≡ at d)
  needed e path inside h =
      member-map same_path same_path-tells nat_eq number-tells at (needs elements e) path
      (subst (λ paths. IsAmong paths path) (sym (needs_paths all items numbered sources tells elements graph e inside)) h)

  chain_of : (from : ℕ) (path : List ℕ) (to : ℕ) → IsPath (needs elements) from path to → IsChain all (at from) (map at path) (at to)
  unfolding IsPath IsChain
  chain_of from [] to h = depends from to h
  chain_of from (over ∷ path) to h = (depends from over h.0, chain_of over path to h.1)

  path_of : (from : ℕ) (others : List (List Step)) (to : ℕ) → from < length items → to < length items → IsChain all (at from) others (at to) → Leads (needs elements) from to
  unfolding IsPath IsChain
  path_of from [] to inside ends h =
      let r = needed from (at to) inside h in
      let same : to ≡ r.0 = one_number all items numbered to r.0 ends (need_inside all items numbered sources tells elements graph from r.0 r.1).1 r.2 in
      ([], subst (λ d. among d (needs elements from) ≡ true) (sym same) r.1)
  path_of from (over ∷ others) to inside ends h =
      let r = needed from over inside h.0 in
      let w = path_of r.0 others to (need_inside all items numbered sources tells elements graph from r.0 r.1).1 ends (subst (λ p. IsChain all p others (at to)) r.2 h.1) in
      (r.0 ∷ w.0, (r.1, w.1))

  circle_by_path : (e : ℕ) → Leads (needs elements) e e → IsOnCircle all (at e)
  circle_by_path e way = (map at way.0, chain_of e way.0 e way.1)

  circle_by_number : (e : ℕ) → e < length items → IsOnCircle all (at e) → Leads (needs elements) e e
  circle_by_number e inside circle = path_of e circle.0 e inside inside circle.1

  -- no circle by numbers, none by paths
  pub no_circle : HasNone (needs elements) → HasNoCircle all
  no_circle none path here circle =
      let r = place_of (paths_of all) path here in
      none r.0 (circle_by_number r.0 (omega (arith, r.1, as_many all items numbered)) (subst (IsOnCircle all) r.2 circle))

  -- elements without a source need later ones alone
  later : NeedsLater elements
  later e d none h =
      let inside = (need_inside all items numbered sources tells elements graph e d h).0 in
      (child_later all items numbered e d
      (bare (get_or sources e None) (sym (based_is all items numbered sources tells elements graph e inside) ∙ none)
      (sym (ap (among d) (needs_are all items numbered sources tells elements graph e inside)) ∙ h))).0
    where
      bare : (o : Option ℕ) → is_some o ≡ false → among d (with_base o (children_among e 0 items)) ≡ true → among d (children_among e 0 items) ≡ true
      bare None p q = q
      bare (Some base) p q = absurd (true≢false p)

  -- where no source is missing, those that have a source are those that state one
  states_is_based : first_missing all ≡ None → (e : ℕ) → e < length items → is_some (source_names all (at e)) ≡ is_based elements e
  unfolding first_missing
  states_is_based whole e inside = elim (cases_Bool (is_some (source_names all (at e)))) [
    | inl p ↦ p ∙ sym (based ∙ some_by (source_of all (at e)) (nothing_found (λ path. is_none (source_of all path)) (deriving_paths all) (at e) whole_found (deriving-member all (at e) here p)))
    | inr q ↦ q ∙ sym (based ∙ ap is_some (no_source all (at e) q))
  ]
    where
      whole_found : find (λ path. is_none (source_of all path)) (deriving_paths all) ≡ None
      whole_found = whole

      some_map : (o : Option ℕ) → is_some (option_map at o) ≡ is_some o
      some_map None = refl
      some_map (Some d) = refl

      based : is_based elements e ≡ is_some (source_of all (at e))
      based = based_is all items numbered sources tells elements graph e inside ∙ sym (some_map (get_or sources e None)) ∙ ap is_some (told_at all items numbered sources tells e inside)

      some_by : (o : Option (List Step)) → is_none o ≡ false → is_some o ≡ true
      some_by None h = absurd (true≢false h)
      some_by (Some x) h = refl

      here : IsAmong (paths_of all) (at e)
      here = at_place (paths_of all) e (omega (arith, inside, as_many all items numbered))
        where
          at_place : (paths : List (List Step)) (i : ℕ) → i < length paths → IsAmong paths (get_or paths i [])
          at_place [] i h = absurd (omega (arith, h))
          at_place (x ∷ paths) zero h = member-head same_path same_path-tells x paths
          at_place (x ∷ paths) (suc i) h = member-tail same_path same_path-tells x paths (get_or paths i []) (at_place paths i (omega (arith, h)))

  first_on_circle : first_missing all ≡ None → (e : ℕ) → is_based elements e ≡ true → Leads (needs elements) e e → HasNoneBelow elements e → e < length items → IsFirstOnCircle all (at e)
  unfolding deriving_paths
  first_on_circle whole e based way none inside = record {
    before = filter states (take e (paths_of all));
    after = filter states (drop (suc e) (paths_of all));
    stands = stands;
    circle = circle_by_path e way;
    first = all_passing (λ other. IsOnCircle all other → ⊥) states (take e (paths_of all)) (λ i below passes circle. earlier_one i (omega (arith, below, short)) (sym (ap states (get_or-take e (paths_of all) i [] (omega (arith, below, short)))) ∙ passes) (subst (IsOnCircle all) (get_or-take e (paths_of all) i [] (omega (arith, below, short))) circle));
  }
    where
      states : List Step → Bool
      states path = is_some (source_names all path)

      long : e < length (paths_of all)
      long = omega (arith, inside, as_many all items numbered)

      short : length (take e (paths_of all)) ≡ e
      short = length-take-le e (paths_of all) (omega (arith, long))

      earlier_one : (i : ℕ) → i < e → states (at i) ≡ true → IsOnCircle all (at i) → ⊥
      earlier_one i below passes circle =
          let here : i < length items = omega (arith, below, inside) in
          none i below (sym (states_is_based whole i here) ∙ passes, circle_by_number i here circle)

      stands : deriving_paths all ≡ filter states (take e (paths_of all)) ++ (at e ∷ filter states (drop (suc e) (paths_of all)))
      stands =
          ap (filter states) (sym (take-append-drop e (paths_of all)) ∙ ap (λ rest. take e (paths_of all) ++ rest) (drop-cons (paths_of all) e [] long))
          ∙ filter-append states (take e (paths_of all)) (at e ∷ drop (suc e) (paths_of all))
          ∙ ap (λ b. filter states (take e (paths_of all)) ++ cond b (at e ∷ filter states (drop (suc e) (paths_of all))) (filter states (drop (suc e) (paths_of all)))) (states_is_based whole e inside ∙ based)

  -- what a fault of needs says
  pub circle_told : first_missing all ≡ None → (fault : NeedFault) → IsFaultOf elements fault → TellsCycle all fault
  unfolding IsPath
  circle_told whole (need_fault.Circle (Some e)) h =
      (whole, first_on_circle whole e h.1.0.0 h.1.0.1 h.1.1 (inside_of h.1.0.1))
    where
      inside_of : Leads (needs elements) e e → e < length items
      inside_of ([], w) = (need_inside all items numbered sources tells elements graph e e w).0
      inside_of (over ∷ path, w) = (need_inside all items numbered sources tells elements graph e over w.0).0
  circle_told whole (need_fault.Circle None) h =
      circle_is_based elements later (within all items numbered sources tells elements graph) h.0 h.1
  circle_told whole need_fault.Memory h = tt
