-- What an element needs by its number is what it depends on by its path.
use Rattle.std.specs.Prelude.{⊤}
use Rattle.std.proofs.Common.{◌≡◌, inl, inr, ℕ, ◌<◌, ◌≤◌, nat_eq, Bool, true, false, ◌&&◌, cond, List, [], ◌∷◌, ◌++◌, map, length, get_or, Option, None, Some, option_map, option_and_then, is_some, slice_get, refl, sym, ap, ap₂, ◌∙◌, subst, arith, append_assoc}
use Rattle.std.specs.List.{find}
use Rattle.std.specs.Option.{option_or}
use Rattle.std.proofs.lemmas.Bool.{cases_lt, eqb-true, or_cases, true≢false}
use Rattle.std.proofs.lemmas.List.{get_or_past, length-map}
use Rattle.std.proofs.lemmas.Option.{slice_get-get_or, slice_get-map, slice_get_past}
use Rattle.derive_order.proofs.Children.{is_one_longer, children_longer, filter_places, child_is}
use Rattle.derive_sources.specs.Graphs.{parts_in, parts_at, children_among, IsGraph}
use Rattle.derive_sources.specs.Missing.{TellsSources}
use Rattle.derive_sources.specs.Numbers.{Item, AreNumbered, Rows, path_at, item_at, is_number}
use Rattle.derive_sources.proofs.Seats.{as_many, earlier, fits-nothing, one-below}
use Rattle.derive_sources.proofs.Told.{told_at}
use Rattle.derived_rows.specs.Dependence.{listed, dependences}
use Rattle.derived_rows.specs.Sources.{child_paths, followed, of_kind, reached, second_try, source_among, source_names, sought_from, source_of, kind_at, ancestors, is_set_named}
use Rattle.need_order.specs.declared.element.Element.{Element}
use Rattle.need_order.specs.Needs.{among, needs, needs_in, is_based, is_based_in, with_base, IsWithin}
use Rattle.pac_base.specs.declared.path.Step.{Step as Written}
use Rattle.svd_model.specs.Properties.{nearest}
use Rattle.svd_model.specs.Stating.{paths_of, is_of}
use Rattle.svd_model.specs.Steps.{Step, Kind, peripheral, cluster, register, field, set, value, same_step}
use Rattle.svd_rows.specs.LookUps.{ends_with}
use Rattle.svd_rows.specs.Paths.{exactly, fits}

-- ---- no source is the device

-- the path, where there is one, isn't that of the device
abbrev IsBelow : Option (List Step) → Type 0
IsBelow None = ⊤
IsBelow (Some []) = ⊥
IsBelow (Some (step ∷ path)) = ⊤

kinds-below : (kind : Kind) (o : Option (List Step)) → IsBelow (option_and_then (of_kind kind) o)
unfolding of_kind ends_with
kinds-below kind None = tt
kinds-below kind (Some []) = tt
kinds-below kind (Some (step ∷ path)) = by (ends_with (is_of kind) (step ∷ path))
  where
    by : (b : Bool) → IsBelow (cond b (Some (step ∷ path)) None)
    by true = tt
    by false = tt

reached-below : (all : Rows) (kind : Kind) (names : List Written) (path : List Step) → IsBelow (reached all kind names path)
unfolding reached
reached-below all kind [] path = tt
reached-below all kind (name ∷ names) path = kinds-below kind (followed all (name ∷ names) path)

nearest-below : (f : List Step → Option (List Step)) → ((path : List Step) → IsBelow (f path)) → (paths : List (List Step)) → IsBelow (nearest (map f paths))
nearest-below f each [] = tt
nearest-below f each (path ∷ paths) = at (nearest-below f each paths) (f path) (each path)
  where
    at : IsBelow (nearest (map f paths)) → (o : Option (List Step)) → IsBelow o → IsBelow (nearest (o ∷ map f paths))
    at others None p = others
    at others (Some found) p = p

find-below : (test : List Step → Bool) → test [] ≡ false → (paths : List (List Step)) → IsBelow (find test paths)
find-below test none [] = tt
find-below test none ([] ∷ paths) = subst (λ b. IsBelow (cond b (Some []) (find test paths))) (sym none) (find-below test none paths)
find-below test none ((step ∷ path) ∷ paths) = by (find-below test none paths) (test (step ∷ path))
  where
    by : IsBelow (find test paths) → (b : Bool) → IsBelow (cond b (Some (step ∷ path)) (find test paths))
    by others true = tt
    by others false = others

second-below : (all : Rows) (kind : Kind) (names : List Written) (around : List (List Step)) → IsBelow (second_try all kind names around)
unfolding second_try
second-below all set (name ∷ []) (parent ∷ outer ∷ others) =
    find-below (fits (exactly same_step outer ++ (λ step. true) ∷ is_set_named name ∷ []))
    (ap (λ tests. fits tests []) (sym (append_assoc (exactly same_step outer) ((λ step. true) ∷ []) (is_set_named name ∷ []))) ∙ fits-nothing (exactly same_step outer ++ (λ step. true) ∷ []) (is_set_named name))
    (paths_of all)
second-below all set [] around = tt
second-below all set (name ∷ []) [] = tt
second-below all set (name ∷ []) (parent ∷ []) = tt
second-below all set (name ∷ next ∷ names) around = tt
second-below all peripheral names around = tt
second-below all cluster names around = tt
second-below all register names around = tt
second-below all field names around = tt
second-below all value names around = tt

source-below : (all : Rows) (path : List Step) → IsBelow (source_of all path)
unfolding source_of source_among
source-below all path = at (kind_at path) (source_names all path)
  where
    either : (o p : Option (List Step)) → IsBelow o → IsBelow p → IsBelow (option_or o p)
    either None p h k = k
    either (Some x) p h k = h

    at : (kind : Option Kind) (names : Option (List Written)) → IsBelow (sought_from all path kind names)
    at None names = tt
    at (Some kind) None = tt
    at (Some kind) (Some names) =
        either (nearest (map (reached all kind names) (ancestors path))) (second_try all kind names (ancestors path))
        (nearest-below (reached all kind names) (reached-below all kind names) (ancestors path))
        (second-below all kind names (ancestors path))

-- ---- numbers

module _ (all : Rows) (items : List Item) (numbered : AreNumbered all items) where
  -- the children of an element
  pub child_numbers : (e : ℕ) → e < length items → map (path_at all) (children_among e 0 items) ≡ child_paths all (path_at all e)
  child_numbers e inside =
      sym (children_longer all (path_at all e)
      ∙ filter_places (is_one_longer (path_at all e)) e [] (paths_of all) items (as_many all items numbered)
      (λ i here. one-below all items numbered (λ step. true) (λ item. true) (λ s item a b. refl) e inside i here ∙ and_true (is_number e (item_at items i).parent)))
    where
      and_true : (b : Bool) → (b && true) ≡ b
      and_true true = refl
      and_true false = refl

  -- a child stands behind its parent
  pub child_later : (e d : ℕ) → among d (children_among e 0 items) ≡ true → (e < d) × (d < length items)
  child_later e d h =
      let r = child_is e 0 items d h in
      let same : r.place ≡ d = omega (arith, r.is) in
      let inside : d < length items = omega (arith, same, r.inside) in
      (earlier all items numbered d e inside (subst (λ p. (item_at items p).parent ≡ Some e) same r.below), inside)

  module _ (sources : List (Option ℕ)) (tells : TellsSources all sources) where
    pub sources_long : length sources ≡ length items
    sources_long = sym (length-map sources (option_map (path_at all))) ∙ ap (λ l. length l) tells ∙ length-map (paths_of all) (source_of all) ∙ as_many all items numbered

    -- a source is an element
    pub source_inside : (e d : ℕ) → e < length items → get_or sources e None ≡ Some d → d < length items
    source_inside e d inside is = elim (cases_lt d (length items)) [
      | inl p ↦ p
      | inr past ↦ absurd (subst IsBelow (sym (told_at all items numbered sources tells e inside) ∙ ap (option_map (path_at all)) is ∙ ap Some (get_or_past (paths_of all) d [] (omega (arith, past, as_many all items numbered)))) (source-below all (path_at all e)))
    ]

    module _ (elements : List Element) (graph : IsGraph items sources elements) where
      pub elements_long : length elements ≡ length items
      elements_long = sym (length-map elements (λ (element : Element). element.base)) ∙ ap (λ l. length l) graph.bases ∙ sources_long

      -- what is known of the element of a number
      known : (e : ℕ) → e < length items → (o : Option Element) → slice_get elements e ≡ o → (needs_in o ≡ with_base (get_or sources e None) (parts_in o)) × (is_based_in o ≡ is_some (get_or sources e None))
      known e inside o is = at o (sym (ap (option_map (λ (element : Element). element.base)) is) ∙ sym (slice_get-map (λ (element : Element). element.base) elements e) ∙ ap (λ bases. slice_get bases e) graph.bases ∙ slice_get-get_or sources e None (omega (arith, inside, sources_long)))
        where
          at : (o : Option Element) → option_map (λ (element : Element). element.base) o ≡ Some (get_or sources e None) → (needs_in o ≡ with_base (get_or sources e None) (parts_in o)) × (is_based_in o ≡ is_some (get_or sources e None))
          at None h = absurd cc
          at (Some element) h = let base : element.base ≡ get_or sources e None = cc in (ap (λ b. with_base b element.parts.items) base, ap is_some base)

      pub needs_are : (e : ℕ) → e < length items → needs elements e ≡ with_base (get_or sources e None) (children_among e 0 items)
      unfolding needs parts_at
      needs_are e inside = (known e inside (slice_get elements e) refl).0 ∙ ap (with_base (get_or sources e None)) (graph.parts e (omega (arith, inside, elements_long)))

      pub based_is : (e : ℕ) → e < length items → is_based elements e ≡ is_some (get_or sources e None)
      based_is e inside = (known e inside (slice_get elements e) refl).1

      -- nothing is needed where there is no element
      pub needs_none : (e : ℕ) → length items ≤ e → needs elements e ≡ []
      unfolding needs
      needs_none e past = ap needs_in (slice_get_past elements e (omega (arith, past, elements_long)))

      based_paths : (o : Option ℕ) (parts : List ℕ) → map (path_at all) (with_base o parts) ≡ listed (option_map (path_at all) o) ++ map (path_at all) parts
      based_paths None parts = refl
      based_paths (Some d) parts = refl

      -- what an element needs, by paths
      pub needs_paths : (e : ℕ) → e < length items → map (path_at all) (needs elements e) ≡ dependences all (path_at all e)
      unfolding dependences
      needs_paths e inside =
          ap (map (path_at all)) (needs_are e inside)
          ∙ based_paths (get_or sources e None) (children_among e 0 items)
          ∙ ap₂ (λ o paths. listed o ++ paths) (told_at all items numbered sources tells e inside) (child_numbers e inside)

      -- what is needed is an element
      pub need_inside : (e d : ℕ) → among d (needs elements e) ≡ true → (e < length items) × (d < length items)
      need_inside e d h = elim (cases_lt e (length items)) [
        | inr past ↦ absurd (true≢false (sym h ∙ ap (among d) (needs_none e past)))
        | inl inside ↦ (inside, at inside (get_or sources e None) refl (sym (ap (among d) (needs_are e inside)) ∙ h))
      ]
        where
          at : e < length items → (o : Option ℕ) → get_or sources e None ≡ o → among d (with_base o (children_among e 0 items)) ≡ true → d < length items
          at inside None is p = (child_later e d p).1
          at inside (Some base) is p = elim (or_cases (nat_eq d base) (among d (children_among e 0 items)) p) [
            | inl q ↦ subst (λ n. n < length items) (sym (eqb-true d base q)) (source_inside e base inside is)
            | inr q ↦ (child_later e d q).1
          ]

      pub within : IsWithin (needs elements) (length elements)
      within e d h = let r = need_inside e d h in omega (arith, r.1, elements_long)
