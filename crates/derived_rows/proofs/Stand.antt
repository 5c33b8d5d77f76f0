-- What an element depends on are elements.
use Rattle.std.specs.Prelude.{⊤}
use Rattle.std.proofs.Common.{◌≡◌, inl, inr, Bool, true, false, cond, List, [], ◌∷◌, ◌++◌, map, filter, filter_map, length, drop, Option, None, Some, option_and_then, refl, sym, ap, ◌∙◌, subst}
use Rattle.std.specs.List.{find, cons_option}
use Rattle.std.specs.Option.{option_or}
use Rattle.std.specs.Set.{is_member}
use Rattle.std.proofs.lemmas.Bool.{and_parts, true≢false}
use Rattle.derived_rows.specs.Dependence.{same_path, IsAmong, listed, dependences}
use Rattle.derived_rows.specs.Sources.{children_at, has_name, is_set_named, child_paths, named_child, followed, of_kind, reached, second_try, source_among, source_names, sought_from, source_of, kind_at, ancestors}
use Rattle.derived_rows.proofs.Paths.{same_path-tells, member-cases, member-head, member-tail, member-append, member-map}
use Rattle.pac_base.specs.declared.path.Step.{Step as Written}
use Rattle.svd_model.specs.Keys.{Key}
use Rattle.svd_model.specs.Properties.{nearest}
use Rattle.svd_model.specs.Stating.{paths_of, is_of}
use Rattle.svd_model.specs.Steps.{Step, Kind, peripheral, cluster, register, field, set, value, same_step}
use Rattle.svd_model.proofs.Steps.{same_step-tells}
use Rattle.svd_rows.specs.LookUps.{inside, seen_below, child_step, children_of, ends_with}
use Rattle.svd_rows.specs.Paths.{begins, exactly, fits, is_within}
use Rattle.svd_rows.specs.Rows.{Row, Said, element, states, is_element}

-- a path that begins as another is that one and what is left of it
pub begins-drop : (path other : List Step) → begins (exactly same_step path) other ≡ true → other ≡ path ++ drop (length path) other
unfolding begins
begins-drop [] other e = refl
begins-drop (step ∷ path) [] e = absurd (true≢false (sym e))
begins-drop (step ∷ path) (next ∷ other) e =
    let parts = and_parts (same_step step next) (begins (exactly same_step path) other) e in
    let first : next ≡ step = sym (same_step-tells.alone step next parts.0) in
    let rest : other ≡ path ++ drop (length path) other = begins-drop path other parts.1 in
    λ i. first i ∷ rest i

-- a child of an element is an element
pub child-stands : (all : List (Row Step Key)) (path : List Step) (child : Step) → is_member same_step (children_at all path) child ≡ true → IsAmong (paths_of all) (path ++ child ∷ [])
unfolding inside children_of paths_of is_element child_step
child-stands [] path child h = absurd (true≢false (sym h))
child-stands (row ∷ all) path child h = at (child-stands all path child) (begins (exactly same_step path) row.path) refl h
  where
    rest : List (Row Step Key)
    rest = map (seen_below path) (filter (is_within (exactly same_step path)) all)

    tell : Row Step Key → Option Step
    tell r = child_step r.path r.said

    later : IsAmong (paths_of all) (path ++ child ∷ []) → IsAmong (paths_of (row ∷ all)) (path ++ child ∷ [])
    later p = by row.said
      where
        by : (said : Said Key) → IsAmong (paths_of (record { path = row.path; said = said } ∷ all)) (path ++ child ∷ [])
        by element = member-tail same_path same_path-tells row.path (paths_of all) (path ++ child ∷ []) p
        by (states key) = p

    Rest : Type 0
    Rest = is_member same_step (filter_map tell rest) child ≡ true → IsAmong (paths_of all) (path ++ child ∷ [])

    here : Rest → (left : List Step) (said : Said Key) → row.path ≡ path ++ left → is_member same_step (cons_option (child_step left said) (filter_map tell rest)) child ≡ true → IsAmong (paths_of (record { path = row.path; said = said } ∷ all)) (path ++ child ∷ [])
    here again [] element is p = member-tail same_path same_path-tells row.path (paths_of all) (path ++ child ∷ []) (again p)
    here again [] (states key) is p = again p
    here again (step ∷ []) (states key) is p = again p
    here again (step ∷ []) element is p = elim (member-cases same_step same_step-tells step (filter_map tell rest) child p) [
      | inl q ↦ subst (λ (z : List Step). IsAmong (row.path ∷ paths_of all) z) (is ∙ ap (λ s. path ++ s ∷ []) (sym q)) (member-head same_path same_path-tells row.path (paths_of all))
      | inr q ↦ member-tail same_path same_path-tells row.path (paths_of all) (path ++ child ∷ []) (again q)
    ]
    here again (step ∷ next ∷ left) element is p = member-tail same_path same_path-tells row.path (paths_of all) (path ++ child ∷ []) (again p)
    here again (step ∷ next ∷ left) (states key) is p = again p

    at : Rest → (b : Bool) → begins (exactly same_step path) row.path ≡ b → is_member same_step (filter_map tell (map (seen_below path) (cond b (row ∷ filter (is_within (exactly same_step path)) all) (filter (is_within (exactly same_step path)) all)))) child ≡ true → IsAmong (paths_of (row ∷ all)) (path ++ child ∷ [])
    at again false e p = later (again p)
    at again true e p = here again (drop (length path) row.path) row.said (begins-drop path row.path e) p

-- what is found among paths is one of them
find-member : (test : List Step → Bool) (paths : List (List Step)) (path : List Step) → find test paths ≡ Some path → IsAmong paths path
find-member test [] path e = absurd cc
find-member test (x ∷ paths) path e = at (find-member test paths path) (test x) e
  where
    at : (find test paths ≡ Some path → IsAmong paths path) → (b : Bool) → cond b (Some x) (find test paths) ≡ Some path → IsAmong (x ∷ paths) path
    at again true p = let same : x ≡ path = cc in subst (IsAmong (x ∷ paths)) same (member-head same_path same_path-tells x paths)
    at again false p = member-tail same_path same_path-tells x paths path (again p)

module _ (all : List (Row Step Key)) where
  -- where there is a path it is that of an element
  abbrev pub Stands : Option (List Step) → Type 0
  Stands None = ⊤
  Stands (Some path) = IsAmong (paths_of all) path

  -- what is found among the elements is one of them
  find-stands : (test : List Step → Bool) → Stands (find test (paths_of all))
  find-stands test = at (find test (paths_of all)) refl
    where
      at : (o : Option (List Step)) → find test (paths_of all) ≡ o → Stands o
      at None e = tt
      at (Some path) e = find-member test (paths_of all) path e

  pub child-paths-stand : (path other : List Step) → IsAmong (child_paths all path) other → IsAmong (paths_of all) other
  unfolding child_paths
  child-paths-stand path other h =
      let r = member-map same_path same_path-tells same_step same_step-tells (λ child. path ++ child ∷ []) (children_at all path) other h in
      subst (IsAmong (paths_of all)) (sym r.2) (child-stands all path r.0 r.1)

  named-stands : (name : Written) (path : List Step) → Stands (named_child all name path)
  unfolding named_child
  named-stands name path = find-stands (fits (exactly same_step path ++ has_name name ∷ []))

  followed-stands : (names : List Written) (path : List Step) → IsAmong (paths_of all) path → Stands (followed all names path)
  unfolding followed
  followed-stands [] path h = h
  followed-stands (name ∷ names) path h = at (followed-stands names) (named_child all name path) (named-stands name path)
    where
      at : ((next : List Step) → IsAmong (paths_of all) next → Stands (followed all names next)) → (o : Option (List Step)) → Stands o → Stands (option_and_then (followed all names) o)
      at again None p = tt
      at again (Some next) p = again next p

  reached-stands : (kind : Kind) (names : List Written) (path : List Step) → Stands (reached all kind names path)
  unfolding reached followed of_kind
  reached-stands kind [] path = tt
  reached-stands kind (name ∷ names) path = at (named_child all name path) (named-stands name path)
    where
      kinds : (o : Option (List Step)) → Stands o → Stands (option_and_then (of_kind kind) o)
      kinds None p = tt
      kinds (Some next) p = by (ends_with (is_of kind) next)
        where
          by : (b : Bool) → Stands (cond b (Some next) None)
          by true = p
          by false = tt

      at : (o : Option (List Step)) → Stands o → Stands (option_and_then (of_kind kind) (option_and_then (followed all names) o))
      at None p = tt
      at (Some next) p = kinds (followed all names next) (followed-stands names next p)

  nearest-stands : {W : Type 0} (f : W → Option (List Step)) → ((w : W) → Stands (f w)) → (ws : List W) → Stands (nearest (map f ws))
  nearest-stands f each [] = tt
  nearest-stands f each (w ∷ ws) = at (nearest-stands f each ws) (f w) (each w)
    where
      at : Stands (nearest (map f ws)) → (o : Option (List Step)) → Stands o → Stands (nearest (o ∷ map f ws))
      at others None p = others
      at others (Some path) p = p

  second-stands : (kind : Kind) (names : List Written) (around : List (List Step)) → Stands (second_try all kind names around)
  unfolding second_try
  second-stands set (name ∷ []) (parent ∷ outer ∷ others) =
      find-stands (fits (exactly same_step outer ++ (λ step. true) ∷ is_set_named name ∷ []))
  second-stands set [] around = tt
  second-stands set (name ∷ []) [] = tt
  second-stands set (name ∷ []) (parent ∷ []) = tt
  second-stands set (name ∷ next ∷ names) around = tt
  second-stands peripheral names around = tt
  second-stands cluster names around = tt
  second-stands register names around = tt
  second-stands field names around = tt
  second-stands value names around = tt

  pub source-stands : (path : List Step) → Stands (source_of all path)
  unfolding source_of source_among
  source-stands path = at (kind_at path) (source_names all path)
    where
      either : (o p : Option (List Step)) → Stands o → Stands p → Stands (option_or o p)
      either None p h k = k
      either (Some x) p h k = h

      at : (kind : Option Kind) (names : Option (List Written)) → Stands (sought_from all path kind names)
      at None names = tt
      at (Some kind) None = tt
      at (Some kind) (Some names) =
          either (nearest (map (reached all kind names) (ancestors path))) (second_try all kind names (ancestors path))
          (nearest-stands (reached all kind names) (reached-stands kind names) (ancestors path))
          (second-stands kind names (ancestors path))

  -- what an element depends on is an element
  pub dependence-stands : (path other : List Step) → IsAmong (dependences all path) other → IsAmong (paths_of all) other
  unfolding dependences
  dependence-stands path other h = elim (member-append same_path same_path-tells (listed (source_of all path)) (child_paths all path) other h) [
    | inl p ↦ by (source_of all path) (source-stands path) p
    | inr p ↦ child-paths-stand path other p
  ]
    where
      by : (o : Option (List Step)) → Stands o → IsAmong (listed o) other → IsAmong (paths_of all) other
      by None p q = absurd (true≢false (sym q))
      by (Some x) p q = elim (member-cases same_path same_path-tells x [] other q) [ inl e ↦ subst (IsAmong (paths_of all)) (sym e) p | inr e ↦ absurd (true≢false (sym e)) ]
