-- What an element has of its own stays, and so do the paths of what isn't in a set.
use Rattle.std.specs.Prelude.{⊤}
use Rattle.std.proofs.Common.{◌≡◌, ◌⊎◌, inl, inr, Bool, true, false, not, ◌&&◌, ◌||◌, cond, List, [], ◌∷◌, ◌++◌, map, filter, filter_map, length, drop, Option, None, Some, option_map, refl, sym, ap, ◌∙◌, subst, arith, append_assoc, append-nil}
use Rattle.std.specs.List.{AllByRecursion, flat_map, list_any, cons_option}
use Rattle.std.specs.Set.{is_member}
use Rattle.std.specs.Str.{bytes_eq}
use Rattle.std.specs.Cmp.Lexicographic.{bytes_decides}
use Rattle.std.proofs.lemmas.Bool.{and_parts, and_from, true≢false}
use Rattle.std.proofs.lemmas.List.Folds.{list_any-append}
use Rattle.derived_rows.specs.Dependence.{same_path, IsAmong, HasNoCircle}
use Rattle.derived_rows.specs.Deriving.{Part, derived_by, derived_at, derived_rows, element_rows, own_parts, with_source, parts_of}
use Rattle.derived_rows.specs.Laws.{is_outside_sets, PathsAreKept}
use Rattle.derived_rows.specs.Merging.{has_same_name, has_named, replaced_by, kept, added, merged, children_by, taken, is_marked_at}
use Rattle.derived_rows.specs.Sources.{children_at, kind_at, source_of}
use Rattle.derived_rows.proofs.Levels.{levels_are_enough}
use Rattle.derived_rows.proofs.Paths.{same_path-tells, member-cases, member-head, member-tail, member-left, member-right}
use Rattle.svd_model.specs.Keys.{Key}
use Rattle.svd_model.specs.Stating.{keys_at, paths_of, ways_down}
use Rattle.svd_model.specs.Steps.{Step, Kind, peripheral, cluster, register, field, set, value, same_kind, same_step}
use Rattle.svd_model.proofs.Steps.{same_step-tells}
use Rattle.svd_model.proofs.Walking.{paths-append, paths-own}
use Rattle.svd_rows.specs.LookUps.{inside, seen_below, child_step, children_of, keys_of}
use Rattle.svd_rows.specs.Paths.{begins, exactly, is_within}
use Rattle.need_order.proofs.Numbers.{or_none, both_false}
use Rattle.svd_rows.specs.Rows.{Row, Said, element, states, is_element, own, under}

-- ---- own children

-- one of these has the property
abbrev pub AnyOf : {X : Type 0} → (X → Type 0) → List X → Type 0
AnyOf P [] = ⊥
AnyOf P (x ∷ xs) = P x ⊎ AnyOf P xs

any-right : {X : Type 0} (P : X → Type 0) (xs ys : List X) → AnyOf P ys → AnyOf P (xs ++ ys)
any-right P [] ys h = h
any-right P (x ∷ xs) ys h = inr (any-right P xs ys h)

module _ {X : Type 0} (P : (Step × X) → Type 0) where
  -- the first of its name stands in the place of what has this name
  replaced-first : (before : List (Step × X)) (child : Step × X) (rest : List (Step × X)) (other : Step × X) → other.0.name ≡ child.0.name → has_named before child ≡ false → replaced_by (before ++ (child ∷ rest)) other ≡ child
  unfolding has_named replaced_by
  replaced-first [] child rest other same none = ap (λ b. cond b child (replaced_by rest other)) ((bytes_decides other.0.name child.0.name).1 same)
  replaced-first (x ∷ before) child rest other same none =
      let parts = or_none (bytes_eq child.0.name x.0.name) (has_named before child) none in
      ap (λ b. cond b x (replaced_by (before ++ (child ∷ rest)) other)) (ap (λ n. bytes_eq n x.0.name) same ∙ parts.0)
      ∙ replaced-first before child rest other same parts.1

  named-push : (before : List (Step × X)) (other child : Step × X) → has_named before child ≡ false → bytes_eq child.0.name other.0.name ≡ false → has_named (before ++ other ∷ []) child ≡ false
  unfolding has_named
  named-push before other child none apart =
      list_any-append (has_same_name child) before (other ∷ []) ∙ both_false (has_named before child) (bytes_eq child.0.name other.0.name || false) none (both_false (bytes_eq child.0.name other.0.name) false apart refl)

  -- the first own child of its name stands in the place of the source's first of that name
  kept-first : (passed source before : List (Step × X)) (child : Step × X) (rest : List (Step × X)) → P child → has_named before child ≡ false → has_named passed child ≡ false → has_named source child ≡ true → AnyOf P (kept passed source (before ++ (child ∷ rest)))
  unfolding kept has_named
  kept-first passed [] before child rest holds none fresh there = absurd (true≢false (sym there))
  kept-first passed (other ∷ source) before child rest holds none fresh there =
      at (bytes_eq child.0.name other.0.name) refl there (kept-first (passed ++ other ∷ []) source before child rest holds none)
    where
      whole : List (Step × X)
      whole = before ++ (child ∷ rest)

      at : (b : Bool) → bytes_eq child.0.name other.0.name ≡ b → (b || has_named source child) ≡ true
          → (has_named (passed ++ other ∷ []) child ≡ false → has_named source child ≡ true → AnyOf P (kept (passed ++ other ∷ []) source whole))
          → AnyOf P (cond (has_named whole other && has_named passed other) [] (replaced_by whole other ∷ []) ++ kept (passed ++ other ∷ []) source whole)
      at true e h again =
          let same : other.0.name ≡ child.0.name = sym ((bytes_decides child.0.name other.0.name).0 e) in
          let unseen : has_named passed other ≡ false = ap (λ n. list_any (λ (x : Step × X). bytes_eq n x.0.name) passed) same ∙ fresh in
          let none_left : (has_named whole other && has_named passed other) ≡ false = ap (λ b. has_named whole other && b) unseen ∙ and_none (has_named whole other) in
          subst (λ b. AnyOf P (cond b [] (replaced_by whole other ∷ []) ++ kept (passed ++ other ∷ []) source whole)) (sym none_left)
          (inl (subst P (sym (replaced-first before child rest other same none)) holds))
        where
          and_none : (b : Bool) → (b && false) ≡ false
          and_none true = refl
          and_none false = refl
      at false e h again =
          any-right P (cond (has_named whole other && has_named passed other) [] (replaced_by whole other ∷ [])) (kept (passed ++ other ∷ []) source whole)
          (again (named-push passed other child fresh e) h)

  own-kept : (source before rest : List (Step × X)) → AnyOf P rest → AnyOf P (kept [] source (before ++ rest)) ⊎ AnyOf P (added before source rest)
  unfolding added has_named
  own-kept source before [] h = absurd h
  own-kept source before (child ∷ rest) (inl holds) =
      at (has_named source child) (has_named before child) refl refl
    where
      at : (a b : Bool) → has_named source child ≡ a → has_named before child ≡ b → AnyOf P (kept [] source (before ++ (child ∷ rest))) ⊎ AnyOf P (cond (a && not b) [] (child ∷ []) ++ added (before ++ child ∷ []) source rest)
      at true false p q = inl (kept-first [] source before child rest holds q refl p)
      at true true p q = inr (inl holds)
      at false b p q = inr (inl holds)
  own-kept source before (child ∷ rest) (inr h) = elim (own-kept source (before ++ child ∷ []) rest h) [
    | inl p ↦ inl (subst (λ whole. AnyOf P (kept [] source whole)) (append_assoc before (child ∷ []) rest) p)
    | inr p ↦ inr (any-right P (cond (has_named source child && not (has_named before child)) [] (child ∷ [])) (added (before ++ child ∷ []) source rest) p)
  ]

  any-left : (xs ys : List (Step × X)) → AnyOf P xs → AnyOf P (xs ++ ys)
  any-left [] ys h = absurd h
  any-left (x ∷ xs) ys (inl h) = inl h
  any-left (x ∷ xs) ys (inr h) = inr (any-left xs ys h)

  own-merged : (source children : List (Step × X)) → AnyOf P children → AnyOf P (merged source children)
  unfolding merged
  own-merged source children h = elim (own-kept source [] children h) [
    | inl p ↦ any-left (kept [] source children) (added [] source children) p
    | inr p ↦ any-right P (kept [] source children) (added [] source children) p
  ]

-- the kind isn't that of sets
abbrev IsNoSet : Option Kind → Type 0
IsNoSet (Some set) = ⊥
IsNoSet _ = ⊤

-- an element that is no set keeps its own children
own-children : {X : Type 0} (P : (Step × X) → Type 0) (kind : Option Kind) → IsNoSet kind → (source children : List (Step × X)) → AnyOf P children → AnyOf P (children_by kind source children)
own-children P None ok source children h = own-merged P source children h
own-children P (Some peripheral) ok source children h = own-merged P source children h
own-children P (Some cluster) ok source children h = own-merged P source children h
own-children P (Some register) ok source children h = own-merged P source children h
own-children P (Some field) ok source [] h = absurd h
own-children P (Some field) ok source (x ∷ children) h = h
own-children P (Some set) ok source children h = absurd ok
own-children P (Some value) ok source children h = own-merged P source children h

-- ---- paths

path-under : (step : Step) (all : List (Row Step Key)) (path : List Step) → IsAmong (paths_of all) path → IsAmong (paths_of (map (under step) all)) (step ∷ path)
unfolding paths_of under is_element
path-under step [] path h = absurd (true≢false (sym h))
path-under step (row ∷ all) path h = at row.said (path-under step all path) h
  where
    at : (said : Said Key) → (IsAmong (paths_of all) path → IsAmong (paths_of (map (under step) all)) (step ∷ path))
        → IsAmong (paths_of (record { path = row.path; said = said } ∷ all)) path → IsAmong (paths_of (map (under step) (record { path = row.path; said = said } ∷ all))) (step ∷ path)
    at (states key) again p = again p
    at element again p = elim (member-cases same_path same_path-tells row.path (paths_of all) path p) [
      | inl same ↦ subst (λ (q : List Step). is_member same_path ((step ∷ row.path) ∷ paths_of (map (under step) all)) (step ∷ q) ≡ true) (sym same) (member-head same_path same_path-tells (step ∷ row.path) (paths_of (map (under step) all)))
      | inr q ↦ member-tail same_path same_path-tells (step ∷ row.path) (paths_of (map (under step) all)) (step ∷ path) (again q)
    ]

-- the path is one of the child's, seen from its parent
abbrev Holds : List Step → Part → Type 0
Holds path child = IsAmong (paths_of (map (under child.0) child.1)) path

among-parts : (path : List Step) (children : List Part) → AnyOf (Holds path) children → IsAmong (paths_of (flat_map (λ (child : Part). map (under child.0) child.1) children)) path
among-parts path [] h = absurd h
among-parts path (child ∷ children) (inl h) =
    ap (λ paths. is_member same_path paths path) (paths-append (map (under child.0) child.1) (flat_map (λ (c : Part). map (under c.0) c.1) children))
    ∙ member-left same_path same_path-tells (paths_of (map (under child.0) child.1)) (paths_of (flat_map (λ (c : Part). map (under c.0) c.1) children)) path h
among-parts path (child ∷ children) (inr h) =
    ap (λ paths. is_member same_path paths path) (paths-append (map (under child.0) child.1) (flat_map (λ (c : Part). map (under c.0) c.1) children))
    ∙ member-right same_path same_path-tells (paths_of (map (under child.0) child.1)) (paths_of (flat_map (λ (c : Part). map (under c.0) c.1) children)) path (among-parts path children h)

among-element : (path : List Step) (keys : List Key) (children : List Part) → (path ≡ []) ⊎ AnyOf (Holds path) children → IsAmong (paths_of (element_rows keys children)) path
unfolding element_rows
among-element path keys children h =
    ap (λ paths. is_member same_path paths path) (paths-append (own keys) (flat_map (λ (child : Part). map (under child.0) child.1) children) ∙ ap (λ r. r ++ paths_of (flat_map (λ (child : Part). map (under child.0) child.1) children)) (paths-own keys))
    ∙ elim h [
      | inl p ↦ subst (λ (q : List Step). is_member same_path ([] ∷ paths_of (flat_map (λ (child : Part). map (under child.0) child.1) children)) q ≡ true) (sym p) (member-head same_path same_path-tells [] (paths_of (flat_map (λ (child : Part). map (under child.0) child.1) children)))
      | inr p ↦ member-tail same_path same_path-tells [] (paths_of (flat_map (λ (child : Part). map (under child.0) child.1) children)) path (among-parts path children p)
    ]

-- the last step of a longer path
pub kind-last : (path : List Step) (step : Step) → kind_at (path ++ step ∷ []) ≡ Some step.kind
unfolding kind_at
kind-last [] step = refl
kind-last (x ∷ []) step = refl
kind-last (x ∷ y ∷ path) step = kind-last (y ∷ path) step

begins-front : (path down : List Step) → begins (exactly same_step path) (path ++ down) ≡ true
unfolding begins
begins-front [] down = refl
begins-front (step ∷ path) down = and_from (same_step step step) (begins (exactly same_step path) (path ++ down)) (same_step-tells.itself step) (begins-front path down)

pub drop-front : (path down : List Step) → drop (length path) (path ++ down) ≡ down
drop-front [] down = refl
drop-front (step ∷ path) down = drop-front path down

-- an element one step further down is a child
stands-child : (all : List (Row Step Key)) (path : List Step) (child : Step) → IsAmong (paths_of all) (path ++ child ∷ []) → is_member same_step (children_at all path) child ≡ true
unfolding inside children_of paths_of is_element child_step
stands-child [] path child h = absurd (true≢false (sym h))
stands-child (row ∷ all) path child h = at row.path row.said (stands-child all path child) h
  where
    tell : Row Step Key → Option Step
    tell r = child_step r.path r.said

    rest : List (Row Step Key)
    rest = filter (is_within (exactly same_step path)) all

    more : (b : Bool) (r : Row Step Key) → is_member same_step (filter_map tell (map (seen_below path) rest)) child ≡ true → is_member same_step (filter_map tell (map (seen_below path) (cond b (r ∷ rest) rest))) child ≡ true
    more false r p = p
    more true r p = by (tell (seen_below path r))
      where
        by : (o : Option Step) → is_member same_step (cons_option o (filter_map tell (map (seen_below path) rest))) child ≡ true
        by None = p
        by (Some s) = member-tail same_step same_step-tells s (filter_map tell (map (seen_below path) rest)) child p

    at : (p : List Step) (said : Said Key) → (IsAmong (paths_of all) (path ++ child ∷ []) → is_member same_step (children_at all path) child ≡ true)
        → IsAmong (paths_of (record { path = p; said = said } ∷ all)) (path ++ child ∷ []) → is_member same_step (children_at (record { path = p; said = said } ∷ all) path) child ≡ true
    at p (states key) again h = more (begins (exactly same_step path) p) (record { path = p; said = states key }) (again h)
    at p element again h = elim (member-cases same_path same_path-tells p (paths_of all) (path ++ child ∷ []) h) [
      | inr q ↦ more (begins (exactly same_step path) p) (record { path = p; said = element }) (again q)
      | inl same ↦ subst (λ (q : List Step). is_member same_step (children_at (record { path = q; said = element } ∷ all) path) child ≡ true) same
          (ap (λ b. is_member same_step (filter_map tell (map (seen_below path) (cond b (record { path = path ++ child ∷ []; said = element } ∷ rest) rest))) child) (begins-front path (child ∷ []))
          ∙ ap (λ q. is_member same_step (cons_option (child_step {K = Key} q element) (filter_map tell (map (seen_below path) rest))) child) (drop-front path (child ∷ []))
          ∙ member-head same_step same_step-tells child (filter_map tell (map (seen_below path) rest)))
    ]

module _ (all : List (Row Step Key)) (no_circle : HasNoCircle all) where
  abbrev derived : List Step → List (Row Step Key)
  derived = derived_at all (length (paths_of all))

  -- from this element each step leads to a child, and none of those that have children is a set
  unfoldable Descends : List Step → List Step → Type 0
  Descends path [] = ⊤
  Descends path (step ∷ down) = IsNoSet (kind_at path) × (is_member same_step (children_at all path) step ≡ true) × IsAmong (paths_of all) (path ++ step ∷ []) × Descends (path ++ step ∷ []) down

  own-part : (path down : List Step) (step : Step) → IsAmong (paths_of (derived (path ++ step ∷ []))) down → is_member same_step (children_at all path) step ≡ true → AnyOf (Holds (step ∷ down)) (own_parts all derived path)
  own-part path down step kept_below there = each (children_at all path) there
    where
      each : (steps : List Step) → is_member same_step steps step ≡ true → AnyOf (Holds (step ∷ down)) (map {B = Part} (λ child. (child, derived (path ++ child ∷ []))) steps)
      each [] h = absurd (true≢false (sym h))
      each (s ∷ steps) h = elim (member-cases same_step same_step-tells s steps step h) [
        | inl same ↦ inl (subst (λ (t : Step). IsAmong (paths_of (map (under t) (derived (path ++ t ∷ [])))) (step ∷ down)) same (path-under step (derived (path ++ step ∷ [])) down kept_below))
        | inr p ↦ inr (each steps p)
      ]

  -- the path is that of the element itself, or of one of its own children
  abbrev IsOwn : List Step → List Step → Type 0
  IsOwn path down = (down ≡ []) ⊎ (IsNoSet (kind_at path) × AnyOf (Holds down) (own_parts all derived path))

  own-stays : (path down : List Step) → IsAmong (paths_of all) path → IsOwn path down → IsAmong (paths_of (derived path)) down
  unfolding derived_by
  own-stays path down here h =
      ap (λ all. is_member same_path (paths_of all) down) (levels_are_enough all no_circle (length (paths_of all)) (omega arith) path here)
      ∙ at (source_of all path) h
    where
      parts : List Part
      parts = own_parts all derived path

      at : (o : Option (List Step)) → IsOwn path down → IsAmong (paths_of (with_source path (keys_at all path) parts (option_map derived o))) down
      at None (inl p) = among-element down (keys_at all path) parts (inl p)
      at None (inr p) = among-element down (keys_at all path) parts (inr p.1)
      at (Some source) (inl p) = among-element down (taken (is_marked_at path) (keys_at all path) (keys_of (derived source))) (children_by (kind_at path) (parts_of (derived source)) parts) (inl p)
      at (Some source) (inr p) = among-element down (taken (is_marked_at path) (keys_at all path) (keys_of (derived source))) (children_by (kind_at path) (parts_of (derived source)) parts)
          (inr (own-children (Holds down) (kind_at path) p.0 (parts_of (derived source)) parts p.1))

  kept-below : (path down : List Step) → IsAmong (paths_of all) path → Descends path down → IsAmong (paths_of (derived path)) down
  unfolding Descends
  kept-below path [] here h = own-stays path [] here (inl refl)
  kept-below path (step ∷ down) here h =
      own-stays path (step ∷ down) here (inr (h.0, own-part path down step (kept-below (path ++ step ∷ []) down h.2 h.3) h.1))

  no_set : (kind : Kind) → not (same_kind set kind) ≡ true → IsNoSet (Some kind)
  no_set peripheral e = tt
  no_set cluster e = tt
  no_set register e = tt
  no_set field e = tt
  no_set set e = absurd (true≢false (sym e))
  no_set value e = tt

  each-map : (P Q : List Step → Type 0) (f : List Step → List Step) → ((path : List Step) → P (f path) → Q path) → (paths : List (List Step)) → AllByRecursion P (map f paths) → AllByRecursion Q paths
  each-map P Q f turn [] h = tt
  each-map P Q f turn (path ∷ paths) h = (turn path h.0, each-map P Q f turn paths h.1)

  -- the ways down from an element are elements
  abbrev WaysStand : List Step → List Step → Type 0
  WaysStand path down = AllByRecursion (λ way. IsAmong (paths_of all) (path ++ way)) (ways_down down)

  further : (path : List Step) (step : Step) (down : List Step) → WaysStand path (step ∷ down) → WaysStand (path ++ step ∷ []) down
  unfolding ways_down
  further path step down h =
      each-map (λ way. IsAmong (paths_of all) (path ++ way)) (λ way. IsAmong (paths_of all) ((path ++ step ∷ []) ++ way)) (λ way. step ∷ way)
      (λ way p. subst (IsAmong (paths_of all)) (sym (append_assoc path (step ∷ []) way)) p) (ways_down down) h.1

  first-stands : (path down : List Step) → WaysStand path down → IsAmong (paths_of all) path
  unfolding ways_down
  first-stands path [] h = subst (IsAmong (paths_of all)) (append-nil path) h.0
  first-stands path (step ∷ down) h = subst (IsAmong (paths_of all)) (append-nil path) h.0

  descends : (path down : List Step) → IsNoSet (kind_at path) → WaysStand path down → is_outside_sets down ≡ true → Descends path down
  unfolding is_outside_sets Descends
  descends path [] plain ways out = tt
  descends path (step ∷ []) plain ways out =
      let there = first-stands (path ++ step ∷ []) [] (further path step [] ways) in
      (plain, stands-child all path step there, there, tt)
  descends path (step ∷ next ∷ down) plain ways out =
      let there = first-stands (path ++ step ∷ []) (next ∷ down) (further path step (next ∷ down) ways) in
      let parts = and_parts (not (same_kind set step.kind)) (is_outside_sets (next ∷ down)) out in
      (plain, stands-child all path step there, there, descends (path ++ step ∷ []) (next ∷ down) (subst IsNoSet (sym (kind-last path step)) (no_set step.kind parts.0)) (further path step (next ∷ down) ways) parts.1)

pub paths_are_kept : PathsAreKept
unfolding derived_rows kind_at
paths_are_kept all no_circle path whole out =
    kept-below all no_circle [] path (first-stands all no_circle [] path whole) (descends all no_circle [] path tt whole out)
