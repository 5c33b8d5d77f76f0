-- Look-ups of elements by their numbers are look-ups by paths.
use Rattle.std.specs.Prelude.{⊤}
use Rattle.std.proofs.Common.{◌≡◌, inl, inr, ℕ, zero, suc, ◌+◌, ◌<◌, Bool, true, false, ◌&&◌, cond, nat_eq, List, [], ◌∷◌, ◌++◌, map, reverse, length, drop, get_or, Option, None, Some, option_map, option_and_then, refl, sym, ap, ap₂, ◌∙◌, subst, arith, append_assoc, zero-add}
use Rattle.std.specs.List.{IsDistinct, AllByRecursion, find, position_from}
use Rattle.std.proofs.lemmas.Bool.{true≢false, cases_Bool, eqb-true, eqb-false}
use Rattle.std.proofs.lemmas.List.{map-append, get_or_append_left, length_push, get_or-map, length-map, reverse-append}
use Rattle.std.proofs.Math.Seq.{get_or-append_seam}
use Rattle.derive_sources.specs.Numbers.{Item, no_item, IsTop, Stands, Follow, AreNumbered, path_at, item_at, is_number, is_name, is_of_kind, outer_of, is_set, set_owner, is_owned, first_owned}
use Rattle.derived_rows.specs.Dependence.{same_path}
use Rattle.derived_rows.specs.Sources.{source_names, has_name, is_set_named, named_child, followed, of_kind, reached, second_try, source_among, sought_from, source_of, kind_at, ancestors}
use Rattle.derived_rows.proofs.Kept.{kind-last}
use Rattle.derived_rows.proofs.Paths.{same_path-tells}
use Rattle.pac_base.specs.declared.path.Step.{Step as Written}
use Rattle.svd_model.specs.Keys.{Key}
use Rattle.svd_model.specs.Properties.{nearest}
use Rattle.svd_model.specs.Stating.{paths_of, ways_down, is_of}
use Rattle.svd_model.specs.Steps.{Step, Kind, peripheral, cluster, register, field, set, value, same_kind, same_step}
use Rattle.svd_rows.specs.LookUps.{ends_with}
use Rattle.svd_rows.specs.Paths.{fits, exactly}
use Rattle.svd_rows.specs.Rows.{Row}

-- the element stands one step below the one of a lower number
pub record Below (whole : List (List Step)) (number parent : ℕ) (path : List Step) (item : Item) : Type 0 where
  pub step : Step
  pub earlier : parent < number
  pub is : path ≡ get_or whole parent [] ++ step ∷ []
  pub kind : item.kind ≡ Some step.kind
  pub name : item.name ≡ step.name

abbrev pub Seat : List (List Step) → ℕ → List Step → Item → Option ℕ → Type 0
Seat whole number path item None = IsTop path item
Seat whole number path item (Some parent) = Below whole number parent path item

seat-in : (before paths : List (List Step)) (items : List Item) (e : ℕ) → Follow before paths items → e < length items → Seat (before ++ paths) (length before + e) (get_or paths e []) (item_at items e) (item_at items e).parent
unfolding Follow
seat-in before [] [] e h inside = absurd (omega (arith, inside))
seat-in before [] (item ∷ items) e h inside = absurd h
seat-in before (path ∷ paths) [] e h inside = absurd h
seat-in before (path ∷ paths) (item ∷ items) zero h inside = at item.parent h.0
  where
    at : (parent : Option ℕ) → Stands before path item parent → Seat (before ++ (path ∷ paths)) (length before + 0) path item parent
    at None p = p
    at (Some parent) p = record {
      step = p.step;
      earlier = omega (arith, p.earlier);
      is = p.is ∙ ap (λ q. q ++ p.step ∷ []) (sym (get_or_append_left before (path ∷ paths) [] parent p.earlier));
      kind = p.kind;
      name = p.name;
    }
seat-in before (path ∷ paths) (item ∷ items) (suc e) h inside =
    subst (λ n. Seat (before ++ (path ∷ paths)) n (get_or paths e []) (item_at items e) (item_at items e).parent) (longer (length before) e)
    (subst (λ (whole : List (List Step)). Seat whole (length before + 1 + e) (get_or paths e []) (item_at items e) (item_at items e).parent) (append_assoc before (path ∷ []) paths)
    (subst (λ n. Seat ((before ++ path ∷ []) ++ paths) (n + e) (get_or paths e []) (item_at items e) (item_at items e).parent) (length_push before path)
    (seat-in (before ++ path ∷ []) paths items e h.1 (omega (arith, inside)))))
  where
    longer : (n e : ℕ) → n + 1 + e ≡ n + suc e
    longer n e = omega arith

-- ---- distinct paths

all-at : (P : List Step → Type 0) (xs : List (List Step)) (e : ℕ) → AllByRecursion P xs → e < length xs → P (get_or xs e [])
all-at P [] e h inside = absurd (omega (arith, inside))
all-at P (x ∷ xs) zero h inside = h.0
all-at P (x ∷ xs) (suc e) h inside = all-at P xs e h.1 (omega (arith, inside))

one-place : (xs : List (List Step)) → IsDistinct same_path xs → (d e : ℕ) → d < length xs → e < length xs → get_or xs d [] ≡ get_or xs e [] → d ≡ e
unfolding IsDistinct
one-place [] h d e p q same = absurd (omega (arith, p))
one-place (x ∷ xs) h zero zero p q same = refl
one-place (x ∷ xs) h zero (suc e) p q same =
    absurd (true≢false (sym (same_path-tells.itself x) ∙ ap (same_path x) same ∙ all-at (λ y. same_path x y ≡ false) xs e h.0 (omega (arith, q))))
one-place (x ∷ xs) h (suc d) zero p q same =
    absurd (true≢false (sym (same_path-tells.itself x) ∙ ap (same_path x) (sym same) ∙ all-at (λ y. same_path x y ≡ false) xs d h.0 (omega (arith, p))))
one-place (x ∷ xs) h (suc d) (suc e) p q same = ap suc (one-place xs h.1 d e (omega (arith, p)) (omega (arith, q)) same)

-- ---- the way out

last-way : (path : List Step) → (ways : List (List Step)) × (ways_down path ≡ ways ++ path ∷ [])
unfolding ways_down
last-way [] = ([], refl)
last-way (s ∷ path) =
    let r = last-way path in
    ([] ∷ map (λ way. s ∷ way) r.0, ap (λ ways. [] ∷ map (λ way. s ∷ way) ways) r.1 ∙ ap (λ ways. [] ∷ ways) (map-append (λ way. s ∷ way) r.0 (path ∷ [])))

out-of : (path : List Step) → reverse (ways_down path) ≡ path ∷ ancestors path
out-of path =
    let r = last-way path in
    let turned : reverse (ways_down path) ≡ path ∷ reverse r.0 = ap reverse r.1 ∙ reverse-append r.0 (path ∷ []) in
    turned ∙ ap (λ ways. path ∷ ways) (sym (ap (drop 1) turned))

ways-push : (path : List Step) (s : Step) → ways_down (path ++ s ∷ []) ≡ ways_down path ++ (path ++ s ∷ []) ∷ []
unfolding ways_down
ways-push [] s = refl
ways-push (x ∷ path) s = ap (λ ways. [] ∷ map (λ way. x ∷ way) ways) (ways-push path s) ∙ ap (λ ways. [] ∷ ways) (map-append (λ way. x ∷ way) (ways_down path) ((path ++ s ∷ []) ∷ []))

pub ancestors-push : (path : List Step) (s : Step) → ancestors (path ++ s ∷ []) ≡ path ∷ ancestors path
ancestors-push path s =
    ap (drop 1) (ap reverse (ways-push path s) ∙ reverse-append (ways_down path) ((path ++ s ∷ []) ∷ [])) ∙ out-of path

-- ---- finding

find-places : (test : List Step → Bool) (of : Item → Bool) (before paths : List (List Step)) (items : List Item) → length paths ≡ length items → ((i : ℕ) → i < length items → test (get_or paths i []) ≡ of (item_at items i)) → find test paths ≡ option_map (λ k. get_or (before ++ paths) k []) (position_from of (length before) items)
find-places test of before [] [] long agree = refl
find-places test of before [] (item ∷ items) long agree = absurd (omega (arith, long))
find-places test of before (path ∷ paths) [] long agree = absurd (omega (arith, long))
find-places test of before (path ∷ paths) (item ∷ items) long agree =
    at (of item) (agree 0 (omega arith))
    (find-places test of (before ++ path ∷ []) paths items (omega (arith, long)) (λ i inside. agree (suc i) (omega (arith, inside))))
  where
    at : (b : Bool) → test path ≡ b → find test paths ≡ option_map (λ k. get_or ((before ++ path ∷ []) ++ paths) k []) (position_from of (length (before ++ path ∷ [])) items)
        → cond (test path) (Some path) (find test paths) ≡ option_map (λ k. get_or (before ++ (path ∷ paths)) k []) (cond b (Some (length before)) (position_from of (length before + 1) items))
    at true e others = ap (λ b. cond b (Some path) (find test paths)) e ∙ ap Some (sym (get_or-append_seam before path paths []))
    at false e others =
        ap (λ b. cond b (Some path) (find test paths)) e ∙ others
        ∙ ap₂ (λ (whole : List (List Step)) n. option_map (λ k. get_or whole k []) (position_from of n items)) (append_assoc before (path ∷ []) paths) (length_push before path)

-- a path that is one step longer passes tests that are one more
fits-push : (tests : List (Step → Bool)) (test : Step → Bool) (path : List Step) (s : Step) → fits (tests ++ test ∷ []) (path ++ s ∷ []) ≡ (fits tests path && test s)
unfolding fits
fits-push [] test [] s = and_true (test s)
  where
    and_true : (b : Bool) → (b && true) ≡ b
    and_true true = refl
    and_true false = refl
fits-push [] test (x ∷ path) s = none path
  where
    and_false : (b : Bool) → (b && false) ≡ false
    and_false true = refl
    and_false false = refl

    none : (path : List Step) → (test x && fits [] (path ++ s ∷ [])) ≡ false
    none [] = and_false (test x)
    none (y ∷ path) = and_false (test x)
fits-push (t ∷ tests) test [] s = none tests
  where
    and_false : (b : Bool) → (b && false) ≡ false
    and_false true = refl
    and_false false = refl

    none : (tests : List (Step → Bool)) → (t s && fits (tests ++ test ∷ []) []) ≡ false
    none [] = and_false (t s)
    none (u ∷ tests) = and_false (t s)
fits-push (t ∷ tests) test (x ∷ path) s = ap (λ b. t x && b) (fits-push tests test path s) ∙ regroup (t x) (fits tests path) (test s)
  where
    regroup : (a b c : Bool) → (a && (b && c)) ≡ ((a && b) && c)
    regroup true b c = refl
    regroup false b c = refl

pub fits-nothing : (tests : List (Step → Bool)) (test : Step → Bool) → fits (tests ++ test ∷ []) [] ≡ false
unfolding fits
fits-nothing [] test = refl
fits-nothing (t ∷ tests) test = refl

-- the elements round that whose parent has this number
abbrev pub around : List (Row Step Key) → Option ℕ → List (List Step)
around all None = []
around all (Some p) = path_at all p ∷ ancestors (path_at all p)

-- the number is that of an element, where there is one
abbrev pub IsInside : ℕ → Option ℕ → Type 0
IsInside n None = ⊤
IsInside n (Some p) = p < n

abbrev pub depth : Option ℕ → ℕ
depth None = 0
depth (Some p) = p + 1

module _ (all : List (Row Step Key)) (items : List Item) (numbered : AreNumbered all items) where
  pub as_many : length (paths_of all) ≡ length items
  as_many = sym (length-map (paths_of all) (source_names all)) ∙ sym (ap (λ l. length l) numbered.names) ∙ length-map items (λ (item : Item). item.names)

  pub seat : (e : ℕ) → e < length items → Seat (paths_of all) e (path_at all e) (item_at items e) (item_at items e).parent
  seat e inside = subst (λ n. Seat (paths_of all) n (path_at all e) (item_at items e) (item_at items e).parent) (zero-add e) (seat-in [] (paths_of all) items e numbered.follow inside)

  pub one_number : (d e : ℕ) → d < length items → e < length items → path_at all d ≡ path_at all e → d ≡ e
  one_number d e p q same = one-place (paths_of all) numbered.distinct d e (omega (arith, p, as_many)) (omega (arith, q, as_many)) same

  pub names_at : (e : ℕ) → e < length items → (item_at items e).names ≡ source_names all (path_at all e)
  names_at e inside =
      sym (get_or-map (λ (item : Item). item.names) items e no_item None inside)
      ∙ ap (λ l. get_or l e None) numbered.names
      ∙ get_or-map (source_names all) (paths_of all) e [] None (omega (arith, inside, as_many))

  same-number : (d e : ℕ) → d < length items → e < length items → same_path (path_at all d) (path_at all e) ≡ nat_eq d e
  same-number d e p q = elim (cases_Bool (nat_eq d e)) [
    | inl same ↦ ap (λ i. same_path (path_at all d) (path_at all i)) (sym (eqb-true d e same)) ∙ same_path-tells.itself (path_at all d) ∙ sym same
    | inr other ↦ elim (cases_Bool (same_path (path_at all d) (path_at all e))) [
      | inl equal ↦ absurd (eqb-false d e other (one_number d e p q (same_path-tells.alone (path_at all d) (path_at all e) equal)))
      | inr apart ↦ apart ∙ sym other
    ]
  ]

  -- one step below an element
  pub one-below : (test : Step → Bool) (of : Item → Bool) → ((s : Step) (item : Item) → item.kind ≡ Some s.kind → item.name ≡ s.name → test s ≡ of item) → (p : ℕ) → p < length items → (e : ℕ) → e < length items → fits (exactly same_step (path_at all p) ++ test ∷ []) (path_at all e) ≡ (is_number p (item_at items e).parent && of (item_at items e))
  unfolding same_path
  one-below test of agree p here e inside = at (item_at items e).parent (seat e inside)
    where
      at : (parent : Option ℕ) → Seat (paths_of all) e (path_at all e) (item_at items e) parent → fits (exactly same_step (path_at all p) ++ test ∷ []) (path_at all e) ≡ (is_number p parent && of (item_at items e))
      at None h = ap (fits (exactly same_step (path_at all p) ++ test ∷ [])) h.0 ∙ fits-nothing (exactly same_step (path_at all p)) test
      at (Some q) h =
          ap (fits (exactly same_step (path_at all p) ++ test ∷ [])) h.is
          ∙ fits-push (exactly same_step (path_at all p)) test (path_at all q) h.step
          ∙ ap₂ (λ a b. a && b) (same-number p q here (omega (arith, h.earlier, inside))) (agree h.step (item_at items e) h.kind h.name)

  named-agree : (name : Written) (s : Step) (item : Item) → item.kind ≡ Some s.kind → item.name ≡ s.name → has_name name s ≡ is_name name.name item.name
  unfolding has_name
  named-agree name s item kind same = ap (is_name name.name) (sym same)

  pub child_found : (p : ℕ) → p < length items → (name : Written) → named_child all name (path_at all p) ≡ option_map (path_at all) (first_owned items false p name.name)
  unfolding named_child first_owned
  child_found p here name =
      find-places (fits (exactly same_step (path_at all p) ++ has_name name ∷ [])) (is_owned items false p name.name) [] (paths_of all) items as_many
      (one-below (has_name name) (λ item. is_name name.name item.name) (named-agree name) p here)

  set-agree : (name : Written) (s : Step) (item : Item) → item.kind ≡ Some s.kind → item.name ≡ s.name → is_set_named name s ≡ (is_set item.kind && is_name name.name item.name)
  set-agree name s item kind same = ap₂ (λ k n. is_set k && n) (sym kind) (named-agree name s item kind same)

  set-below : (r : ℕ) → r < length items → (name : Written) (e : ℕ) → e < length items → fits (exactly same_step (path_at all r) ++ (λ step. true) ∷ is_set_named name ∷ []) (path_at all e) ≡ is_owned items true r name.name (item_at items e)
  set-below r here name e inside =
      ap (λ tests. fits tests (path_at all e)) (sym (append_assoc (exactly same_step (path_at all r)) ((λ step. true) ∷ []) (is_set_named name ∷ [])))
      ∙ at (item_at items e).parent (seat e inside)
      ∙ moved (is_set (item_at items e).kind)
    where
      moved : (b : Bool) → (is_number r (outer_of items (item_at items e)) && (b && is_name name.name (item_at items e).name)) ≡ (is_number r (set_owner items b (item_at items e)) && is_name name.name (item_at items e).name)
      moved true = refl
      moved false = and_false (is_number r (outer_of items (item_at items e)))
        where
          and_false : (b : Bool) → (b && false) ≡ false
          and_false true = refl
          and_false false = refl

      any : List (Step → Bool)
      any = exactly same_step (path_at all r) ++ (λ step. true) ∷ []

      and_true : (b : Bool) → (b && true) ≡ b
      and_true true = refl
      and_true false = refl

      at : (parent : Option ℕ) → Seat (paths_of all) e (path_at all e) (item_at items e) parent → fits (any ++ is_set_named name ∷ []) (path_at all e) ≡ (is_number r (option_and_then (λ q. (item_at items q).parent) parent) && (is_set (item_at items e).kind && is_name name.name (item_at items e).name))
      at None h = ap (fits (any ++ is_set_named name ∷ [])) h.0 ∙ fits-nothing any (is_set_named name)
      at (Some q) h =
          ap (fits (any ++ is_set_named name ∷ [])) h.is
          ∙ fits-push any (is_set_named name) (path_at all q) h.step
          ∙ ap₂ (λ a b. a && b)
          (one-below (λ step. true) (λ item. true) (λ s item a b. refl) r here q (omega (arith, h.earlier, inside)) ∙ and_true (is_number r (item_at items q).parent))
          (set-agree name h.step (item_at items e) h.kind h.name)

  pub set_found : (r : ℕ) → r < length items → (name : Written) → find (fits (exactly same_step (path_at all r) ++ (λ step. true) ∷ is_set_named name ∷ [])) (paths_of all) ≡ option_map (path_at all) (first_owned items true r name.name)
  unfolding first_owned
  set_found r here name =
      find-places (fits (exactly same_step (path_at all r) ++ (λ step. true) ∷ is_set_named name ∷ [])) (is_owned items true r name.name) [] (paths_of all) items as_many (set-below r here name)

  pub kind_found : (e : ℕ) → e < length items → kind_at (path_at all e) ≡ (item_at items e).kind
  unfolding kind_at
  kind_found e inside = at (item_at items e).parent (seat e inside)
    where
      at : (parent : Option ℕ) → Seat (paths_of all) e (path_at all e) (item_at items e) parent → kind_at (path_at all e) ≡ (item_at items e).kind
      at None h = ap kind_at h.0 ∙ sym h.1
      at (Some q) h = ap kind_at h.is ∙ kind-last (path_at all q) h.step ∙ sym h.kind

  pub ancestors_found : (e : ℕ) → e < length items → ancestors (path_at all e) ≡ around all (item_at items e).parent
  unfolding ways_down
  ancestors_found e inside = at (item_at items e).parent (seat e inside)
    where
      at : (parent : Option ℕ) → Seat (paths_of all) e (path_at all e) (item_at items e) parent → ancestors (path_at all e) ≡ around all parent
      at None h = ap ancestors h.0
      at (Some q) h = ap ancestors h.is ∙ ancestors-push (path_at all q) h.step

  pub earlier : (e p : ℕ) → e < length items → (item_at items e).parent ≡ Some p → p < e
  earlier e p inside is = at (item_at items e).parent (seat e inside) is
    where
      at : (parent : Option ℕ) → Seat (paths_of all) e (path_at all e) (item_at items e) parent → parent ≡ Some p → p < e
      at None h same = absurd cc
      at (Some q) h same = let q_is : q ≡ p = cc in subst (λ n. n < e) q_is h.earlier

  pub parent_inside : (e : ℕ) → e < length items → IsInside e (item_at items e).parent
  parent_inside e inside = at (item_at items e).parent (seat e inside)
    where
      at : (parent : Option ℕ) → Seat (paths_of all) e (path_at all e) (item_at items e) parent → IsInside e parent
      at None h = tt
      at (Some q) h = h.earlier

  -- ---- names that are followed

  place-inside : (of : Item → Bool) (n : ℕ) (xs : List Item) (k : ℕ) → position_from of n xs ≡ Some k → k < n + length xs
  place-inside of n [] k e = absurd cc
  place-inside of n (x ∷ xs) k e = at (of x) (place-inside of (n + 1) xs k) e
    where
      at : (b : Bool) → (position_from of (n + 1) xs ≡ Some k → k < n + 1 + length xs) → cond b (Some n) (position_from of (n + 1) xs) ≡ Some k → k < n + suc (length xs)
      at true again p = let same : n ≡ k = cc in omega (arith, same)
      at false again p = omega (arith, again p)

  pub owned_inside : (sets : Bool) (owner : ℕ) (text : List ℕ) (k : ℕ) → first_owned items sets owner text ≡ Some k → k < length items
  unfolding first_owned
  owned_inside sets owner text k e = let inside = place-inside (is_owned items sets owner text) 0 items k e in omega (arith, inside)

  -- one name more is followed
  pub step_on : (p : ℕ) → p < length items → (name : Written) (names : List Written) (found : Option ℕ) → found ≡ first_owned items false p name.name → followed all (name ∷ names) (path_at all p) ≡ option_and_then (followed all names) (option_map (path_at all) found)
  unfolding followed
  step_on p inside name names found is = ap (option_and_then (followed all names)) (child_found p inside name ∙ ap (option_map (path_at all)) (sym is))

  ends-kind : (kind : Kind) (path : List Step) → ends_with (is_of kind) path ≡ is_of_kind kind (kind_at path)
  unfolding kind_at ends_with
  ends-kind kind [] = refl
  ends-kind kind (s ∷ []) = refl
  ends-kind kind (s ∷ t ∷ path) = ends-kind kind (t ∷ path)

  -- what is reached, where it is told what is followed
  pub reached_by : (kind : Kind) (names : List Written) (from : ℕ) (found : Option ℕ) → (names ≡ [] → ⊥) → option_map (path_at all) found ≡ followed all names (path_at all from) → reached all kind names (path_at all from) ≡ option_and_then (of_kind kind) (option_map (path_at all) found)
  unfolding reached
  reached_by kind [] from found some is = absurd (some refl)
  reached_by kind (name ∷ names) from found some is = ap (option_and_then (of_kind kind)) (sym is)

  pub kind_tested : (kind : Kind) (e : ℕ) (b : Bool) → e < length items → b ≡ is_of_kind kind (item_at items e).kind → of_kind kind (path_at all e) ≡ cond b (Some (path_at all e)) None
  unfolding of_kind
  kind_tested kind e b inside is =
      ap (λ c. cond c (Some (path_at all e)) None) (ends-kind kind (path_at all e) ∙ ap (is_of_kind kind) (kind_found e inside) ∙ sym is)

  -- ---- the second try

  pub set_tried : (e : ℕ) → e < length items → (name : Written) → second_try all set (name ∷ []) (ancestors (path_at all e)) ≡ option_map (path_at all) (option_and_then (λ r. first_owned items true r name.name) (outer_of items (item_at items e)))
  unfolding second_try
  set_tried e inside name = ap (second_try all set (name ∷ [])) (ancestors_found e inside) ∙ at (item_at items e).parent (parent_inside e inside)
    where
      outer : (f : ℕ) (r : Option ℕ) → IsInside f r → f < length items → second_try all set (name ∷ []) (path_at all f ∷ around all r) ≡ option_map (path_at all) (option_and_then (λ r. first_owned items true r name.name) r)
      outer f None below here = refl
      outer f (Some r) below here = set_found r (omega (arith, below, here)) name

      at : (parent : Option ℕ) → IsInside e parent → second_try all set (name ∷ []) (around all parent) ≡ option_map (path_at all) (option_and_then (λ r. first_owned items true r name.name) (option_and_then (λ p. (item_at items p).parent) parent))
      at None below = refl
      at (Some f) below =
          let here : f < length items = omega (arith, below, inside) in
          ap (λ rest. second_try all set (name ∷ []) (path_at all f ∷ rest)) (ancestors_found f here)
          ∙ outer f (item_at items f).parent (parent_inside f here) here

  pub no_set : (kind : Kind) (names : List Written) (round : List (List Step)) → same_kind kind set ≡ false → second_try all kind names round ≡ None
  unfolding second_try
  no_set peripheral names round e = refl
  no_set cluster names round e = refl
  no_set register names round e = refl
  no_set field names round e = refl
  no_set set names round e = absurd (true≢false e)
  no_set value names round e = refl

  pub not_one : (kind : Kind) (names : List Written) (round : List (List Step)) → (length names ≡ 1 → ⊥) → second_try all kind names round ≡ None
  unfolding second_try
  not_one set [] round e = refl
  not_one set (name ∷ []) round e = absurd (e refl)
  not_one set (name ∷ next ∷ names) round e = refl
  not_one peripheral names round e = refl
  not_one cluster names round e = refl
  not_one register names round e = refl
  not_one field names round e = refl
  not_one value names round e = refl

  -- the source, where kind and names are told
  pub source_told : (e : ℕ) → e < length items → source_of all (path_at all e) ≡ sought_from all (path_at all e) (item_at items e).kind (item_at items e).names
  unfolding source_of
  source_told e inside = ap₂ (sought_from all (path_at all e)) (kind_found e inside) (sym (names_at e inside))

  -- what the source is, where there are a kind and names
  pub source_kindless : (e : ℕ) → e < length items → (item_at items e).kind ≡ None → source_of all (path_at all e) ≡ None
  source_kindless e inside none = source_told e inside ∙ ap (λ k. sought_from all (path_at all e) k (item_at items e).names) none

  pub source_nameless : (e : ℕ) → e < length items → (item_at items e).names ≡ None → source_of all (path_at all e) ≡ None
  source_nameless e inside none = source_told e inside ∙ at (item_at items e).kind ∙ refl
    where
      at : (kind : Option Kind) → sought_from all (path_at all e) kind (item_at items e).names ≡ None
      at None = refl
      at (Some kind) = ap (sought_from all (path_at all e) (Some kind)) none

  pub source_sought : (e : ℕ) (kind : Kind) (names : List Written) → e < length items → (item_at items e).kind ≡ Some kind → (item_at items e).names ≡ Some names → source_of all (path_at all e) ≡ source_among all kind names (ancestors (path_at all e))
  source_sought e kind names inside of given = source_told e inside ∙ ap₂ (sought_from all (path_at all e)) of given

  -- the parent of an element is within the elements
  pub inside_more : (e n : ℕ) (parent : Option ℕ) → e < length items → length items ≡ n → parent ≡ (item_at items e).parent → IsInside n parent
  inside_more e n parent inside long is = subst (IsInside n) (sym is) (at (item_at items e).parent (parent_inside e inside))
    where
      at : (p : Option ℕ) → IsInside e p → IsInside n p
      at None h = tt
      at (Some p) h = omega (arith, h, inside, long)

  -- it is less deep
  pub less_deep : (e : ℕ) (parent : Option ℕ) → e < length items → parent ≡ (item_at items e).parent → depth parent < e + 1
  less_deep e parent inside is = subst (λ p. depth p < e + 1) (sym is) (at (item_at items e).parent (parent_inside e inside))
    where
      at : (p : Option ℕ) → IsInside e p → depth p < e + 1
      at None h = omega arith
      at (Some p) h = omega (arith, h)

  -- where nothing is reached from the nearest, the others count
  pub nearer : (test : List Step → Option (List Step)) (round : Option ℕ) (from : ℕ) (parent : Option ℕ) → round ≡ Some from → from < length items → test (path_at all from) ≡ None → parent ≡ (item_at items from).parent → nearest (map test (around all parent)) ≡ nearest (map test (around all round))
  nearer test round from parent is inside none parent_is =
      ap (λ p. nearest (map test (around all p))) parent_is
      ∙ sym (ap (λ paths. nearest (map test paths)) (ancestors_found from inside))
      ∙ sym (ap (λ o. nearest (o ∷ map test (ancestors (path_at all from)))) none)
      ∙ sym (ap (λ r. nearest (map test (around all r))) is)

  pub reached_nothing : (kind : Kind) (names : List Written) (path : List Step) → length names < 1 → reached all kind names path ≡ None
  unfolding reached
  reached_nothing kind [] path few = refl
  reached_nothing kind (name ∷ names) path few = absurd (omega (arith, few))
