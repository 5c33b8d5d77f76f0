-- A walk over all elements can go on, and meets all of them.
use Rattle.std.proofs.Common.{◌≡◌, ◌⊎◌, ◌↔◌, inl, inr, ℕ, zero, suc, ◌+◌, ◌*◌, ◌<◌, ◌≤◌, Bool, true, false, not, cond, nat_eq, List, [], ◌∷◌, ◌++◌, map, filter, length, set, get_or, unwrap_or, Option, None, Some, slice_get, refl, replicate, sym, ap, ap₂, ◌∙◌, subst, arith, append_assoc, append-nil, Vec}
use Rattle.std.specs.Prelude.{reverse}
use Rattle.std.proofs.lemmas.Bool.{cases_eq, cases_lt, eqb-true, eq-eqb, or_cases, true≢false}
use Rattle.std.proofs.lemmas.List.{get_or-set_same, get_or-set_other, length-append, length-map, length_push, reverse-append}
use Rattle.std.proofs.lemmas.Option.{slice_get_past}
use Rattle.derive_order.specs.declared.gone.Walk.{Walk}
use Rattle.derive_order.specs.Gone.{base_at, base_in}
use Rattle.derive_order.specs.Walking.{Fits, Goes, HasBasesWithin, IsAt, IsReached, StandByBases, is_next, left_of}
use Rattle.derive_order.proofs.Kids.{along}
use Rattle.need_order.specs.declared.element.Element.{Element}
use Rattle.need_order.specs.Children.{items_at}
use Rattle.need_order.specs.Needs.{among, needs, needs_in, with_base, IsOrder}
use Rattle.need_order.proofs.Following.{order_follows, parted}
use Rattle.need_order.proofs.Numbers.{among-cases, among-head, among-left, among-one, among-right, flags_none, or_left, or_right}

-- ---- bases

-- an element needs its base
base_needed : (elements : List Element) (e base : ℕ) → base_at elements e ≡ Some base → among base (needs elements e) ≡ true
unfolding base_at needs
base_needed elements e base is = at (slice_get elements e) is
  where
    at : (o : Option Element) → base_in o ≡ Some base → among base (needs_in o) ≡ true
    at None h = absurd cc
    at (Some element) h = ap (λ b. among base (with_base b element.parts.items)) h ∙ among-head base element.parts.items

based_inside : (elements : List Element) (e base : ℕ) → base_at elements e ≡ Some base → e < length elements
unfolding base_at
based_inside elements e base is = elim (cases_lt e (length elements)) [
  | inl inside ↦ inside
  | inr past ↦ let none : None ≡ Some base = sym (ap base_in (slice_get_past elements e past)) ∙ is in absurd cc
]

-- what an element needs stands before it in an order
needed_before : (elements : List Element) (order : List ℕ) → IsOrder (needs elements) (length elements) order → (e base : ℕ) → base_at elements e ≡ Some base → among base order ≡ true
needed_before elements order h e base is =
    let part = parted e order ((h.whole e).1 (based_inside elements e base is)) in
    subst (λ xs. among base xs ≡ true) (sym part.whole) (among-left base part.before (e ∷ part.after) (h.behind part.before part.after e base part.whole (base_needed elements e base is)))

pub bases_within : (elements : List Element) (order : List ℕ) → IsOrder (needs elements) (length elements) order → HasBasesWithin elements
bases_within elements order h e base is = (h.whole base).0 (needed_before elements order h e base is)

-- ---- elements by their bases

pub stood : {Z : Type 0} (elements : List Element) (n : ℕ) (old new : List (Vec ℕ Z)) (at : ℕ) → at ≡ unwrap_or (base_at elements n) (length elements) → StandByBases elements n old
    → ((k : ℕ) → k < length old → items_at new k ≡ cond (nat_eq k at) (items_at old k ++ n ∷ []) (items_at old k)) → length new ≡ length old → StandByBases elements (n + 1) new
stood elements n old new at is h there long = record {
  long = long ∙ h.long;
  those = λ k d below. by k d below (nat_eq k at) refl;
  short = λ k below. short_by k below (nat_eq k at) refl;
}
  where
    seat : ℕ → ℕ
    seat d = unwrap_or (base_at elements d) (length elements)

    grown : (k : ℕ) → k ≤ length elements → (b : Bool) → nat_eq k at ≡ b → items_at new k ≡ cond b (items_at old k ++ n ∷ []) (items_at old k)
    grown k below b e = there k (omega (arith, below, h.long)) ∙ ap (λ c. cond c (items_at old k ++ n ∷ []) (items_at old k)) e

    short_by : (k : ℕ) → k ≤ length elements → (b : Bool) → nat_eq k at ≡ b → length (items_at new k) ≤ n + 1
    short_by k below true e = omega (arith, ap (λ xs. length xs) (grown k below true e), length_push (items_at old k) n, h.short k below)
    short_by k below false e = omega (arith, ap (λ xs. length xs) (grown k below false e), h.short k below)

    by : (k d : ℕ) → k ≤ length elements → (b : Bool) → nat_eq k at ≡ b → (among d (items_at new k) ≡ true) ↔ ((d < n + 1) × (seat d ≡ k))
    by k d below true e = (to, from)
      where
        to : among d (items_at new k) ≡ true → (d < n + 1) × (seat d ≡ k)
        to p = elim (among-cases d (items_at old k) (n ∷ []) (subst (λ xs. among d xs ≡ true) (grown k below true e) p)) [
          | inl q ↦ let r = (h.those k d below).0 q in (omega (arith, r.0), r.1)
          | inr q ↦ let same = among-one d n q in (omega (arith, same), ap seat same ∙ sym is ∙ sym (eqb-true k at e))
        ]

        from : (d < n + 1) × (seat d ≡ k) → among d (items_at new k) ≡ true
        from p = subst (λ xs. among d xs ≡ true) (sym (grown k below true e)) (elim (cases_eq d n) [
          | inl same ↦ among-right d (items_at old k) (n ∷ []) (subst (λ x. among d (x ∷ []) ≡ true) same (among-head d []))
          | inr other ↦ among-left d (items_at old k) (n ∷ []) ((h.those k d below).1 (omega (arith, p.0, other), p.1))
        ])
    by k d below false e = (to, from)
      where
        to : among d (items_at new k) ≡ true → (d < n + 1) × (seat d ≡ k)
        to p = let r = (h.those k d below).0 (subst (λ xs. among d xs ≡ true) (grown k below false e) p) in (omega (arith, r.0), r.1)

        from : (d < n + 1) × (seat d ≡ k) → among d (items_at new k) ≡ true
        from p = subst (λ xs. among d xs ≡ true) (sym (grown k below false e)) (elim (cases_eq d n) [
          | inl same ↦ absurd (true≢false (sym (eq-eqb k at (sym p.1 ∙ ap seat same ∙ sym is)) ∙ e))
          | inr other ↦ (h.those k d below).1 (omega (arith, p.0, other), p.1)
        ])

pub none_stand : {Z : Type 0} (elements : List Element) (lists : List (Vec ℕ Z)) → ((k : ℕ) → items_at lists k ≡ []) → length lists ≡ length elements + 1 → StandByBases elements 0 lists
none_stand elements lists empty long = record {
  long = long;
  those = λ k d below. ((λ p. absurd (true≢false (sym p ∙ ap (among d) (empty k)))), (λ p. absurd (omega (arith, p.0))));
  short = λ k below. omega (arith, ap (λ xs. length xs) (empty k));
}

-- ---- steps

module _ (elements : List Element) where
  -- steps down to these, made last first
  abbrev downs : List ℕ → List (Option ℕ) → List (Option ℕ)
  downs ds rest = reverse (map Some ds) ++ rest

  downs_more : (d : ℕ) (ds : List ℕ) (rest : List (Option ℕ)) → downs (d ∷ ds) rest ≡ downs ds (Some d ∷ rest)
  downs_more d ds rest = ap (λ xs. xs ++ rest) (reverse-append (Some d ∷ []) (map Some ds)) ∙ append_assoc (reverse (map Some ds)) (Some d ∷ []) rest

  fits_downs : (o : Option ℕ) (ds : List ℕ) (rest : List (Option ℕ)) → ((d : ℕ) → among d ds ≡ true → (d < length elements) × (base_at elements d ≡ o)) → Fits elements o rest → Fits elements o (downs ds rest)
  unfolding Fits
  fits_downs o [] rest are h = h
  fits_downs o (d ∷ ds) rest are h =
      let here = are d (among-head d ds) in
      subst (Fits elements o) (sym (downs_more d ds rest)) (fits_downs o ds (Some d ∷ rest) (λ x p. are x (or_right (nat_eq x d) (among x ds) p)) (here.1, here.0, h))

  next_behind : (e : ℕ) (ds : List ℕ) (rest : List (Option ℕ)) → is_next e rest ≡ true → is_next e (downs ds rest) ≡ true
  next_behind e [] rest h = h
  next_behind e (d ∷ ds) rest h = ap (is_next e) (downs_more d ds rest) ∙ next_behind e ds (Some d ∷ rest) (or_right (nat_eq e d) (is_next e rest) h)

  next_among : (e : ℕ) (ds : List ℕ) (rest : List (Option ℕ)) → among e ds ≡ true → is_next e (downs ds rest) ≡ true
  next_among e [] rest h = absurd (true≢false (sym h))
  next_among e (d ∷ ds) rest h = ap (is_next e) (downs_more d ds rest) ∙ elim (or_cases (nat_eq e d) (among e ds) h) [
    | inl p ↦ next_behind e ds (Some d ∷ rest) (or_left (nat_eq e d) (is_next e rest) p)
    | inr q ↦ next_among e ds (Some d ∷ rest) q
  ]

  -- an element that was met already is passed over
  pub passed_over : (done : List Bool) (current : Option ℕ) (e : ℕ) (rest : List (Option ℕ)) → Goes elements done current (Some e ∷ rest) → get_or done e true ≡ true → length done ≡ length elements → Goes elements done current rest
  unfolding Fits
  passed_over done current e rest g met long = record {
    fits = g.fits.2;
    met = λ x below reached. elim (g.met x below reached) [
      | inl p ↦ inl p
      | inr p ↦ elim (or_cases (nat_eq x e) (is_next x rest) p) [
        | inl same ↦ inl (ap (λ i. get_or done i false) (eqb-true x e same) ∙ other_default done e (omega (arith, g.fits.1, long)) met)
        | inr q ↦ inr q
      ]
    ];
  }
    where
      other_default : (fs : List Bool) (i : ℕ) → i < length fs → get_or fs i true ≡ true → get_or fs i false ≡ true
      other_default [] i below h = absurd (omega (arith, below))
      other_default (f ∷ fs) zero below h = h
      other_default (f ∷ fs) (suc i) below h = other_default fs i (omega (arith, below)) h

  -- down to an element
  pub went_down : {Z : Type 0} (within : HasBasesWithin elements) (lists : List (Vec ℕ Z)) → StandByBases elements (length elements) lists → (done : List Bool) (current : Option ℕ) (e : ℕ) (rest : List (Option ℕ))
      → Goes elements done current (Some e ∷ rest) → length done ≡ length elements → Goes elements (set done e true) (Some e) (downs (items_at lists e) (None ∷ rest))
  unfolding Fits
  went_down within lists stand done current e rest g long = record {
    fits = fits_downs (Some e) (items_at lists e) (None ∷ rest) (λ d p. begun d p) (e, refl, subst (λ o. Fits elements o rest) (sym g.fits.0) g.fits.2);
    met = λ x below reached. elim (cases_eq x e) [
      | inl same ↦ inl (ap (λ i. get_or (set done e true) i false) same ∙ done_here)
      | inr other ↦ by x other below (base_at elements x) refl reached
    ];
  }
    where
      inside : e < length elements
      inside = g.fits.1

      done_here : get_or (set done e true) e false ≡ true
      done_here = get_or-set_same done e true false (omega (arith, inside, long))

      begun : (d : ℕ) → among d (items_at lists e) ≡ true → (d < length elements) × (base_at elements d ≡ Some e)
      begun d p = let r = (stand.those e d (omega (arith, inside))).0 p in (r.0, at (base_at elements d) r.1)
        where
          at : (o : Option ℕ) → unwrap_or o (length elements) ≡ e → o ≡ Some e
          at None same = absurd (omega (arith, same, inside))
          at (Some base) same = ap Some same

      as_before : (x : ℕ) → (x ≡ e → ⊥) → (get_or done x false ≡ true) ⊎ (is_next x (Some e ∷ rest) ≡ true) → (get_or (set done e true) x false ≡ true) ⊎ (is_next x (downs (items_at lists e) (None ∷ rest)) ≡ true)
      as_before x other (inl p) = inl (get_or-set_other done e x true false other ∙ p)
      as_before x other (inr p) = elim (or_cases (nat_eq x e) (is_next x rest) p) [
        | inl same ↦ absurd (other (eqb-true x e same))
        | inr q ↦ inr (next_behind x (items_at lists e) (None ∷ rest) q)
      ]

      by : (x : ℕ) → (x ≡ e → ⊥) → x < length elements → (o : Option ℕ) → base_at elements x ≡ o → IsReached (set done e true) (base_at elements x) → (get_or (set done e true) x false ≡ true) ⊎ (is_next x (downs (items_at lists e) (None ∷ rest)) ≡ true)
      by x other below None is reached = as_before x other (g.met x below (subst (IsReached done) (sym is) tt))
      by x other below (Some base) is reached = elim (cases_eq base e) [
        | inl same ↦ inr (next_among x (items_at lists e) (None ∷ rest) ((stand.those e x (omega (arith, inside))).1 (below, ap (λ o. unwrap_or o (length elements)) is ∙ same)))
        | inr apart ↦ as_before x other (g.met x below (subst (IsReached done) (sym is) (sym (get_or-set_other done e base true false apart) ∙ subst (IsReached (set done e true)) is reached)))
      ]

  -- up from an element
  pub went_up : (done : List Bool) (current : Option ℕ) (rest : List (Option ℕ)) (e : ℕ) → current ≡ Some e → Goes elements done current (None ∷ rest) → Goes elements done (base_at elements e) rest
  unfolding Fits
  went_up done current rest e here g = record {
    fits = let same : g.fits.0 ≡ e = some_same g.fits.0 e (sym g.fits.1 ∙ here) in subst (λ d. Fits elements (base_at elements d) rest) same g.fits.2;
    met = g.met;
  }
    where
      some_same : (a b : ℕ) → Some a ≡ Some b → a ≡ b
      some_same a b h = cc

  pub never_up : (done : List Bool) (current : Option ℕ) (rest : List (Option ℕ)) → current ≡ None → Goes elements done current (None ∷ rest) → ⊥
  unfolding Fits
  never_up done current rest none g = let h : None ≡ Some g.fits.0 = sym none ∙ g.fits.1 in absurd cc

  pub starts : {Z : Type 0} (lists : List (Vec ℕ Z)) → HasBasesWithin elements → StandByBases elements (length elements) lists → (done : List Bool) → ((e : ℕ) → get_or done e false ≡ false) → Goes elements done None (downs (items_at lists (length elements)) [])
  unfolding Fits
  starts lists within stand done undone = record {
    fits = fits_downs None (items_at lists (length elements)) [] (λ d p. let r = (stand.those (length elements) d (omega arith)).0 p in (r.0, at d (base_at elements d) refl r.1)) tt;
    met = λ x below reached. by x below (base_at elements x) refl reached;
  }
    where
      at : (d : ℕ) → (o : Option ℕ) → base_at elements d ≡ o → unwrap_or o (length elements) ≡ length elements → o ≡ None
      at d None is same = refl
      at d (Some base) is same = absurd (omega (arith, same, within d base is))

      by : (x : ℕ) → x < length elements → (o : Option ℕ) → base_at elements x ≡ o → IsReached done (base_at elements x) → (get_or done x false ≡ true) ⊎ (is_next x (downs (items_at lists (length elements)) []) ≡ true)
      by x below None is reached = inr (next_among x (items_at lists (length elements)) [] ((stand.those (length elements) x (omega arith)).1 (below, ap (λ o. unwrap_or o (length elements)) is)))
      by x below (Some base) is reached = absurd (true≢false (sym (subst (IsReached done) is reached) ∙ undone base))

  -- as calls have it
  pub may_enter : (done : List Bool) (current : Option ℕ) (e : ℕ) (rest : List (Option ℕ)) → Goes elements done current (Some e ∷ rest) → (e < length elements) × (base_at elements e ≡ current)
  unfolding Fits
  may_enter done current e rest g = (g.fits.1, g.fits.0)

  reversed : (todo middle todo' : List (Option ℕ)) (ds : List ℕ) → middle ≡ todo ++ None ∷ [] → todo' ≡ middle ++ map Some ds → reverse todo' ≡ downs ds (None ∷ reverse todo)
  reversed todo middle todo' ds pushed added = ap reverse (added ∙ ap (λ xs. xs ++ map Some ds) pushed) ∙ reverse-append (todo ++ None ∷ []) (map Some ds) ∙ ap (λ xs. reverse (map Some ds) ++ xs) (reverse-append todo (None ∷ []))

  pub entered : {Z : Type 0} → HasBasesWithin elements → (lists : List (Vec ℕ Z)) → StandByBases elements (length elements) lists → (old new : Walk) (e : ℕ) (todo middle todo' : List (Option ℕ)) (ds : List ℕ)
      → Goes elements old.done.items old.current (Some e ∷ reverse todo) → length old.done.items ≡ length elements → IsAt new (Some e) (set old.done.items e true)
      → middle ≡ todo ++ None ∷ [] → ds ≡ items_at lists e → todo' ≡ middle ++ map Some ds → Goes elements new.done.items new.current (reverse todo')
  entered within lists stand old new e todo middle todo' ds g long at pushed is added =
      subst (Goes elements new.done.items new.current) (sym (reversed todo middle todo' ds pushed added ∙ ap (λ xs. downs xs (None ∷ reverse todo)) is))
      (subst (λ o. Goes elements new.done.items o (downs (items_at lists e) (None ∷ reverse todo))) (sym at.0)
      (subst (λ done. Goes elements done (Some e) (downs (items_at lists e) (None ∷ reverse todo))) (sym at.1)
      (went_down within lists stand old.done.items old.current e (reverse todo) g long)))

  pub left_at : (old new : Walk) (e : ℕ) (rest : List (Option ℕ)) → old.current ≡ Some e → Goes elements old.done.items old.current (None ∷ rest) → IsAt new (base_at elements e) old.done.items → Goes elements new.done.items new.current rest
  left_at old new e rest here g at =
      subst (λ o. Goes elements new.done.items o rest) (sym at.0)
      (subst (λ done. Goes elements done (base_at elements e) rest) (sym at.1) (went_up old.done.items old.current rest e here g))

  pub begins_at : {Z : Type 0} (lists : List (Vec ℕ Z)) → HasBasesWithin elements → StandByBases elements (length elements) lists → (walk : Walk) (todo : List (Option ℕ)) (ds : List ℕ) → IsAt walk None (replicate (length elements) false) → ds ≡ items_at lists (length elements) → todo ≡ map Some ds → Goes elements walk.done.items walk.current (reverse todo)
  begins_at lists within stand walk todo ds at is added =
      subst (Goes elements walk.done.items walk.current) (sym (ap reverse (added ∙ ap (map Some) is) ∙ sym (append-nil (reverse (map Some (items_at lists (length elements)))))))
      (subst (λ o. Goes elements walk.done.items o (downs (items_at lists (length elements)) [])) (sym at.0)
      (starts lists within stand walk.done.items (λ e. ap (λ done. get_or done e false) at.1 ∙ flags_none (length elements) e)))

  -- at the end all are met
  pub all_met : (order : List ℕ) → IsOrder (needs elements) (length elements) order → (done : List Bool) (current : Option ℕ) → Goes elements done current [] → (e : ℕ) → e < length elements → get_or done e false ≡ true
  all_met order h done current g e inside = along (needs elements) (λ d. get_or done d false ≡ true) [] order (order_follows (needs elements) (length elements) order h) (λ d p needed. here d ((h.whole d).0 p) needed (base_at elements d) refl) (λ d p. absurd (true≢false (sym p))) e ((h.whole e).1 inside)
    where
      met : (d : ℕ) → (get_or done d false ≡ true) ⊎ (is_next d [] ≡ true) → get_or done d false ≡ true
      met d (inl p) = p
      met d (inr p) = absurd (true≢false (sym p))

      here : (d : ℕ) → d < length elements → ((x : ℕ) → among x (needs elements d) ≡ true → get_or done x false ≡ true) → (o : Option ℕ) → base_at elements d ≡ o → get_or done d false ≡ true
      here d below needed None is = met d (g.met d below (subst (IsReached done) (sym is) tt))
      here d below needed (Some base) is = met d (g.met d below (subst (IsReached done) (sym is) (needed base (base_needed elements d base is))))

-- ---- what is left

undone_set : (done : List Bool) (e : ℕ) → get_or done e true ≡ false → length (filter not (set done e true)) + 1 ≡ length (filter not done)
undone_set [] e h = absurd (true≢false h)
undone_set (true ∷ done) zero h = absurd (true≢false h)
undone_set (false ∷ done) zero h = omega arith
undone_set (true ∷ done) (suc e) h = undone_set done e h
undone_set (false ∷ done) (suc e) h = omega (arith, undone_set done e h)

pub less_left : (n : ℕ) (done : List Bool) (e : ℕ) → get_or done e true ≡ false → (old new ds : ℕ) → new ≡ old + 1 + ds → ds ≤ n → length (filter not (set done e true)) * (n + 2) + new ≤ length (filter not done) * (n + 2) + old
less_left n done e h old new ds is few =
    let u = length (filter not (set done e true)) in
    let more : length (filter not done) * (n + 2) ≡ u * (n + 2) + (n + 2) = ap (λ k. k * (n + 2)) (sym (undone_set done e h)) ∙ times u (n + 2) in
    omega (arith, more, is, few)
  where
    times : (u m : ℕ) → (u + 1) * m ≡ u * m + m
    times u m = omega arith

pub less_by : {Z : Type 0} (elements : List Element) (lists : List (Vec ℕ Z)) → StandByBases elements (length elements) lists → (old new : Walk) (e : ℕ) (todo middle todo' : List (Option ℕ)) (ds : List ℕ) → e < length elements → get_or old.done.items e true ≡ false → IsAt new (Some e) (set old.done.items e true)
    → middle ≡ todo ++ None ∷ [] → ds ≡ items_at lists e → todo' ≡ middle ++ map Some ds → left_of elements new todo' ≤ left_of elements old todo
less_by elements lists stand old new e todo middle todo' ds inside undone at pushed is added =
    subst (λ done. length (filter not done) * (length elements + 2) + length todo' ≤ left_of elements old todo) (sym at.1)
    (less_left (length elements) old.done.items e undone (length todo) (length todo') (length ds)
    (ap (λ xs. length xs) added ∙ length-append middle (map Some ds) ∙ ap₂ (λ a b. a + b) (ap (λ xs. length xs) pushed ∙ length_push todo None) (length-map ds Some))
    (omega (arith, stand.short e (omega (arith, inside)), ap (λ xs. length xs) is)))
