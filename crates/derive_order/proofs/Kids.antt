-- What each element comes to is its keys with its derived children, told by their numbers.
use Rattle.std.proofs.Common.{◌≡◌, inl, inr, ℕ, zero, suc, ◌+◌, ◌<◌, Bool, true, false, not, ◌&&◌, ◌||◌, cond, nat_eq, nat_lt, List, [], ◌∷◌, ◌++◌, map, length, take, sum_by, get_or, Option, None, Some, option_map, refl, sym, ap, ap₂, ◌∙◌, subst, arith, append_assoc, append-nil, zero-add}
use Rattle.std.specs.List.{AllByRecursion, IsDistinct, find, list_any}
use Rattle.std.specs.Str.{bytes_eq}
use Rattle.std.proofs.lemmas.Bool.{cases_Bool, cases_lt, eq-eqb, ne_eqb, true≢false}
use Rattle.std.proofs.lemmas.List.{get_or_past}
use Rattle.std.proofs.lemmas.List.Sums.{sum_by-cons}
use Rattle.derive_order.specs.Kids.{last_step, Kid, own_kids, kids_with, kids_made, kids_at, kid_numbers, is_counted_kind, TellsCounted}
use Rattle.derive_order.proofs.Children.{child_is}
use Rattle.derive_order.proofs.Elements.{IsWhole, AreWhole, parts_again, amount, amount_by, is_long, long_whole, long_by, first_long}
use Rattle.derive_order.proofs.Merged.{Apart, apart_by, same_place}
use Rattle.derive_order.proofs.Over.{over, children_over}
use Rattle.derive_order.proofs.Ties.{child_numbers, needs_are, sources_long}
use Rattle.derive_sources.specs.Graphs.{children_among, IsGraph}
use Rattle.derive_sources.specs.Missing.{TellsSources}
use Rattle.derive_sources.specs.Numbers.{Item, AreNumbered, Rows, path_at, item_at, is_number}
use Rattle.derive_sources.proofs.Seats.{as_many, kind_found, one_number, Seat, seat}
use Rattle.derive_sources.proofs.Told.{told_at}
use Rattle.derived_rows.specs.Dependence.{same_path, IsAmong, HasNoCircle}
use Rattle.derived_rows.specs.Deriving.{Part, derived_at, derived_by, derived_rows, element_rows, own_parts, parts_of, with_source}
use Rattle.derived_rows.specs.Faults.{first_deep, step_limit}
use Rattle.derived_rows.specs.Merging.{has_named, is_marked_at, taken, replaced_by, kept, added, merged, renumbered, children_by}
use Rattle.derived_rows.specs.Sources.{child_paths, children_at, kind_at, source_of}
use Rattle.derived_rows.proofs.Levels.{levels_are_enough}
use Rattle.derived_rows.proofs.Paths.{same_path-tells, member-head, member-tail}
use Rattle.need_order.specs.declared.element.Element.{Element}
use Rattle.need_order.specs.Children.{flag_weight, is_deep, size}
use Rattle.need_order.specs.Levels.{IsMadeOfNeeds}
use Rattle.need_order.specs.Needs.{among, needs, with_base, IsOrder}
use Rattle.need_order.specs.Settling.{Follows}
use Rattle.need_order.proofs.Following.{order_follows, order_length}
use Rattle.need_order.proofs.Levels.{made_along}
use Rattle.need_order.proofs.Numbers.{among-cases, among-head, among-one, lacks-none, or_right}
use Rattle.need_order.proofs.Sums.{size_is}
use Rattle.svd_model.specs.Facts.{elements_of, is_counted}
use Rattle.svd_model.specs.Keys.{Key}
use Rattle.svd_model.specs.Stating.{keys_at, paths_of}
use Rattle.svd_model.specs.Steps.{Step, Kind, peripheral, cluster, register, field, set, value, same_step}
use Rattle.svd_model.proofs.Steps.{same_step-tells}
use Rattle.svd_rows.specs.LookUps.{keys_of}
use Rattle.svd_rows.specs.Rows.{Row}
use Rattle.svd_rows.proofs.Lists.{map-map}

-- ---- along an order

-- what holds of an element where it holds of all that it needs holds along an order
pub along : (needs : ℕ → List ℕ) (P : ℕ → Type 0) (before rest : List ℕ) → Follows needs before rest → ((e : ℕ) → among e rest ≡ true → ((d : ℕ) → among d (needs e) ≡ true → P d) → P e) → ((d : ℕ) → among d before ≡ true → P d) → (e : ℕ) → among e (before ++ rest) ≡ true → P e
unfolding Follows
along needs P before [] follows step so_far e there = so_far e (subst (λ xs. among e xs ≡ true) (append-nil before) there)
along needs P before (x ∷ rest) follows step so_far e there =
    along needs P (before ++ x ∷ []) rest follows.1 (λ d p. step d (or_right (nat_eq d x) (among d rest) p)) more e (subst (λ xs. among e xs ≡ true) (sym (append_assoc before (x ∷ []) rest)) there)
  where
    more : (d : ℕ) → among d (before ++ x ∷ []) ≡ true → P d
    more d p = elim (among-cases d before (x ∷ []) p) [
      | inl q ↦ so_far d q
      | inr q ↦ subst P (sym (among-one d x q)) (step x (among-head x rest) (λ i k. so_far i (lacks-none before (needs x) follows.0 i k)))
    ]

-- ---- lists

all_among : (P : ℕ → Type 0) (xs : List ℕ) → ((d : ℕ) → among d xs ≡ true → P d) → AllByRecursion P xs
all_among P [] h = tt
all_among P (x ∷ xs) h = (h x (among-head x xs), all_among P xs (λ d p. h d (or_right (nat_eq d x) (among d xs) p)))

each : {X : Type 0} {P Q : X → Type 0} → ((x : X) → P x → Q x) → (xs : List X) → AllByRecursion P xs → AllByRecursion Q xs
each f [] h = tt
each f (x ∷ xs) h = (f x h.0, each f xs h.1)

each-map : {X Y : Type 0} (P : Y → Type 0) (f : X → Y) (xs : List X) → AllByRecursion (λ x. P (f x)) xs → AllByRecursion P (map f xs)
each-map P f [] h = tt
each-map P f (x ∷ xs) h = (h.0, each-map P f xs h.1)

-- ---- properties of children

module _ {X : Type 0} (P : (Step × X) → Type 0) (moved : (child : Step × X) (n : ℕ) → P child → P (record { kind = child.0.kind; name = child.0.name; number = n }, child.1)) where
  replaced-has : (own : List (Step × X)) (c : Step × X) → AllByRecursion P own → P c → P (replaced_by own c)
  unfolding replaced_by
  replaced-has [] c h p = p
  replaced-has (o ∷ own) c h p = by (replaced-has own c h.1 p) (bytes_eq c.0.name o.0.name)
    where
      by : P (replaced_by own c) → (b : Bool) → P (cond b o (replaced_by own c))
      by rest true = h.0
      by rest false = rest

  each_append : (xs ys : List (Step × X)) → AllByRecursion P xs → AllByRecursion P ys → AllByRecursion P (xs ++ ys)
  each_append [] ys h k = k
  each_append (x ∷ xs) ys h k = (h.0, each_append xs ys h.1 k)

  one-has : (b : Bool) (c : Step × X) → P c → AllByRecursion P (cond b [] (c ∷ []))
  one-has true c p = tt
  one-has false c p = (p, tt)

  kept-has : (before source own : List (Step × X)) → AllByRecursion P source → AllByRecursion P own → AllByRecursion P (kept before source own)
  unfolding kept
  kept-has before [] own h k = tt
  kept-has before (c ∷ source) own h k =
      each_append (cond (has_named own c && has_named before c) [] (replaced_by own c ∷ [])) (kept (before ++ c ∷ []) source own)
      (one-has (has_named own c && has_named before c) (replaced_by own c) (replaced-has own c k h.0)) (kept-has (before ++ c ∷ []) source own h.1 k)

  added-has : (before source own : List (Step × X)) → AllByRecursion P own → AllByRecursion P (added before source own)
  unfolding added
  added-has before source [] k = tt
  added-has before source (c ∷ own) k =
      each_append (cond (has_named source c && not (has_named before c)) [] (c ∷ [])) (added (before ++ c ∷ []) source own)
      (one-has (has_named source c && not (has_named before c)) c k.0) (added-has (before ++ c ∷ []) source own k.1)

  merged-has : (source own : List (Step × X)) → AllByRecursion P source → AllByRecursion P own → AllByRecursion P (merged source own)
  unfolding merged
  merged-has source own h k = each_append (kept [] source own) (added [] source own) (kept-has [] source own h k) (added-has [] source own k)

  renumbered-has : (n : ℕ) (xs : List (Step × X)) → AllByRecursion P xs → AllByRecursion P (renumbered n xs)
  unfolding renumbered
  renumbered-has n [] h = tt
  renumbered-has n (x ∷ xs) h = (moved x n h.0, renumbered-has (n + 1) xs h.1)

  pub children-have : (kind : Option Kind) (source own : List (Step × X)) → AllByRecursion P source → AllByRecursion P own → AllByRecursion P (children_by kind source own)
  children-have None source own h k = merged-has source own h k
  children-have (Some peripheral) source own h k = merged-has source own h k
  children-have (Some cluster) source own h k = merged-has source own h k
  children-have (Some register) source own h k = merged-has source own h k
  children-have (Some field) source [] h k = h
  children-have (Some field) source (first ∷ others) h k = k
  children-have (Some set) source own h k = renumbered-has 0 (merged source own) (merged-has source own h k)
  children-have (Some value) source own h k = merged-has source own h k

apart-over : {X Y : Type 0} (f : X → Y) (xs : List (Step × X)) → Apart xs → Apart (map (over f) xs)
unfolding IsDistinct
apart-over f [] h = tt
apart-over f (x ∷ xs) h = (each-map (λ y. same_step x.0 y.0 ≡ false) (over f) xs h.0, apart-over f xs h.1)

last-push : (path : List Step) (step : Step) → last_step (path ++ step ∷ []) ≡ step
unfolding last_step
last-push [] step = refl
last-push (x ∷ []) step = refl
last-push (x ∷ y ∷ path) step = last-push (y ∷ path) step

module _ (all : Rows) (items : List Item) (numbered : AreNumbered all items) (sources : List (Option ℕ)) (tells : TellsSources all sources) (elements : List Element) (graph : IsGraph items sources elements) (order : List ℕ) (ordered : IsOrder (needs elements) (length items) order) (no_circle : HasNoCircle all) where
  abbrev pub kids : ℕ → List Kid
  kids = kids_at all items sources

  follows : Follows (needs elements) [] order
  follows = order_follows (needs elements) (length items) order ordered

  -- an element with a source needs it
  needs_source : (e base : ℕ) → get_or sources e None ≡ Some base → (e < length items) × (among base (needs elements e) ≡ true)
  needs_source e base is = elim (cases_lt e (length items)) [
    | inr past ↦ let none : get_or sources e None ≡ None = get_or_past sources e None (omega (arith, past, sources_long all items numbered sources tells)) in absurd cc
    | inl inside ↦ (inside, ap (among base) (needs_are all items numbered sources tells elements graph e inside ∙ ap (λ o. with_base o (children_among e 0 items)) is) ∙ among-head base (children_among e 0 items))
  ]

  kids-use : IsMadeOfNeeds (λ e. e) (needs elements) (kids_made all items sources)
  kids-use f g e agree = at (get_or sources e None) refl
    where
      at : (o : Option ℕ) → get_or sources e None ≡ o → kids_with (item_at items e).kind (own_kids all items e) f o ≡ kids_with (item_at items e).kind (own_kids all items e) g o
      at None is = refl
      at (Some base) is = ap (λ source. children_by (item_at items e).kind source (own_kids all items e)) (agree base (needs_source e base is).1)

  -- the children of an element by those of its source
  pub kids_are : (e : ℕ) → e < length items → kids e ≡ kids_made all items sources kids e
  unfolding kids_at
  kids_are e inside = made_along (λ d. d) (needs elements) (kids_made all items sources) [] kids-use order follows (length items) (order_length (needs elements) (length items) order ordered) e ((ordered.whole e).1 inside)

  -- ---- own children

  -- the step of a child that an element has of its own
  pub record IsOwn (e d : ℕ) : Type 0 where
    pub inside : d < length items
    pub path : path_at all d ≡ path_at all e ++ last_step (path_at all d) ∷ []
    pub kind : (item_at items d).kind ≡ Some (last_step (path_at all d)).kind
    pub name : (item_at items d).name ≡ (last_step (path_at all d)).name

  pub own_is : (e d : ℕ) → among d (children_among e 0 items) ≡ true → IsOwn e d
  own_is e d h =
      let r = child_is e 0 items d h in
      let same : r.place ≡ d = omega (arith, r.is) in
      let inside : d < length items = omega (arith, same, r.inside) in
      at inside (item_at items d).parent (subst (λ p. (item_at items p).parent ≡ Some e) same r.below) (seat all items numbered d inside)
    where
      at : d < length items → (parent : Option ℕ) → parent ≡ Some e → Seat (paths_of all) d (path_at all d) (item_at items d) parent → IsOwn e d
      at inside None is s = absurd cc
      at inside (Some p) is s =
          let p_is : p ≡ e = cc in
          let last : last_step (path_at all d) ≡ s.step = ap last_step s.is ∙ last-push (path_at all p) s.step in
          record {
            inside = inside;
            path = s.is ∙ ap₂ (λ q (t : Step). path_at all q ++ t ∷ []) p_is (sym last);
            kind = s.kind ∙ ap (λ (t : Step). Some t.kind) (sym last);
            name = s.name ∙ ap (λ (t : Step). t.name) (sym last);
          }

  distinct_numbers : (parent n : ℕ) (xs : List Item) → IsDistinct nat_eq (children_among parent n xs)
  unfolding children_among IsDistinct
  distinct_numbers parent n [] = tt
  distinct_numbers parent n (x ∷ xs) = by (distinct_numbers parent (n + 1) xs) (is_number parent x.parent)
    where
      by : IsDistinct nat_eq (children_among parent (n + 1) xs) → (b : Bool) → IsDistinct nat_eq (cond b (n ∷ children_among parent (n + 1) xs) (children_among parent (n + 1) xs))
      by others true = (all_among (λ d. nat_eq n d ≡ false) (children_among parent (n + 1) xs) (λ d p. let r = child_is parent (n + 1) xs d p in ne_eqb n d (λ e. absurd (omega (arith, e, r.is)))), others)
      by others false = others

  abbrev kid : ℕ → Kid
  kid d = (last_step (path_at all d), d)

  steps_apart : (e x y : ℕ) → IsOwn e x → IsOwn e y → nat_eq x y ≡ false → same_place (kid x) (kid y) ≡ false
  steps_apart e x y p q differ = elim (cases_Bool (same_place (kid x) (kid y))) [
    | inr r ↦ r
    | inl r ↦
        let step : last_step (path_at all x) ≡ last_step (path_at all y) = same_step-tells.alone (last_step (path_at all x)) (last_step (path_at all y)) r in
        let same : x ≡ y = one_number all items numbered x y p.inside q.inside (p.path ∙ ap (λ (t : Step). path_at all e ++ t ∷ []) step ∙ sym q.path) in
        absurd (true≢false (sym (eq-eqb x y same) ∙ differ))
  ]

  apart_each : (e x : ℕ) → IsOwn e x → (ys : List ℕ) → ((d : ℕ) → among d ys ≡ true → IsOwn e d) → AllByRecursion (λ y. nat_eq x y ≡ false) ys → AllByRecursion (λ y. same_place (kid x) (kid y) ≡ false) ys
  apart_each e x own [] others h = tt
  apart_each e x own (y ∷ ys) others h = (steps_apart e x y own (others y (among-head y ys)) h.0, apart_each e x own ys (λ d p. others d (or_right (nat_eq d y) (among d ys) p)) h.1)

  spread : (e : ℕ) (xs : List ℕ) → ((d : ℕ) → among d xs ≡ true → IsOwn e d) → IsDistinct nat_eq xs → Apart (map kid xs)
  unfolding IsDistinct
  spread e [] own h = tt
  spread e (x ∷ xs) own h =
      let later : (d : ℕ) → among d xs ≡ true → IsOwn e d = λ d p. own d (or_right (nat_eq d x) (among d xs) p) in
      (each-map (λ y. same_place (kid x) y ≡ false) kid xs (apart_each e x (own x (among-head x xs)) xs later h.0), spread e xs later h.1)

  own_apart : (e : ℕ) → Apart (own_kids all items e)
  unfolding own_kids
  own_apart e = spread e (children_among e 0 items) (λ d p. own_is e d p) (distinct_numbers e 0 items)

  -- ---- what elements come to

  levels : ℕ
  levels = length (paths_of all)

  abbrev derived : List Step → List (Row Step Key)
  derived = derived_at all (length (paths_of all))

  -- the rows to which an element comes
  abbrev pub rows_at : ℕ → List (Row Step Key)
  rows_at d = derived (path_at all d)

  here : (d : ℕ) → d < length items → IsAmong (paths_of all) (path_at all d)
  here d inside = at_place (paths_of all) d (omega (arith, inside, as_many all items numbered))
    where
      at_place : (paths : List (List Step)) (i : ℕ) → i < length paths → IsAmong paths (get_or paths i [])
      at_place [] i h = absurd (omega (arith, h))
      at_place (x ∷ paths) zero h = member-head same_path same_path-tells x paths
      at_place (x ∷ paths) (suc i) h = member-tail same_path same_path-tells x paths (get_or paths i []) (at_place paths i (omega (arith, h)))

  made : (d : ℕ) → d < length items → rows_at d ≡ with_source (path_at all d) (keys_at all (path_at all d)) (own_parts all derived (path_at all d)) (option_map derived (source_of all (path_at all d)))
  unfolding derived_by
  made d inside = levels_are_enough all no_circle (length (paths_of all)) (omega arith) (path_at all d) (here d inside)

  whole : (d : ℕ) → d < length items → IsWhole (rows_at d)
  whole d inside = at (option_map derived (source_of all (path_at all d))) (made d inside)
    where
      at : (o : Option (List (Row Step Key))) → rows_at d ≡ with_source (path_at all d) (keys_at all (path_at all d)) (own_parts all derived (path_at all d)) o → IsWhole (rows_at d)
      at None is = record { keys = keys_at all (path_at all d); children = own_parts all derived (path_at all d); is = is }
      at (Some source) is = record {
        keys = taken (is_marked_at (path_at all d)) (keys_at all (path_at all d)) (keys_of source);
        children = children_by (kind_at (path_at all d)) (parts_of source) (own_parts all derived (path_at all d));
        is = is;
      }

  own_parts_are : (e : ℕ) → e < length items → own_parts all derived (path_at all e) ≡ map (over rows_at) (own_kids all items e)
  unfolding own_kids child_paths
  own_parts_are e inside =
      sym (pushed (children_at all (path_at all e)))
      ∙ ap (map told) (sym (child_numbers all items numbered e inside))
      ∙ map-map told (path_at all) (children_among e 0 items)
      ∙ sym (map-map (over rows_at) (λ d. (last_step (path_at all d), d)) (children_among e 0 items))
    where
      told : List Step → Part
      told path = (last_step path, derived path)

      pushed : (steps : List Step) → map told (map (λ child. path_at all e ++ child ∷ []) steps) ≡ map (λ child. (child, derived (path_at all e ++ child ∷ []))) steps
      pushed [] = refl
      pushed (s ∷ steps) = ap₂ (λ (t : Step) rest. (t, derived (path_at all e ++ s ∷ [])) ∷ rest) (last-push (path_at all e) s) (pushed steps)

  -- a child is an element of its kind and name
  abbrev pub IsKid : Kid → Type 0
  IsKid kid = (kid.1 < length items) × (((item_at items kid.1).kind ≡ Some kid.0.kind) × ((item_at items kid.1).name ≡ kid.0.name))

  -- what is known of the children of an element
  pub record Grows (e : ℕ) : Type 0 where
    pub keys : List Key
    pub is : rows_at e ≡ element_rows keys (map (over rows_at) (kids e))
    pub apart : Apart (kids e)
    pub are : AllByRecursion IsKid (kids e)

  own_kids_are : (e : ℕ) → AllByRecursion IsKid (own_kids all items e)
  unfolding own_kids
  own_kids_are e = each-map IsKid (λ d. (last_step (path_at all d), d)) (children_among e 0 items) (all_among (λ d. IsKid (last_step (path_at all d), d)) (children_among e 0 items) (λ d p. let r = own_is e d p in (r.inside, (r.kind, r.name))))

  kids_whole : (xs : List Kid) → AllByRecursion IsKid xs → AreWhole (map (over rows_at) xs)
  kids_whole xs h = each-map (λ (x : Part). IsWhole x.1) (over rows_at) xs (each (λ x p. whole x.1 p.0) xs h)

  grows_by : (e : ℕ) → e < length items → ((d : ℕ) → among d (needs elements e) ≡ true → Grows d) → Grows e
  grows_by e inside needed = at (get_or sources e None) refl
    where
      kind : Option Kind
      kind = (item_at items e).kind

      own : List Kid
      own = own_kids all items e

      made_with : (o : Option ℕ) → get_or sources e None ≡ o → rows_at e ≡ with_source (path_at all e) (keys_at all (path_at all e)) (map (over rows_at) own) (option_map derived (option_map (path_at all) o))
      made_with o is =
          made e inside
          ∙ ap₂ (λ parts source. with_source (path_at all e) (keys_at all (path_at all e)) parts (option_map derived source))
          (own_parts_are e inside) (sym (told_at all items numbered sources tells e inside) ∙ ap (option_map (path_at all)) is)

      at : (o : Option ℕ) → get_or sources e None ≡ o → Grows e
      at None is =
          let same : own ≡ kids e = sym (kids_are e inside ∙ ap (kids_with kind own kids) is) in
          record {
            keys = keys_at all (path_at all e);
            is = made_with None is ∙ ap (λ xs. element_rows (keys_at all (path_at all e)) (map (over rows_at) xs)) same;
            apart = subst Apart same (own_apart e);
            are = subst (AllByRecursion IsKid) same (own_kids_are e);
          }
      at (Some base) is =
          let same : children_by kind (kids base) own ≡ kids e = sym (kids_are e inside ∙ ap (kids_with kind own kids) is) in
          let source = needed base (needs_source e base is).1 in
          let keys : List Key = taken (is_marked_at (path_at all e)) (keys_at all (path_at all e)) (keys_of (rows_at base)) in
          record {
            keys = keys;
            is =
                made_with (Some base) is
                ∙ ap₂ (λ k parts. element_rows keys (children_by k parts (map (over rows_at) own))) (kind_found all items numbered e inside)
                (ap parts_of source.is ∙ parts_again source.keys (map (over rows_at) (kids base)) (kids_whole (kids base) source.are) (apart-over rows_at (kids base) source.apart))
                ∙ ap (element_rows keys) (children_over rows_at kind (kids base) own ∙ ap (map (over rows_at)) same);
            apart = subst Apart same (apart_by kind (kids base) own source.apart (own_apart e));
            are = subst (AllByRecursion IsKid) same (children-have IsKid (λ child n p. p) kind (kids base) own source.are (own_kids_are e));
          }

  pub grows : (e : ℕ) → e < length items → Grows e
  grows e inside = along (needs elements) Grows [] order follows (λ d p needed. grows_by d ((ordered.whole d).0 p) needed) (λ d p. absurd (true≢false (sym p))) e ((ordered.whole e).1 inside)

  -- ---- depth

  abbrev pub children : ℕ → List ℕ
  children = kid_numbers all items sources

  any_kids : (f : List (Row Step Key) → Bool) (g : ℕ → Bool) → ((d : ℕ) → d < length items → f (rows_at d) ≡ g d) → (xs : List Kid) → AllByRecursion IsKid xs → list_any (λ (x : Part). f x.1) (map (over rows_at) xs) ≡ list_any g (map (λ kid. kid.1) xs)
  any_kids f g agree [] h = refl
  any_kids f g agree (x ∷ xs) h = ap₂ (λ a b. a || b) (agree x.1 h.0.0) (any_kids f g agree xs h.1)

  pub deep_is : (k e : ℕ) → e < length items → is_long k (rows_at e) ≡ is_deep children k e
  unfolding is_deep
  deep_is zero e inside = long_whole (rows_at e) (whole e inside)
  deep_is (suc k) e inside =
      let r = grows e inside in
      ap (is_long (suc k)) r.is ∙ long_by k r.keys (map (over rows_at) (kids e)) ∙ any_kids (is_long k) (is_deep children k) (deep_is k) (kids e) r.are

  -- ---- the device

  top_path : 0 < length items → path_at all 0 ≡ []
  top_path some = at (item_at items 0).parent (seat all items numbered 0 some)
    where
      at : (parent : Option ℕ) → Seat (paths_of all) 0 (path_at all 0) (item_at items 0) parent → path_at all 0 ≡ []
      at None h = h.0
      at (Some p) h = absurd (omega (arith, h.earlier))

  top_rows : 0 < length items → derived_rows all ≡ rows_at 0
  unfolding derived_rows
  top_rows some = ap derived (sym (top_path some))

  no_source_of_top : 0 < length items → get_or sources 0 None ≡ None
  unfolding source_of kind_at
  no_source_of_top some = at (get_or sources 0 None) (told_at all items numbered sources tells 0 some ∙ ap (source_of all) (top_path some) ∙ none)
    where
      none : source_of all [] ≡ None
      none = refl

      at : (o : Option ℕ) → option_map (path_at all) o ≡ None → o ≡ None
      at None h = refl
      at (Some d) h = absurd cc

  top_kids : 0 < length items → kids 0 ≡ own_kids all items 0
  top_kids some = kids_are 0 some ∙ ap (kids_with (item_at items 0).kind (own_kids all items 0) kids) (no_source_of_top some)

  find-own : (k : ℕ) (ns : List ℕ) → ((d : ℕ) → among d ns ≡ true → IsOwn 0 d) → 0 < length items → option_map (λ (x : Part). x.0 ∷ []) (find (λ (x : Part). is_long k x.1) (map (over rows_at) (map (λ d. (last_step (path_at all d), d)) ns))) ≡ option_map (path_at all) (find (is_deep children k) ns)
  find-own k [] own some = refl
  find-own k (d ∷ ns) own some =
      let r = own d (among-head d ns) in
      by (is_long k (rows_at d)) (is_deep children k d) (deep_is k d r.inside) (sym (r.path ∙ ap (λ p. p ++ last_step (path_at all d) ∷ []) (top_path some))) (find-own k ns (λ i p. own i (or_right (nat_eq i d) (among i ns) p)) some)
    where
      rest : Option Part
      rest = find (λ (x : Part). is_long k x.1) (map (over rows_at) (map (λ i. (last_step (path_at all i), i)) ns))

      by : (a b : Bool) → a ≡ b → last_step (path_at all d) ∷ [] ≡ path_at all d → option_map (λ (x : Part). x.0 ∷ []) rest ≡ option_map (path_at all) (find (is_deep children k) ns)
          → option_map (λ (x : Part). x.0 ∷ []) (cond a (Some (last_step (path_at all d), rows_at d)) rest) ≡ option_map (path_at all) (cond b (Some d) (find (is_deep children k) ns))
      by true true e path again = ap Some path
      by false false e path again = again
      by true false e path again = absurd (true≢false e)
      by false true e path again = absurd (true≢false (sym e))

  -- the first peripheral below which a path has too many steps
  pub deep_found : 0 < length items → first_deep all ≡ option_map (path_at all) (find (is_deep children step_limit) (children_among 0 0 items))
  unfolding first_deep own_kids
  deep_found some =
      let r = grows 0 some in
      ap (λ rows. option_map (take 1) (find (λ (path : List Step). nat_lt step_limit (length path)) (paths_of rows))) (top_rows some ∙ r.is)
      ∙ first_long step_limit r.keys (map (over rows_at) (kids 0))
      ∙ ap (λ xs. option_map (λ (x : Part). x.0 ∷ []) (find (λ (x : Part). is_long step_limit x.1) (map (over rows_at) xs))) (top_kids some)
      ∙ find-own step_limit (children_among 0 0 items) (λ d p. own_is 0 d p) some

  -- ---- counts

  module _ (flags : List Bool) (counted : TellsCounted items flags) (child_follows : Follows children [] order) where
    -- an element, if it is counted, and all below it
    abbrev weight : ℕ → ℕ
    weight e = flag_weight (get_or flags e false) + amount is_counted (rows_at e)

    abbrev sizes : ℕ → ℕ
    sizes = size flags children (length items)

    sum_kids : (xs : List Kid) → AllByRecursion IsKid xs → ((d : ℕ) → among d (map (λ kid. kid.1) xs) ≡ true → weight d ≡ sizes d) → sum_by (λ (x : Part). flag_weight (is_counted x.0) + amount is_counted x.1) (map (over rows_at) xs) ≡ sum_by sizes (map (λ kid. kid.1) xs)
    sum_kids [] h known = refl
    sum_kids (x ∷ xs) h known =
        sum_by-cons (λ (y : Part). flag_weight (is_counted y.0) + amount is_counted y.1) (over rows_at x) (map (over rows_at) xs)
        ∙ ap₂ (λ a b. a + b)
        (ap (λ b. flag_weight b + amount is_counted (rows_at x.1)) (sym (counted x.1 h.0.0 ∙ ap is_counted_kind h.0.1.0)) ∙ known x.1 (among-head x.1 (map (λ kid. kid.1) xs)))
        (sum_kids xs h.1 (λ d p. known d (or_right (nat_eq d x.1) (among d (map (λ kid. kid.1) xs)) p)))
        ∙ sym (sum_by-cons sizes x.1 (map (λ kid. kid.1) xs))

    weight_by : (e : ℕ) → e < length items → ((d : ℕ) → among d (children e) ≡ true → weight d ≡ sizes d) → weight e ≡ sizes e
    weight_by e inside known =
        let r = grows e inside in
        ap (λ n. flag_weight (get_or flags e false) + n)
        (ap (amount is_counted) r.is ∙ amount_by is_counted r.keys (map (over rows_at) (kids e)) (kids_whole (kids e) r.are) ∙ sum_kids (kids e) r.are known)
        ∙ sym (size_is flags children (length items) order e child_follows (order_length (needs elements) (length items) order ordered) ((ordered.whole e).1 inside))

    weight_is : (e : ℕ) → e < length items → weight e ≡ sizes e
    weight_is e inside = along children (λ d. weight d ≡ sizes d) [] order child_follows (λ d p known. weight_by d ((ordered.whole d).0 p) known) (λ d p. absurd (true≢false (sym p))) e ((ordered.whole e).1 inside)

    -- how many derived elements there are
    pub elements_counted : 0 < length items → elements_of (derived_rows all) ≡ sizes 0
    unfolding elements_of
    elements_counted some =
        ap (amount is_counted) (top_rows some)
        ∙ sym (zero-add (amount is_counted (rows_at 0)))
        ∙ ap (λ b. flag_weight b + amount is_counted (rows_at 0)) (sym (counted 0 some ∙ ap is_counted_kind (at (item_at items 0).parent (seat all items numbered 0 some))))
        ∙ weight_is 0 some
      where
        at : (parent : Option ℕ) → Seat (paths_of all) 0 (path_at all 0) (item_at items 0) parent → (item_at items 0).kind ≡ None
        at None h = h.1
        at (Some p) h = absurd (omega (arith, h.earlier))
