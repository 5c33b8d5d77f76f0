-- The children of each element by those of its base, as counting takes them.
use Rattle.std.proofs.Common.{◌≡◌, inl, inr, ℕ, zero, suc, ◌<◌, ◌≤◌, Bool, true, false, not, ◌||◌, cond, nat_eq, List, [], ◌∷◌, ◌++◌, map, filter, length, get_or, Option, None, Some, option_map, unwrap_or, slice_get, refl, sym, ap, ap₂, ◌∙◌, subst, arith, Vec}
use Rattle.std.specs.List.{AllByRecursion}
use Rattle.std.specs.List.Sorted.{IsPermutation}
use Rattle.std.specs.Str.{bytes_eq}
use Rattle.std.proofs.lemmas.Bool.{cases_lt, true≢false}
use Rattle.std.proofs.lemmas.List.{get_or_past, length-map}
use Rattle.std.proofs.lemmas.List.Sorted.{IsPermutation-refl}
use Rattle.std.proofs.lemmas.Option.{slice_get-map, slice_get_past, unwrap_or-slice_get}
use Rattle.derive_order.specs.Counting.{AreBases, AreKeys, base_with, counted_base, is_field}
use Rattle.derive_order.specs.Gone.{key_of, is_gone, base_at, base_in, AreBelow, IsTold, Replaces}
use Rattle.derive_order.specs.Kids.{last_step, Kid, own_kids, kids_with, kids_made, kids_at, kid_numbers}
use Rattle.derive_order.proofs.Kids.{IsKid, IsOwn, own_is, kids_are, children, grows}
use Rattle.derive_order.proofs.Merged.{IsMerged, is_kept, second, shuffled_by}
use Rattle.derive_order.proofs.Replaced.{all_of}
use Rattle.derive_order.proofs.Ties.{child_later, elements_long, needs_are, source_inside, sources_long}
use Rattle.derive_sources.specs.Graphs.{parts_in, parts_at, children_among, IsGraph}
use Rattle.derive_sources.specs.Missing.{TellsSources}
use Rattle.derive_sources.specs.Numbers.{Item, AreNumbered, Rows, path_at, item_at}
use Rattle.derived_rows.specs.Dependence.{HasNoCircle}
use Rattle.derived_rows.specs.Merging.{has_named, children_by}
use Rattle.need_order.specs.declared.element.Element.{Element}
use Rattle.need_order.specs.Children.{AreChildren, begun, begun_in, items_at, of_base}
use Rattle.need_order.specs.Levels.{by_levels}
use Rattle.need_order.specs.Needs.{among, needs, needs_in, with_base, IsOrder}
use Rattle.need_order.proofs.Numbers.{among-head, or_right}
use Rattle.svd_model.specs.Steps.{Kind, peripheral, cluster, register, field, set, value}

base_is : (elements : List Element) (bases : List (Option ℕ)) → map (λ element. element.base) elements ≡ bases → (e : ℕ) → base_at elements e ≡ get_or bases e None
unfolding base_at
base_is elements bases are e =
    at (slice_get elements e)
    ∙ ap (λ o. unwrap_or o None) (sym (slice_get-map (λ (element : Element). element.base) elements e) ∙ ap (λ l. slice_get l e) are)
    ∙ unwrap_or-slice_get bases e None
  where
    at : (o : Option Element) → base_in o ≡ unwrap_or (option_map (λ (element : Element). element.base) o) None
    at None = refl
    at (Some element) = refl

-- what an element begins with
begun_is : (elements : List Element) (children : ℕ → List ℕ) (e : ℕ) → begun elements children e ≡ of_base children (base_at elements e) ++ parts_at elements e
unfolding begun base_at parts_at
begun_is elements children e = at (slice_get elements e)
  where
    at : (o : Option Element) → begun_in children o ≡ of_base children (base_in o) ++ parts_in o
    at None = refl
    at (Some element) = refl

-- where it is told what is gone, the children are known
pub are_children : {Z : Type 0} (elements : List Element) (keys : List ℕ) (children : ℕ → List ℕ) (gone : List (Vec ℕ Z)) → Replaces elements keys children → ((e : ℕ) → IsTold elements keys children gone e) → AreChildren elements gone children
are_children elements keys children gone law told e =
    subst (λ xs. IsPermutation xs (children e ++ items_at gone e)) (sym (begun_is elements children e))
    (all_of keys (parts_at elements e) (of_base children (base_at elements e)) (children e) (law e) (items_at gone e) (told e))

-- an order behind needs is one behind fewer needs
pub order_less : (needs less : ℕ → List ℕ) (n m : ℕ) (order : List ℕ) → m ≡ n → ((e d : ℕ) → among d (less e) ≡ true → among d (needs e) ≡ true) → IsOrder needs n order → IsOrder less m order
order_less needs less n m order same fewer h = subst (λ k. IsOrder less k order) (sym same) (record { whole = h.whole; once = h.once; behind = λ before after e d is p. h.behind before after e d is (fewer e d p) })

module _ (all : Rows) (items : List Item) (numbered : AreNumbered all items) (sources : List (Option ℕ)) (tells : TellsSources all sources) (elements : List Element) (graph : IsGraph items sources elements) (order : List ℕ) (ordered : IsOrder (needs elements) (length items) order) (no_circle : HasNoCircle all) where
  module _ (bases : List (Option ℕ)) (are : AreBases items sources bases) (begins : List Element) (begun_graph : IsGraph items bases begins) where
    pub begins_long : length begins ≡ length items
    begins_long = sym (length-map begins (λ (element : Element). element.base)) ∙ ap (λ l. length l) begun_graph.bases ∙ are.long

    kept_base : (is : Bool) (parts : List ℕ) (source : Option ℕ) (d : ℕ) → among d (with_base (base_with is parts source) parts) ≡ true → among d (with_base source parts) ≡ true
    kept_base true [] source d h = h
    kept_base true (part ∷ parts) None d h = h
    kept_base true (part ∷ parts) (Some base) d h = or_right (nat_eq d base) (among d (part ∷ parts)) h
    kept_base false parts source d h = h

    begins_needs : (e d : ℕ) → among d (needs begins e) ≡ true → among d (needs elements e) ≡ true
    unfolding needs base_at parts_at
    begins_needs e d h = elim (cases_lt e (length items)) [
      | inr past ↦ absurd (true≢false (sym h ∙ ap (among d) (past_needs past)))
      | inl inside ↦
          sym (sym (kept_base (is_field (item_at items e).kind) (children_among e 0 items) (get_or sources e None) d (sym (ap (λ o. among d (with_base o (children_among e 0 items))) (are.each e inside)) ∙ sym (ap (among d) (begins_are inside)) ∙ h)) ∙ ap (among d) (sym (needs_are all items numbered sources tells elements graph e inside)))
    ]
      where
        past_needs : length items ≤ e → needs begins e ≡ []
        past_needs past = ap needs_in (slice_get_past begins e (omega (arith, past, begins_long)))

        begins_are : e < length items → needs begins e ≡ with_base (get_or bases e None) (children_among e 0 items)
        begins_are inside = at (slice_get begins e) refl ∙ ap₂ with_base (base_is begins bases begun_graph.bases e) (begun_graph.parts e (omega (arith, inside, begins_long)))
          where
            at : (o : Option Element) → slice_get begins e ≡ o → needs begins e ≡ with_base (base_at begins e) (parts_at begins e)
            at None is = ap needs_in is ∙ sym (ap₂ with_base (ap base_in is) (ap parts_in is))
            at (Some element) is = ap needs_in is ∙ sym (ap₂ with_base (ap base_in is) (ap parts_in is))

    pub begins_order : IsOrder (needs begins) (length begins) order
    begins_order = order_less (needs elements) (needs begins) (length items) (length begins) order begins_long begins_needs ordered

    -- ---- the law

    module _ (keys : List ℕ) (apart : AreKeys items keys) where
      abbrev own_of : List ℕ → List Kid
      own_of parts = map (λ d. (last_step (path_at all d), d)) parts

      own_seconds : (parts : List ℕ) → map second (own_of parts) ≡ parts
      own_seconds [] = refl
      own_seconds (d ∷ parts) = ap (λ rest. d ∷ rest) (own_seconds parts)

      abbrev AreOwn : ℕ → List ℕ → Type 0
      AreOwn e parts = (d : ℕ) → among d parts ≡ true → IsOwn all items numbered sources tells elements graph order ordered no_circle e d

      abbrev IsChild : Kid → Type 0
      IsChild kid = IsKid all items numbered sources tells elements graph order ordered no_circle kid

      -- a child is replaced where one of the parts has its key
      named_is : (e : ℕ) (parts : List ℕ) → AreOwn e parts → (kid : Kid) → IsChild kid → has_named (own_of parts) kid ≡ is_gone keys parts kid.1
      unfolding has_named
      named_is e [] own kid h = refl
      named_is e (d ∷ parts) own kid h =
          let o = own d (among-head d parts) in
          ap₂ (λ a b. a || b)
          (ap₂ bytes_eq (sym h.1.1) (sym o.name) ∙ sym (apart.apart kid.1 d h.0 o.inside))
          (named_is e parts (λ i p. own i (or_right (nat_eq i d) (among i parts) p)) kid h)

      kept_numbers : (e : ℕ) (parts : List ℕ) → AreOwn e parts → (xs : List Kid) → AllByRecursion IsChild xs → map second (filter (is_kept (own_of parts)) xs) ≡ filter (λ d. not (is_gone keys parts d)) (map second xs)
      kept_numbers e parts own [] h = refl
      kept_numbers e parts own (kid ∷ xs) h = by (has_named (own_of parts) kid) (is_gone keys parts kid.1) (named_is e parts own kid h.0) (kept_numbers e parts own xs h.1)
        where
          kept : List Kid
          kept = filter (is_kept (own_of parts)) xs

          left : List ℕ
          left = filter (λ d. not (is_gone keys parts d)) (map second xs)

          by : (a b : Bool) → a ≡ b → map second kept ≡ left → map second (cond (not a) (kid ∷ kept) kept) ≡ cond (not b) (kid.1 ∷ left) left
          by true true e again = again
          by false false e again = ap (λ rest. kid.1 ∷ rest) again
          by true false e again = absurd (true≢false e)
          by false true e again = absurd (true≢false (sym e))

      abbrev numbers : ℕ → List ℕ
      numbers = kid_numbers all items sources

      abbrev Goal : List ℕ → List ℕ → Option ℕ → Type 0
      Goal made parts base = IsPermutation made (filter (λ d. not (is_gone keys parts d)) (of_base numbers base) ++ parts)

      same_goal : (made parts : List ℕ) → made ≡ parts → IsPermutation made parts
      same_goal made parts e = subst (IsPermutation made) e (IsPermutation-refl made)

      merged_goal : (e : ℕ) (kind : Option Kind) (parts : List ℕ) (base : ℕ) → AreOwn e parts → base < length items → IsMerged kind (own_of parts) → Goal (map second (children_by kind (kids_at all items sources base) (own_of parts))) parts (Some base)
      merged_goal e kind parts base own inside h =
          subst (IsPermutation (map second (children_by kind (kids_at all items sources base) (own_of parts))))
          (ap₂ (λ a b. a ++ b) (kept_numbers e parts own (kids_at all items sources base) (grows all items numbered sources tells elements graph order ordered no_circle base inside).are) (own_seconds parts))
          (shuffled_by kind (kids_at all items sources base) (own_of parts) h)

      no_base : (is : Bool) (parts : List ℕ) → base_with is parts None ≡ None
      no_base true [] = refl
      no_base true (part ∷ parts) = refl
      no_base false parts = refl

      go : (e : ℕ) (kind : Option Kind) (parts : List ℕ) (source : Option ℕ) → AreOwn e parts → ((base : ℕ) → source ≡ Some base → base < length items) → Goal (map second (kids_with kind (own_of parts) (kids_at all items sources) source)) parts (counted_base kind parts source)
      go e kind parts None own inside = subst (Goal (map second (own_of parts)) parts) (sym (no_base (is_field kind) parts)) (same_goal (map second (own_of parts)) parts (own_seconds parts))
      go e None parts (Some base) own inside = merged_goal e None parts base own (inside base refl) tt
      go e (Some peripheral) parts (Some base) own inside = merged_goal e (Some peripheral) parts base own (inside base refl) tt
      go e (Some cluster) parts (Some base) own inside = merged_goal e (Some cluster) parts base own (inside base refl) tt
      go e (Some register) parts (Some base) own inside = merged_goal e (Some register) parts base own (inside base refl) tt
      go e (Some field) [] (Some base) own inside = merged_goal e (Some field) [] base own (inside base refl) tt
      go e (Some field) (part ∷ parts) (Some base) own inside = same_goal (map second (own_of (part ∷ parts))) (part ∷ parts) (own_seconds (part ∷ parts))
      go e (Some set) parts (Some base) own inside = merged_goal e (Some set) parts base own (inside base refl) tt
      go e (Some value) parts (Some base) own inside = merged_goal e (Some value) parts base own (inside base refl) tt

      childless : (e : ℕ) → length items ≤ e → (xs : List ℕ) → ((d : ℕ) → among d xs ≡ true → (e < d) × (d < length items)) → xs ≡ []
      childless e past [] h = refl
      childless e past (x ∷ xs) h = let r = h x (among-head x xs) in absurd (omega (arith, r.0, r.1, past))

      none_past : (e : ℕ) → length items ≤ e → children_among e 0 items ≡ []
      none_past e past = childless e past (children_among e 0 items) (child_later all items numbered e)

      kids_past : (e : ℕ) → length items ≤ e → kids_at all items sources e ≡ []
      unfolding kids_at by_levels own_kids
      kids_past e past = at (length items)
        where
          made : (f : ℕ → List Kid) → kids_made all items sources f e ≡ []
          made f =
              ap (kids_with (item_at items e).kind (own_kids all items e) f) (get_or_past sources e None (omega (arith, past, sources_long all items numbered sources tells)))
              ∙ ap (λ parts. map (λ d. (last_step (path_at all d), d)) parts) (none_past e past)

          at : (levels : ℕ) → by_levels (kids_made all items sources) [] levels e ≡ []
          at zero = refl
          at (suc levels) = made (by_levels (kids_made all items sources) [] levels)

      pub law : Replaces begins keys (kid_numbers all items sources)
      unfolding own_kids parts_at base_at
      law e = elim (cases_lt e (length items)) [
        | inr past ↦
            subst (λ xs. IsPermutation xs (filter (λ d. not (is_gone keys (parts_at begins e) d)) (of_base numbers (base_at begins e)) ++ parts_at begins e)) (sym (ap (map second) (kids_past e past)))
            (subst (λ o. IsPermutation [] (filter (λ d. not (is_gone keys (parts_in o) d)) (of_base numbers (base_in o)) ++ parts_in o)) (sym (slice_get_past begins e (omega (arith, past, begins_long)))) (IsPermutation-refl []))
        | inl inside ↦
            subst (λ parts. Goal (numbers e) parts (base_at begins e)) (sym (begun_graph.parts e (omega (arith, inside, begins_long))))
            (subst (Goal (numbers e) (children_among e 0 items)) (sym (base_is begins bases begun_graph.bases e ∙ are.each e inside))
            (subst (λ kids. Goal (map second kids) (children_among e 0 items) (counted_base (item_at items e).kind (children_among e 0 items) (get_or sources e None))) (sym (kids_are all items numbered sources tells elements graph order ordered no_circle e inside))
            (go e (item_at items e).kind (children_among e 0 items) (get_or sources e None) (λ d p. own_is all items numbered sources tells elements graph order ordered no_circle e d p) (λ base is. source_inside all items numbered sources tells e base inside is))))
      ]

      -- as calls have it
      pub gone_law : (made : ℕ → List ℕ) (begins' : List Element) (keys' : List ℕ) → made ≡ kid_numbers all items sources → begins' ≡ begins → keys' ≡ keys → Replaces begins' keys' made × AreBelow keys' (length begins')
      gone_law made begins' keys' a b k =
          subst (λ f. Replaces begins' keys' f × AreBelow keys' (length begins')) (sym a)
          (subst (λ bs. Replaces bs keys' (kid_numbers all items sources) × AreBelow keys' (length bs)) (sym b)
          (subst (λ ks. Replaces begins ks (kid_numbers all items sources) × AreBelow ks (length begins)) (sym k) (law, λ d. subst (λ n. key_of keys d < n) (sym begins_long) (apart.below d))))

      pub children_law : {Z : Type 0} (made : ℕ → List ℕ) (begins' : List Element) (keys' : List ℕ) (gone : List (Vec ℕ Z)) → made ≡ kid_numbers all items sources → begins' ≡ begins → keys' ≡ keys → ((e : ℕ) → IsTold begins' keys' made gone e) → AreChildren begins gone made
      children_law made begins' keys' gone a b k told = subst (λ bs. AreChildren bs gone made) b (are_children begins' keys' made gone (gone_law made begins' keys' a b k).0 told)

-- ---- as calls have it

pub order_of : (all : Rows) (items : List Item) (numbered : AreNumbered all items) (sources : List (Option ℕ)) (tells : TellsSources all sources) (elements : List Element) (graph : IsGraph items sources elements) (order : List ℕ) → IsOrder (needs elements) (length elements) order → IsOrder (needs elements) (length items) order
order_of all items numbered sources tells elements graph order h = subst (λ n. IsOrder (needs elements) n order) (elements_long all items numbered sources tells elements graph) h
