-- A table that is filled along an order: what was settled stays, and each element behind its source comes to what it takes.
use Rattle.std.proofs.Common.{◌≡◌, inl, inr, ℕ, zero, suc, ◌+◌, ◌<◌, Bool, true, false, not, ◌||◌, nat_eq, List, [], ◌∷◌, ◌++◌, map, take, drop, set, length, get_or, Option, None, Some, slice_get, option_map, refl, sym, ap, ap₂, ◌∙◌, subst, arith}
use Rattle.std.specs.List.{AllByRecursion, IsDistinct, list_all}
use Rattle.std.proofs.lemmas.Bool.{true≢false, eqb-true, eq-eqb}
use Rattle.std.proofs.lemmas.List.{length-map, take_more, take-append-drop}
use Rattle.std.proofs.lemmas.Option.{same_Some, slice_get-map}
use Rattle.derive_build.specs.declared.keys.Keys.{Keys}
use Rattle.derive_build.specs.declared.own.Own.{Own}
use Rattle.derive_build.specs.declared.settled.Settled.{Settled}
use Rattle.derive_build.specs.Children.{node_at, children_of, plain_by}
use Rattle.derive_build.specs.Filling.{numbers_in, plain_told, keys_made, children_made, Comes, IsMade, IsFilled, takes_of, TakesAt}
use Rattle.derive_build.specs.Nodes.{Node, own_node}
use Rattle.derive_build.specs.Tables.{owns_in, keys_in, keys_told}
use Rattle.derive_build.specs.Taking.{places_by, keys_by, taking, takes}
use Rattle.derive_build.proofs.Named.{drop_next}
use Rattle.derive_build.proofs.Taken.{taken-places, own-placed, own-length}
use Rattle.derive_sources.specs.Graphs.{parts_at}
use Rattle.derived_graph.specs.Graphs.{source_at, NeedsSources}
use Rattle.derived_graph.proofs.Taking.{takes_by_places}
use Rattle.derived_rows.specs.Merging.{taken}
use Rattle.need_order.specs.declared.element.Element.{Element}
use Rattle.need_order.specs.Needs.{among, needs, IsOrder}
use Rattle.need_order.proofs.Numbers.{among-head, among-left, among-cases, among-one, or_right}
use Rattle.pac_base.specs.Names.{is_word_byte}
use Rattle.svd_model.specs.Keys.{Key}
use Rattle.svd_rows.specs.Ranks.{stated}

-- ---- one element

-- the node of an element that is listed
pub node-of : (owns : List Own) (e : ℕ) (own : Own) → slice_get owns e ≡ Some own → node_at owns e ≡ own_node own
node-of [] e own is = absurd cc
node-of (x ∷ owns) zero own is = ap own_node (same_Some x own is)
node-of (x ∷ owns) (suc e) own is = node-of owns e own is

-- its keys are taken from its source's
keys-taken : (own source : Own) (marked : Bool) (keys others : Keys) → takes own source ≡ true → keys_by own (taking marked keys others) ≡ taken marked (keys_by own keys) (keys_by source others)
keys-taken own source marked keys others same =
    sym (ap stated (taken-places marked own source keys others same))
    ∙ takes_by_places marked (places_by own keys) (places_by source others) (own-placed own keys) (own-placed source others) (own-length own keys ∙ sym (own-length source others))

module _ (owns : List Own) (sources : List (Option ℕ)) (elements : List Element) (table : List Settled) (e : ℕ) where
  -- an element without a source
  pub comes-alone : (made : Settled) (own : Own) → slice_get owns e ≡ Some own → made.own ≡ own → keys_by made.own made.keys ≡ (own_node own).keys → made.children.items ≡ parts_at elements e → source_at sources e ≡ None → Comes owns sources elements table e made
  comes-alone made own is same keys children none = record {
    own = is ∙ ap Some (sym same);
    keys = keys ∙ sym (ap (λ (n : Node). n.keys) (node-of owns e own is)) ∙ sym (ap (keys_made owns table e) none);
    children = ap (children_of owns) children ∙ sym (ap (children_made owns elements table e) none);
  }

  -- the sources of the table are the elements
  pub own-there : (s : ℕ) (source : Settled) → owns_in table ≡ owns → slice_get table s ≡ Some source → slice_get owns s ≡ Some source.own
  unfolding owns_in
  own-there s source are is =
      sym (ap (λ os. slice_get os s) are) ∙ slice_get-map (λ (settled : Settled). settled.own) table s ∙ ap (option_map (λ (settled : Settled). settled.own)) is

  -- one with a source
  pub comes-taken : (made own : Settled) (first : Own) (s : ℕ) (source : Settled) → slice_get owns e ≡ Some first → own.own ≡ first → keys_by own.own own.keys ≡ (own_node first).keys → own.children.items ≡ parts_at elements e
      → source_at sources e ≡ Some s → owns_in table ≡ owns → slice_get table s ≡ Some source → TakesAt owns sources e
      → made.own ≡ own.own → made.keys ≡ taking (not (list_all is_word_byte (own_node own.own).name)) own.keys source.keys
      → children_of owns made.children.items ≡ plain_by (own_node own.own).kind (children_of owns source.children.items) (children_of owns own.children.items)
      → Comes owns sources elements table e made
  unfolding keys_told plain_told
  comes-taken made own first s source is same keys children has are there takes_at own_is keys_are children_are =
      let node : node_at owns e ≡ own_node own.own = node-of owns e first is ∙ ap own_node (sym same) in
      let fits : takes own.own source.own ≡ true =
      sym (ap₂ takes_of (is ∙ ap Some (sym same)) (own-there s source are there)) ∙ takes_at s has in
      record {
        own = is ∙ ap Some (sym (own_is ∙ same));
        keys =
            ap₂ keys_by own_is keys_are
            ∙ keys-taken own.own source.own (not (list_all is_word_byte (own_node own.own).name)) own.keys source.keys fits
            ∙ ap₂ (λ (m : Node) (ks : List Key). taken (not (list_all is_word_byte m.name)) ks (keys_by source.own source.keys)) (sym node) (keys ∙ ap (λ o. (own_node o).keys) (sym same) ∙ ap (λ (m : Node). m.keys) (sym node))
            ∙ ap (taken (not (list_all is_word_byte (node_at owns e).name)) (node_at owns e).keys) (sym (ap keys_in there))
            ∙ sym (ap (keys_made owns table e) has);
        children =
            children_are
            ∙ ap₂ (λ (m : Node) (ds : List ℕ). plain_by m.kind (children_of owns source.children.items) (children_of owns ds)) (sym node) children
            ∙ ap (λ (ds : List ℕ). plain_by (node_at owns e).kind (children_of owns ds) (children_of owns (parts_at elements e))) (sym (ap numbers_in there))
            ∙ sym (ap (children_made owns elements table e) has);
      }

  -- a source is in the table
  pub source-there : (s : ℕ) → source_at sources e ≡ Some s → owns_in table ≡ owns → slice_get table s ≡ None → e < length owns → TakesAt owns sources e → ⊥
  unfolding owns_in
  source-there s has are none inside takes_at = no_source (slice_get owns e) (takes_at s has)
    where
      gone : slice_get owns s ≡ None
      gone = sym (ap (λ os. slice_get os s) are) ∙ slice_get-map (λ (settled : Settled). settled.own) table s ∙ ap (option_map (λ (settled : Settled). settled.own)) none

      no_source : (o : Option Own) → takes_of o (slice_get owns s) ≡ true → ⊥
      no_source None h = true≢false (sym h)
      no_source (Some own) h = true≢false (sym h ∙ ap (takes_of (Some own)) gone)

-- ---- along the order

pub table-long : (table : List Settled) (owns : List Own) → owns_in table ≡ owns → length table ≡ length owns
unfolding owns_in
table-long table owns are = sym (length-map table (λ (settled : Settled). settled.own)) ∙ ap (λ os. length os) are

got-other : {X : Type 0} (xs : List X) (i k : ℕ) (y : X) → (k ≡ i → ⊥) → slice_get (set xs i y) k ≡ slice_get xs k
got-other [] i k y other = refl
got-other (x ∷ xs) zero zero y other = absurd (other refl)
got-other (x ∷ xs) zero (suc k) y other = refl
got-other (x ∷ xs) (suc i) zero y other = refl
got-other (x ∷ xs) (suc i) (suc k) y other = got-other xs i k y (λ e. other (ap suc e))

got-same : {X : Type 0} (xs : List X) (i : ℕ) (y : X) → i < length xs → slice_get (set xs i y) i ≡ Some y
got-same [] i y inside = absurd (omega (arith, inside))
got-same (x ∷ xs) zero y inside = refl
got-same (x ∷ xs) (suc i) y inside = got-same xs i y (omega (arith, inside))

put-same : (xs : List Settled) (os : List Own) (i : ℕ) (y : Settled) → map (λ (s : Settled). s.own) xs ≡ os → slice_get os i ≡ Some y.own → map (λ (s : Settled). s.own) (set xs i y) ≡ os
put-same [] os i y are is = are
put-same (x ∷ xs) os zero y are is = ap (λ o. o ∷ map (λ (s : Settled). s.own) xs) (sym (same_Some x.own y.own (ap (λ l. slice_get l 0) are ∙ is))) ∙ are
put-same (x ∷ xs) [] (suc i) y are is = absurd cc
put-same (x ∷ xs) (o ∷ os) (suc i) y are is =
    ap₂ (λ a r. a ∷ r) (same_Some x.own o (ap (λ l. slice_get l 0) are)) (put-same xs os i y (ap (drop 1) are) is)

before-apart : (before after : List ℕ) (e : ℕ) → IsDistinct nat_eq (before ++ (e ∷ after)) → among e before ≡ true → ⊥
unfolding IsDistinct
before-apart [] after e distinct there = true≢false (sym there)
before-apart (x ∷ before) after e distinct there = at (before-apart before after e distinct.1) (nat_eq e x) refl there
  where
    found : (front : List ℕ) → AllByRecursion (λ y. nat_eq x y ≡ false) (front ++ (e ∷ after)) → nat_eq x e ≡ false
    found [] all = all.0
    found (y ∷ front) all = found front all.1

    at : (among e before ≡ true → ⊥) → (b : Bool) → nat_eq e x ≡ b → (b || among e before) ≡ true → ⊥
    at again true same h = true≢false (sym (eq-eqb x e (sym (eqb-true e x same))) ∙ found before distinct.0)
    at again false same h = again h

module _ (owns : List Own) (sources : List (Option ℕ)) (elements : List Element) (order : List ℕ) (ordered : IsOrder (needs elements) (length owns) order) (needed : NeedsSources sources (needs elements)) where
  pub number-inside : (i : ℕ) → i < length order → get_or order i 0 < length owns
  number-inside i inside = (ordered.whole (get_or order i 0)).0 (member order i inside)
    where
      member : (xs : List ℕ) (k : ℕ) → k < length xs → among (get_or xs k 0) xs ≡ true
      member [] k h = absurd (omega (arith, h))
      member (x ∷ xs) zero h = among-head x xs
      member (x ∷ xs) (suc k) h = or_right (nat_eq (get_or xs k 0) x) (among (get_or xs k 0) xs) (member xs k (omega (arith, h)))

  filled-step : (before after : List ℕ) (x : ℕ) (table : List Settled) (settled : Settled) → order ≡ before ++ (x ∷ after) → x < length table → IsFilled owns sources elements table before → Comes owns sources elements table x settled → IsFilled owns sources elements (set table x settled) (before ++ x ∷ [])
  unfolding owns_in keys_told plain_told
  filled-step before after x table settled whole inside filled comes = record {
    owns_are = put-same table owns x settled filled.owns_are comes.own;
    made = λ e there. elim (among-cases e before (x ∷ []) there) [
      | inl earlier ↦ stays e earlier
      | inr here ↦ subst (IsMade owns sources elements (set table x settled)) (sym (among-one e x here)) mine
    ];
    closed = λ e s there is. elim (among-cases e before (x ∷ []) there) [
      | inl earlier ↦ among-left s before (x ∷ []) (filled.closed e s earlier is)
      | inr here ↦ among-left s before (x ∷ []) (behind s (ap (source_at sources) (sym (among-one e x here)) ∙ is))
    ];
  }
    where
      behind : (s : ℕ) → source_at sources x ≡ Some s → among s before ≡ true
      behind s is = ordered.behind before after x s whole (needed x s is)

      apart : (e : ℕ) → among e before ≡ true → e ≡ x → ⊥
      apart e there same = before-apart before after x (subst (IsDistinct nat_eq) whole ordered.once) (subst (λ d. among d before ≡ true) same there)

      got : (e : ℕ) → among e before ≡ true → slice_get (set table x settled) e ≡ slice_get table e
      got e there = got-other table x e settled (apart e there)

      keys-stay : (e : ℕ) (o : Option ℕ) → ((s : ℕ) → o ≡ Some s → among s before ≡ true) → keys_made owns table e o ≡ keys_made owns (set table x settled) e o
      keys-stay e None there = refl
      keys-stay e (Some s) there = ap (λ found. taken (not (list_all is_word_byte (node_at owns e).name)) (node_at owns e).keys (keys_in found)) (sym (got s (there s refl)))

      children-stay : (e : ℕ) (o : Option ℕ) → ((s : ℕ) → o ≡ Some s → among s before ≡ true) → children_made owns elements table e o ≡ children_made owns elements (set table x settled) e o
      children-stay e None there = refl
      children-stay e (Some s) there = ap (λ found. plain_by (node_at owns e).kind (children_of owns (numbers_in found)) (children_of owns (parts_at elements e))) (sym (got s (there s refl)))

      stays : (e : ℕ) → among e before ≡ true → IsMade owns sources elements (set table x settled) e
      stays e earlier =
          let was = filled.made e earlier in
          record {
            keys = ap keys_in (got e earlier) ∙ was.keys ∙ keys-stay e (source_at sources e) (λ s is. filled.closed e s earlier is);
            children = ap (λ found. children_of owns (numbers_in found)) (got e earlier) ∙ was.children ∙ children-stay e (source_at sources e) (λ s is. filled.closed e s earlier is);
          }

      mine : IsMade owns sources elements (set table x settled) x
      mine = record {
        keys = ap keys_in (got-same table x settled inside) ∙ comes.keys ∙ keys-stay x (source_at sources x) behind;
        children = ap (λ found. children_of owns (numbers_in found)) (got-same table x settled inside) ∙ comes.children ∙ children-stay x (source_at sources x) behind;
      }

  -- one more is settled
  pub filled-more : (i : ℕ) (table : List Settled) (settled : Settled) → i < length order → IsFilled owns sources elements table (take i order) → Comes owns sources elements table (get_or order i 0) settled → IsFilled owns sources elements (set table (get_or order i 0) settled) (take (i + 1) order)
  filled-more i table settled inside filled comes =
      subst (IsFilled owns sources elements (set table (get_or order i 0) settled)) (sym (take_more order i 0 inside))
      (filled-step (take i order) (drop (i + 1) order) (get_or order i 0) table settled (sym (take-append-drop i order) ∙ ap (λ r. take i order ++ r) (drop_next order i inside)) (omega (arith, number-inside i inside, table-long table owns filled.owns_are)) filled comes)
