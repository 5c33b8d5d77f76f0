-- Keys in their order by rank, and what setting one does to the rows.
use Rattle.std.proofs.Common.{◌≡◌, ℕ, ◌<◌, Bool, true, false, cond, not, ◌&&◌, ◌||◌, nat_lt, nat_eq, List, [], ◌∷◌, ◌++◌, map, filter, refl, sym, ap, ap₂, ◌∙◌, subst, append-nil, append_assoc, arith, eqb-true, ltb-true, ltb-false, le-ltb, ne_eqb}
use Rattle.std.specs.List.{AllByRecursion}
use Rattle.std.proofs.lemmas.Bool.{eqb-false}
use Rattle.std.proofs.lemmas.List.{map-append}
use Rattle.std.proofs.lemmas.List.Elements.{filter-append, filter_agree}
use Rattle.svd_rows.specs.Edits.{within, with_keys}
use Rattle.svd_rows.specs.Forest.{Forest, Tree, leaf, node}
use Rattle.svd_rows.specs.Paths.{IsSame, begins, fits, exactly, is_within, is_at}
use Rattle.svd_rows.specs.Ranks.{IsRanked, set_key}
use Rattle.svd_rows.specs.RowEdits.{some_pass, added, is_below_rank, has_rank, with_key}
use Rattle.svd_rows.specs.Rows.{Row, Said, element, states, forest_rows, rows, own, under, under_path}
use Rattle.svd_rows.specs.Standing.{Stands}
use Rattle.svd_rows.proofs.Exchanging.{some_pass-weaker, some_pass-map, some_pass-agree}
use Rattle.svd_rows.proofs.Lists.{filter-map, map-map}
use Rattle.svd_rows.proofs.Passing.{some_pass-append, some_pass-left, filter-not_none, added-after, added-before}

-- keys that all have a greater rank
above-kept : {K : Type 0} (rank : K → ℕ) (n : ℕ) (keys : List K) → AllByRecursion (λ later. n < rank later) keys → filter (λ key. not (nat_eq (rank key) n)) keys ≡ keys
above-kept rank n [] h = refl
above-kept rank n (key ∷ keys) h =
    let apart : nat_eq (rank key) n ≡ false = ne_eqb (rank key) n (λ e. absurd (omega (arith, h.0))) in
    ap (λ b. cond (not b) (key ∷ filter (λ later. not (nat_eq (rank later) n)) keys) (filter (λ later. not (nat_eq (rank later) n)) keys)) apart
    ∙ ap (λ r. key ∷ r) (above-kept rank n keys h.1)

above-none : {X K : Type 0} (rank : K → ℕ) (n : ℕ) (test : X → Bool) (at : K → X) → ((key : K) → test (at key) ≡ nat_lt (rank key) n) → (keys : List K) → AllByRecursion (λ later. n < rank later) keys → some_pass test (map at keys) ≡ false
unfolding some_pass
above-none rank n test at law [] h = refl
above-none rank n test at law (key ∷ keys) h =
    let apart : nat_lt (rank key) n ≡ false = le-ltb (rank key) n (omega (arith, h.0)) in
    ap (λ b. b || some_pass test (map at keys)) (law key ∙ apart) ∙ above-none rank n test at law keys h.1

above-less : {K : Type 0} (rank : K → ℕ) (m n : ℕ) (keys : List K) → m < n → AllByRecursion (λ later. n < rank later) keys → AllByRecursion (λ later. m < rank later) keys
above-less rank m n [] less h = tt
above-less rank m n (key ∷ keys) less h = (omega (arith, h.0), above-less rank m n keys less h.1)

-- a key that is added after the keys of lower rank, where the one of its rank is left out
pub added-key : {X K : Type 0} (rank : K → ℕ) (test : X → Bool) (at : K → X) (new : K) → ((key : K) → test (at key) ≡ nat_lt (rank key) (rank new)) → (x : X) → test x ≡ true → (keys : List K) → IsRanked rank keys → added test (at new ∷ []) (x ∷ map at (filter (λ key. not (nat_eq (rank key) (rank new))) keys)) ≡ x ∷ map at (set_key rank new keys)
unfolding added some_pass set_key IsRanked
added-key {X = X} {K = K} rank test at new law x passes [] ranked = ap (λ b. cond b (x ∷ (at new ∷ [])) (x ∷ [])) passes
added-key {X = X} {K = K} rank test at new law x passes (key ∷ keys) ranked =
    cases (nat_lt (rank key) (rank new)) refl (nat_eq (rank key) (rank new)) refl (λ y h. added-key rank test at new law y h keys ranked.1)
  where
    kept : List K
    kept = filter (λ later. not (nat_eq (rank later) (rank new))) keys

    put_after : (tail : List X) → some_pass test tail ≡ false → added test (at new ∷ []) (x ∷ tail) ≡ x ∷ (at new ∷ tail)
    put_after tail none =
        ap (λ b. cond b (x ∷ added test (at new ∷ []) tail) (cond (test x) (x ∷ (at new ∷ tail)) (x ∷ tail))) none
        ∙ ap (λ b. cond b (x ∷ (at new ∷ tail)) (x ∷ tail)) passes

    above : nat_lt (rank key) (rank new) ≡ false → nat_eq (rank key) (rank new) ≡ false → rank new < rank key
    above not_low not_equal = let le = ltb-false (rank key) (rank new) not_low in let ne = eqb-false (rank key) (rank new) not_equal in omega (arith, le, ne)

    cases : (low : Bool) → nat_lt (rank key) (rank new) ≡ low → (equal : Bool) → nat_eq (rank key) (rank new) ≡ equal → ((y : X) → test y ≡ true → added test (at new ∷ []) (y ∷ map at kept) ≡ y ∷ map at (set_key rank new keys)) → added test (at new ∷ []) (x ∷ map at (cond (not (nat_eq (rank key) (rank new))) (key ∷ kept) kept)) ≡ x ∷ map at (cond (nat_lt (rank key) (rank new)) (key ∷ set_key rank new keys) (cond (nat_eq (rank key) (rank new)) (new ∷ keys) (new ∷ key ∷ keys)))
    cases true is_low equal is_equal rest =
        let lower : rank key < rank new = ltb-true (rank key) (rank new) is_low in
        let apart : nat_eq (rank key) (rank new) ≡ false = ne_eqb (rank key) (rank new) (λ e. absurd (omega arith)) in
        let passing : test (at key) ≡ true = law key ∙ is_low in
        ap (λ b. added test (at new ∷ []) (x ∷ map at (cond (not b) (key ∷ kept) kept))) apart
        ∙ ap (λ b. cond (b || some_pass test (map at kept)) (x ∷ added test (at new ∷ []) (at key ∷ map at kept)) (cond (test x) (x ∷ (at new ∷ (at key ∷ map at kept))) (x ∷ (at key ∷ map at kept)))) passing
        ∙ ap (λ r. x ∷ r) (rest (at key) passing)
        ∙ sym (ap (λ b. x ∷ map at (cond b (key ∷ set_key rank new keys) (cond (nat_eq (rank key) (rank new)) (new ∷ keys) (new ∷ key ∷ keys)))) is_low)
    cases false not_low true is_equal rest =
        let same : rank key ≡ rank new = eqb-true (rank key) (rank new) is_equal in
        let later : AllByRecursion (λ other. rank new < rank other) keys = subst (λ n. AllByRecursion (λ other. n < rank other) keys) same ranked.0 in
        ap (λ b. added test (at new ∷ []) (x ∷ map at (cond (not b) (key ∷ kept) kept))) is_equal
        ∙ ap (λ r. added test (at new ∷ []) (x ∷ map at r)) (above-kept rank (rank new) keys later)
        ∙ put_after (map at keys) (above-none rank (rank new) test at law keys later)
        ∙ sym (ap (λ b. x ∷ map at (cond b (key ∷ set_key rank new keys) (cond (nat_eq (rank key) (rank new)) (new ∷ keys) (new ∷ key ∷ keys)))) not_low
        ∙ ap (λ b. x ∷ map at (cond b (new ∷ keys) (new ∷ key ∷ keys))) is_equal)
    cases false not_low false not_equal rest =
        let least : rank new < rank key = above not_low not_equal in
        let later : AllByRecursion (λ other. rank new < rank other) keys = above-less rank (rank new) (rank key) keys least ranked.0 in
        ap (λ b. added test (at new ∷ []) (x ∷ map at (cond (not b) (key ∷ kept) kept))) not_equal
        ∙ ap (λ r. added test (at new ∷ []) (x ∷ map at (key ∷ r))) (above-kept rank (rank new) keys later)
        ∙ put_after (at key ∷ map at keys) (ap (λ b. b || some_pass test (map at keys)) (law key ∙ not_low) ∙ above-none rank (rank new) test at law keys later)
        ∙ sym (ap (λ b. x ∷ map at (cond b (key ∷ set_key rank new keys) (cond (nat_eq (rank key) (rank new)) (new ∷ keys) (new ∷ key ∷ keys)))) not_low
        ∙ ap (λ b. x ∷ map at (cond b (new ∷ keys) (new ∷ key ∷ keys))) not_equal)

-- ---- the rows of an element, one key of which is set

-- the steps of no row below a path are exactly those of the path
fits-begins : {S : Type 0} (tests : List (S → Bool)) (path : List S) → begins tests path ≡ false → fits tests path ≡ false
unfolding begins fits
fits-begins [] path e = absurd cc
fits-begins (test ∷ tests) [] e = refl
fits-begins (test ∷ tests) (step ∷ path) e = cases (test step) (fits-begins tests path) e
  where
    cases : (b : Bool) → (begins tests path ≡ false → fits tests path ≡ false) → (b && begins tests path) ≡ false → (b && fits tests path) ≡ false
    cases true rest h = rest h
    cases false rest h = refl

no_more : (S : Type 0) → fits {S = S} [] [] ≡ true
unfolding fits
no_more S = refl

fits-behind : {S : Type 0} (same : S → S → Bool) → IsSame same → (path below : List S) → fits (exactly same path) (path ++ below) ≡ fits [] below
unfolding fits
fits-behind same law [] below = refl
fits-behind same law (step ∷ path) below = ap (λ b. b && fits (exactly same path) (path ++ below)) (law.itself step) ∙ fits-behind same law path below

module _ {S K : Type 0} where
  -- the test for a row of the element itself whose saying passes
  here : (S → S → Bool) → List S → (Said K → Bool) → Row S K → Bool
  here same path test row = is_at (exactly same path) row && test row.said

  top : (Said K → Bool) → Row S K → Bool
  top test row = is_at [] row && test row.said

  here-elsewhere : (same : S → S → Bool) (path : List S) (test : Said K → Bool) (all : List (Row S K)) → some_pass (is_within (exactly same path)) all ≡ false → some_pass (here same path test) all ≡ false
  unfolding here
  here-elsewhere same path test all e =
      some_pass-weaker (is_within (exactly same path)) (here same path test) (λ row h. ap (λ b. b && test row.said) (fits-begins (exactly same path) row.path h)) all e

  here-behind : (same : S → S → Bool) → IsSame same → (path : List S) (test : Said K → Bool) (row : Row S K) → here same path test (under_path path row) ≡ top test row
  unfolding here top under_path
  here-behind same law path test row = ap (λ b. b && test row.said) (fits-behind same law path row.path)

  under-top : (test : Said K → Bool) (s : S) (all : List (Row S K)) → some_pass (top test) (map (under s) all) ≡ false
  unfolding some_pass top under fits
  under-top test s [] = refl
  under-top test s (row ∷ all) = under-top test s all

  -- no row of a forest is one of the element above it
  below-top : (test : Said K → Bool) (siblings : Forest S K) → some_pass (top test) (forest_rows siblings) ≡ false
  unfolding forest_rows some_pass
  below-top test leaf = refl
  below-top test (node s ks c n) =
      some_pass-append (top test) (map (under s) (own ks ++ forest_rows c)) (forest_rows n) (down test s (own ks ++ forest_rows c))
      ∙ below-top test n
    where
      down : (test : Said K → Bool) (s : S) (all : List (Row S K)) → some_pass (top test) (map (under s) all) ≡ false
      down test s all = under-top test s all

  -- without the key of that rank
  filter-own : (rank : K → ℕ) (n : ℕ) (keys : List K) → filter (λ (row : Row S K). not (top (has_rank rank n) row)) (own keys) ≡ own (filter (λ key. not (nat_eq (rank key) n)) keys)
  unfolding own top has_rank fits
  filter-own rank n keys =
      ap (λ r. record { path = []; said = element } ∷ r)
      (filter-map (λ (row : Row S K). not (is_at [] row && has_rank rank n row.said)) (λ key. record { path = []; said = states key }) keys)

  filter-tree : (rank : K → ℕ) (n : ℕ) (tree : Tree S K) → filter (λ (row : Row S K). not (top (has_rank rank n) row)) (rows tree) ≡ own (filter (λ key. not (nat_eq (rank key) n)) tree.keys) ++ forest_rows tree.below
  unfolding rows
  filter-tree rank n tree =
      filter-append (λ row. not (top (has_rank rank n) row)) (own tree.keys) (forest_rows tree.below)
      ∙ ap₂ (λ a b. a ++ b) (filter-own rank n tree.keys) (filter-not_none (top (has_rank rank n)) (forest_rows tree.below) (below-top (has_rank rank n) tree.below))

  filter-here : (same : S → S → Bool) → IsSame same → (path : List S) (test : Said K → Bool) (all : List (Row S K)) → filter (λ row. not (here same path test row)) (map (under_path path) all) ≡ map (under_path path) (filter (λ row. not (top test row)) all)
  filter-here same law path test all =
      filter-map (λ row. not (here same path test row)) (under_path path) all
      ∙ ap (map (under_path path)) (filter_agree (λ row. not (here same path test (under_path path row))) (λ row. not (top test row)) (λ row. ap not (here-behind same law path test row)) all)

  own-set : (same : S → S → Bool) → IsSame same → (rank : K → ℕ) (path : List S) (key : K) (keys : List K) → IsRanked rank keys → added (here same path (is_below_rank rank (rank key))) (record { path = path; said = states key } ∷ []) (map (under_path path) (own (filter (λ other. not (nat_eq (rank other) (rank key))) keys))) ≡ map (under_path path) (own (set_key rank key keys))
  unfolding own is_below_rank here under_path
  own-set same law rank path key keys ranked =
      ap (λ p. added test (record { path = p; said = states key } ∷ []) (record { path = path ++ []; said = element } ∷ map (under_path path) (map top_row (filter (λ other. not (nat_eq (rank other) (rank key))) keys)))) (sym (append-nil path))
      ∙ ap (λ r. added test (at key ∷ []) (record { path = path ++ []; said = element } ∷ r)) (map-map (under_path path) top_row (filter (λ other. not (nat_eq (rank other) (rank key))) keys))
      ∙ added-key rank test at key law_of (record { path = path ++ []; said = element }) (is_here element) keys ranked
      ∙ ap (λ r. record { path = path ++ []; said = element } ∷ r) (sym (map-map (under_path path) top_row (set_key rank key keys)))
    where
      top_row : K → Row S K
      top_row k = record { path = []; said = states k }

      at : K → Row S K
      at k = record { path = path ++ []; said = states k }

      test : Row S K → Bool
      test = here same path (is_below_rank rank (rank key))

      is_here : (said : Said K) → test (record { path = path ++ []; said = said }) ≡ is_below_rank rank (rank key) said
      is_here said = ap (λ b. b && is_below_rank rank (rank key) said) (fits-behind same law path [] ∙ no_more S)

      law_of : (k : K) → test (at k) ≡ nat_lt (rank k) (rank key)
      law_of k = is_here (states k)

  element-here : (same : S → S → Bool) → IsSame same → (path : List S) (rank : K → ℕ) (n : ℕ) → here same path (is_below_rank rank n) (under_path path (record { path = []; said = element })) ≡ true
  unfolding is_below_rank top
  element-here same law path rank n = here-behind same law path (is_below_rank rank n) (record { path = []; said = element }) ∙ ap (λ b. b && true) (no_more S)

  -- the key is set behind the rows of the element that stand before it, and before the rows below the element
  added-here : (same : S → S → Bool) → IsSame same → (rank : K → ℕ) (path : List S) (key : K) (keys : List K) (siblings : Forest S K) (before after : List (Row S K)) → IsRanked rank keys → some_pass (here same path (is_below_rank rank (rank key))) before ≡ false → some_pass (here same path (is_below_rank rank (rank key))) after ≡ false → added (here same path (is_below_rank rank (rank key))) (record { path = path; said = states key } ∷ []) (before ++ (map (under_path path) (own (filter (λ other. not (nat_eq (rank other) (rank key))) keys) ++ forest_rows siblings) ++ after)) ≡ before ++ (map (under_path path) (own (set_key rank key keys) ++ forest_rows siblings) ++ after)
  unfolding own some_pass is_below_rank
  added-here same law rank path key keys siblings before after ranked none_before none_after =
      ap (λ r. added test new (before ++ (r ++ after))) (map-append (under_path path) (own kept) (forest_rows siblings))
      ∙ ap (λ r. added test new (before ++ r)) (append_assoc (map (under_path path) (own kept)) (map (under_path path) (forest_rows siblings)) after)
      ∙ added-after test new before (map (under_path path) (own kept) ++ (map (under_path path) (forest_rows siblings) ++ after))
      (some_pass-left test (map (under_path path) (own kept)) (map (under_path path) (forest_rows siblings) ++ after) some_own)
      ∙ ap (λ r. before ++ r)
      (added-before test new (map (under_path path) (own kept)) (map (under_path path) (forest_rows siblings) ++ after) none_below
      ∙ ap (λ r. r ++ (map (under_path path) (forest_rows siblings) ++ after)) (own-set same law rank path key keys ranked)
      ∙ sym (append_assoc (map (under_path path) (own (set_key rank key keys))) (map (under_path path) (forest_rows siblings)) after)
      ∙ sym (ap (λ r. r ++ after) (map-append (under_path path) (own (set_key rank key keys)) (forest_rows siblings))))
    where
      kept : List K
      kept = filter (λ other. not (nat_eq (rank other) (rank key))) keys

      test : Row S K → Bool
      test = here same path (is_below_rank rank (rank key))

      new : List (Row S K)
      new = record { path = path; said = states key } ∷ []

      some_own : some_pass test (map (under_path path) (own kept)) ≡ true
      some_own = ap (λ b. b || some_pass test (map (under_path path) (map (λ k. record { path = []; said = states k }) kept))) (element-here same law path rank (rank key))

      none_below : some_pass test (map (under_path path) (forest_rows siblings) ++ after) ≡ false
      none_below =
          some_pass-append test (map (under_path path) (forest_rows siblings)) after
          (some_pass-map test (under_path path) (forest_rows siblings)
          ∙ some_pass-agree (λ row. test (under_path path row)) (top (is_below_rank rank (rank key))) (λ row. here-behind same law path (is_below_rank rank (rank key)) row) (forest_rows siblings)
          ∙ below-top (is_below_rank rank (rank key)) siblings)
          ∙ none_after

  -- setting a key of an element is replacing its row, or adding one behind those of lower rank
  pub rows-with_keys : (same : S → S → Bool) → IsSame same → (rank : K → ℕ) (path : List S) (key : K) (tree part : Tree S K) → Stands same path tree part → IsRanked rank part.keys → rows (within (exactly same path) (with_keys (set_key rank key)) tree) ≡ with_key same rank path key (rows tree)
  unfolding with_key here rows
  rows-with_keys same law rank path key tree part stands ranked =
      stands.edited (with_keys (set_key rank key))
      ∙ sym
      (ap (λ r. added (here same path (is_below_rank rank (rank key))) (record { path = path; said = states key } ∷ []) r)
      (ap (filter kept) stands.stands
      ∙ filter-append kept stands.before (map (under_path path) (rows part) ++ stands.after)
      ∙ ap₂ (λ a b. a ++ b)
      (filter-not_none (here same path (has_rank rank (rank key))) stands.before (here-elsewhere same path (has_rank rank (rank key)) stands.before stands.elsewhere_before))
      (filter-append kept (map (under_path path) (rows part)) stands.after
      ∙ ap₂ (λ a b. a ++ b)
      (filter-here same law path (has_rank rank (rank key)) (rows part) ∙ ap (map (under_path path)) (filter-tree rank (rank key) part))
      (filter-not_none (here same path (has_rank rank (rank key))) stands.after (here-elsewhere same path (has_rank rank (rank key)) stands.after stands.elsewhere_after))))
      ∙ added-here same law rank path key part.keys part.below stands.before stands.after ranked
      (here-elsewhere same path (is_below_rank rank (rank key)) stands.before stands.elsewhere_before)
      (here-elsewhere same path (is_below_rank rank (rank key)) stands.after stands.elsewhere_after))
    where
      kept : Row S K → Bool
      kept row = not (here same path (has_rank rank (rank key)) row)

  -- leaving out the key of a rank is leaving out its row
  pub rows-without_key : (same : S → S → Bool) → IsSame same → (rank : K → ℕ) (path : List S) (n : ℕ) (tree part : Tree S K) → Stands same path tree part → rows (within (exactly same path) (with_keys (filter (λ key. not (nat_eq (rank key) n)))) tree) ≡ filter (λ row. not (is_at (exactly same path) row && has_rank rank n row.said)) (rows tree)
  unfolding here rows
  rows-without_key same law rank path n tree part stands =
      stands.edited (with_keys (filter (λ key. not (nat_eq (rank key) n))))
      ∙ sym
      (ap (filter kept) stands.stands
      ∙ filter-append kept stands.before (map (under_path path) (rows part) ++ stands.after)
      ∙ ap₂ (λ a b. a ++ b)
      (filter-not_none (here same path (has_rank rank n)) stands.before (here-elsewhere same path (has_rank rank n) stands.before stands.elsewhere_before))
      (filter-append kept (map (under_path path) (rows part)) stands.after
      ∙ ap₂ (λ a b. a ++ b)
      (filter-here same law path (has_rank rank n) (rows part) ∙ ap (map (under_path path)) (filter-tree rank n part))
      (filter-not_none (here same path (has_rank rank n)) stands.after (here-elsewhere same path (has_rank rank n) stands.after stands.elsewhere_after))))
    where
      kept : Row S K → Bool
      kept row = not (here same path (has_rank rank n) row)
