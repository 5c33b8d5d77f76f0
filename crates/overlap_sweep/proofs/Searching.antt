-- The members that are kept in a block are all with which a member of that block can share a byte.
use Rattle.std.proofs.Common.{◌≡◌, ℕ, zero, suc, ◌+◌, ◌*◌, ◌/◌, ◌%◌, ◌<◌, ◌≤◌, Bool, true, false, ◌&&◌, ◌||◌, not, nat_eq, cond, List, [], ◌∷◌, ◌++◌, length, filter, take, drop, slice_get, Option, Some, None, option_map, refl, sym, ap, ap₂, ◌∙◌, subst, arith, append-nil, append_assoc}
use Rattle.std.specs.List.{AllByRecursion, find}
use Rattle.std.specs.Map.{lookup}
use Rattle.std.proofs.lemmas.Bool.Decides.{nat_tests}
use Rattle.std.proofs.lemmas.List.{take-append-drop}
use Rattle.std.proofs.lemmas.List.Elements.{filter-append}
use Rattle.std.proofs.lemmas.Option.{slice_get_past}
use Rattle.pac_base.specs.declared.width.Width.{Width}
use Rattle.pac_base.specs.declared.width.Width.TheVariants.{W8, W16, W32, W64}
use Rattle.overlap_sweep.specs.Fields.{share_one}
use Rattle.overlap_sweep.specs.Search.{IsEven, Keeps, block_of, first_against, first_pair, is_kept_in, kept_in, numbered_from, or_else, same_slot}
use Rattle.overlap_sweep.specs.Sought.{IsSought, meets_at, meets_it}
use Rattle.overlap_sweep.specs.Spots.{meets, same_peripheral}
use Rattle.overlap_sweep.specs.declared.search.Slot.{Slot}
use Rattle.overlap_sweep.specs.declared.search.Sought.{Sought}
use Rattle.overlap_sweep.specs.declared.search.Sought.TheVariants.{Met, Free}
use Rattle.overlap_sweep.specs.declared.spot.Spot.{Spot}
use Rattle.svd_model.specs.Checking.{bytes_of}

-- ---- a block of eight bytes

-- what is a multiple of its bytes lies within one block
in_block : (start : ℕ) (width : Width) → start % bytes_of width ≡ 0 → start + bytes_of width ≤ start / 8 * 8 + 8
in_block start W8 even = omega (arith, even)
in_block start W16 even = omega (arith, even)
in_block start W32 even = omega (arith, even)
in_block start W64 even = omega (arith, even)

from_share : (a v b w : ℕ) → share_one a v b w ≡ true → (a < b + w) × (b < a + v)
from_share a v b w h = (grind (arith, nat_tests, h), grind (arith, nat_tests, h))

same_block : (a b : ℕ) (v w : Width) → a % bytes_of v ≡ 0 → b % bytes_of w ≡ 0 → share_one a (bytes_of v) b (bytes_of w) ≡ true → a / 8 ≡ b / 8
same_block a b v w even other h =
    let share = from_share a (bytes_of v) b (bytes_of w) h in
    let one : a + bytes_of v ≤ a / 8 * 8 + 8 = in_block a v even in
    let two : b + bytes_of w ≤ b / 8 * 8 + 8 = in_block b w other in
    let below : a / 8 * 8 ≤ a = omega arith in
    let beneath : b / 8 * 8 ≤ b = omega arith in
    omega (arith, share.0, share.1, one, two, below, beneath)

-- ---- what a meeting says

both : (a b : Bool) → (a && b) ≡ true → (a ≡ true) × (b ≡ true)
both true b h = (refl, h)
both false b h = absurd cc

neither : (a b : Bool) → not (a || b) ≡ true → (a ≡ false) × (not b ≡ true)
neither true b h = absurd cc
neither false b h = (refl, h)

met-kept : (n : ℕ) (earlier spot : Spot) → IsEven earlier → IsEven spot → meets earlier spot ≡ true → is_kept_in (block_of spot) (n, earlier) ≡ true
unfolding meets IsEven
met-kept n earlier spot even other h =
    let first = both (same_peripheral earlier.way spot.way) _ h in
    let second = both (share_one earlier.start earlier.bytes spot.start spot.bytes) _ first.1 in
    let grouped = neither (earlier.grouped || spot.grouped) _ second.1 in
    let alone = one earlier.grouped spot.grouped grouped.0 in
    let share = subst (λ (v : ℕ). share_one earlier.start v spot.start spot.bytes ≡ true) even.1 second.0 in
    let both_share = subst (λ (w : ℕ). share_one earlier.start (bytes_of even.0) spot.start w ≡ true) other.1 share in
    let block = same_block earlier.start spot.start even.0 other.0 even.2 other.2 both_share in
    ap₂ (λ b g. b && not g) (equal (earlier.start / 8) (spot.start / 8) block) alone
  where
    one : (a b : Bool) → (a || b) ≡ false → a ≡ false
    one true b h = absurd cc
    one false b h = refl

    equal : (a b : ℕ) → a ≡ b → nat_eq a b ≡ true
    equal a b e = grind (arith, nat_tests, e)

-- ---- among those before and among those kept

among-kept : (spot : Spot) → IsEven spot → (n : ℕ) (before : List Spot) → AllByRecursion IsEven before → first_against meets spot before ≡ option_map (λ entry. entry.1) (find (λ entry. meets entry.1 spot) (filter (is_kept_in (block_of spot)) (numbered_from n before)))
unfolding numbered_from
among-kept spot even n [] all = refl
among-kept spot even n (earlier ∷ before) all =
    cases (filter (is_kept_in (block_of spot)) (numbered_from (n + 1) before)) (among-kept spot even (n + 1) before all.1) (meets earlier spot) refl (is_kept_in (block_of spot) (n, earlier)) refl
  where
    cases : (left : List (ℕ × Spot)) → first_against meets spot before ≡ option_map (λ entry. entry.1) (find (λ entry. meets entry.1 spot) left) → (m : Bool) → meets earlier spot ≡ m → (k : Bool) → is_kept_in (block_of spot) (n, earlier) ≡ k → cond (meets earlier spot) (Some earlier) (first_against meets spot before) ≡ option_map (λ entry. entry.1) (find (λ entry. meets entry.1 spot) (cond (is_kept_in (block_of spot) (n, earlier)) ((n, earlier) ∷ left) left))
    cases left rest true m false k = absurd (let kept = sym k ∙ met-kept n earlier spot all.0 even m in cc)
    cases left rest true m true k = rw (k, m) refl
    cases left rest false m true k = rw (k, m) rest
    cases left rest false m false k = rw (k, m) rest

-- ---- lists by places

pub drop-here : {X : Type 0} (xs : List X) (r : ℕ) (x : X) → slice_get xs r ≡ Some x → drop r xs ≡ x ∷ drop (suc r) xs
drop-here [] r x h = absurd cc
drop-here {X = X} (y ∷ xs) zero x h = let same : y ≡ x = cc in ap (λ (z : X). z ∷ xs) same
drop-here (y ∷ xs) (suc r) x h = drop-here xs r x h

pub take-here : {X : Type 0} (xs : List X) (r : ℕ) (x : X) → slice_get xs r ≡ Some x → take (suc r) xs ≡ take r xs ++ x ∷ []
take-here [] r x h = absurd cc
take-here {X = X} (y ∷ xs) zero x h = let same : y ≡ x = cc in ap (λ (z : X). z ∷ []) same
take-here (y ∷ xs) (suc r) x h = ap (λ r. y ∷ r) (take-here xs r x h)

pub drop-beyond : {X : Type 0} (xs : List X) (r : ℕ) → slice_get xs r ≡ None → drop r xs ≡ []
drop-beyond [] zero h = refl
drop-beyond [] (suc r) h = refl
drop-beyond (y ∷ xs) zero h = absurd cc
drop-beyond (y ∷ xs) (suc r) h = drop-beyond xs r h

pub beyond : {X : Type 0} (xs : List X) (r : ℕ) → slice_get xs r ≡ None → length xs ≤ r
beyond [] r h = omega arith
beyond (y ∷ xs) zero h = absurd cc
beyond (y ∷ xs) (suc r) h = let rest = beyond xs r h in omega (arith, rest)

pub within : {X : Type 0} (xs : List X) (r : ℕ) (x : X) → slice_get xs r ≡ Some x → suc r ≤ length xs
within [] r x h = absurd cc
within (y ∷ xs) zero x h = omega arith
within (y ∷ xs) (suc r) x h = let rest = within xs r x h in omega (arith, rest)

length-take_here : {X : Type 0} (xs : List X) (r : ℕ) (x : X) → slice_get xs r ≡ Some x → length (take r xs) ≡ r
length-take_here [] r x h = absurd cc
length-take_here (y ∷ xs) zero x h = refl
length-take_here (y ∷ xs) (suc r) x h = ap suc (length-take_here xs r x h)

every-at : {X : Type 0} (P : X → Type 0) (xs : List X) → AllByRecursion P xs → (r : ℕ) (x : X) → slice_get xs r ≡ Some x → P x
every-at P [] all r x h = absurd cc
every-at {X = X} P (y ∷ xs) all zero x h = let same : y ≡ x = cc in subst P same all.0
every-at P (y ∷ xs) all (suc r) x h = every-at P xs all.1 r x h

every-filter : {X : Type 0} (P : X → Type 0) (test : X → Bool) (xs : List X) → AllByRecursion P xs → AllByRecursion P (filter test xs)
every-filter P test [] all = tt
every-filter P test (x ∷ xs) all = cases (test x) (every-filter P test xs all.1)
  where
    cases : (b : Bool) → AllByRecursion P (filter test xs) → AllByRecursion P (cond b (x ∷ filter test xs) (filter test xs))
    cases true others = (all.0, others)
    cases false others = others

pub every-take : {X : Type 0} (P : X → Type 0) (n : ℕ) (xs : List X) → AllByRecursion P xs → AllByRecursion P (take n xs)
every-take P zero xs all = tt
every-take P (suc n) [] all = tt
every-take P (suc n) (x ∷ xs) all = (all.0, every-take P n xs all.1)

-- a member has the place that it is kept with
numbered-placed : (before xs : List Spot) → AllByRecursion (λ entry. slice_get (before ++ xs) entry.0 ≡ Some entry.1) (numbered_from (length before) xs)
unfolding numbered_from
numbered-placed before [] = tt
numbered-placed before (x ∷ xs) = (
  here before,
  subst (λ (all : List Spot). AllByRecursion (λ entry. slice_get all entry.0 ≡ Some entry.1) (numbered_from (length before + 1) xs)) (append_assoc before (x ∷ []) xs)
      (subst (λ (n : ℕ). AllByRecursion (λ entry. slice_get ((before ++ x ∷ []) ++ xs) entry.0 ≡ Some entry.1) (numbered_from n xs)) (longer before) (numbered-placed (before ++ x ∷ []) xs)),
)
  where
    here : (ys : List Spot) → slice_get (ys ++ x ∷ xs) (length ys) ≡ Some x
    here [] = refl
    here (y ∷ ys) = here ys

    longer : (ys : List Spot) → length (ys ++ x ∷ []) ≡ length ys + 1
    longer [] = refl
    longer (y ∷ ys) = let rest = longer ys in omega (arith, rest)

slice_get-more : {X : Type 0} (xs ys : List X) (r : ℕ) (x : X) → slice_get xs r ≡ Some x → slice_get (xs ++ ys) r ≡ Some x
slice_get-more [] ys r x h = absurd cc
slice_get-more (y ∷ xs) ys zero x h = h
slice_get-more (y ∷ xs) ys (suc r) x h = slice_get-more xs ys r x h

slice_get-push : {X : Type 0} (xs : List X) (x : X) (r : ℕ) → slice_get (xs ++ x ∷ []) r ≡ cond (nat_eq (length xs) r) (Some x) (slice_get xs r)
slice_get-push [] x zero = refl
slice_get-push [] x (suc r) = sym (ap (λ b. cond b (Some x) None) (let never : nat_eq 0 (suc r) ≡ false = grind (arith, nat_tests) in never))
slice_get-push {X = X} (y ∷ xs) x zero = sym (ap (λ b. cond b (Some x) (Some y)) (let never : nat_eq (suc (length xs)) 0 ≡ false = grind (arith, nat_tests) in never))
slice_get-push {X = X} (y ∷ xs) x (suc r) = slice_get-push xs x r ∙ ap (λ b. cond b (Some x) (slice_get xs r)) (same (length xs) r)
  where
    same : (a b : ℕ) → nat_eq a b ≡ nat_eq (suc a) (suc b)
    same a b = cases (nat_eq a b) refl
      where
        cases : (t : Bool) → nat_eq a b ≡ t → t ≡ nat_eq (suc a) (suc b)
        cases true is = grind (arith, nat_tests, is)
        cases false is = grind (arith, nat_tests, is)

length-filter : {X : Type 0} (test : X → Bool) (xs : List X) → length (filter test xs) ≤ length xs
length-filter test [] = omega arith
length-filter {X = X} test (x ∷ xs) = cases (test x) (length-filter test xs)
  where
    cases : (b : Bool) → length (filter test xs) ≤ length xs → length (cond b (x ∷ filter test xs) (filter test xs)) ≤ suc (length xs)
    cases true h = omega (arith, h)
    cases false h = omega (arith, h)

length-numbered : (n : ℕ) (xs : List Spot) → length (numbered_from n xs) ≡ length xs
unfolding numbered_from
length-numbered n [] = refl
length-numbered n (x ∷ xs) = ap suc (length-numbered (n + 1) xs)

kept-most : (block : ℕ) (xs : List Spot) → length (kept_in block xs) ≤ length xs
unfolding kept_in
kept-most block xs = let most = length-filter (is_kept_in block) (numbered_from 0 xs) in let same = length-numbered 0 xs in omega (arith, most, same)

numbered-push : (n : ℕ) (xs : List Spot) (x : Spot) → numbered_from n (xs ++ x ∷ []) ≡ numbered_from n xs ++ (n + length xs, x) ∷ []
unfolding numbered_from
numbered-push n [] x = ap (λ m. (m, x) ∷ []) (omega arith)
numbered-push n (y ∷ xs) x = ap (λ r. (n, y) ∷ r) (numbered-push (n + 1) xs x ∙ ap (λ m. numbered_from (n + 1) xs ++ (m, x) ∷ []) (omega arith))

kept-push : (block : ℕ) (xs : List Spot) (x : Spot) → kept_in block (xs ++ x ∷ []) ≡ kept_in block xs ++ cond (nat_eq (block_of x) block && not x.grouped) ((length xs, x) ∷ []) []
unfolding kept_in
kept-push block xs x =
    ap (filter (is_kept_in block)) (numbered-push 0 xs x ∙ ap (λ n. numbered_from 0 xs ++ (n, x) ∷ []) (omega arith))
    ∙ filter-append (is_kept_in block) (numbered_from 0 xs) ((length xs, x) ∷ [])

-- ---- what is kept

module _ (spots : List Spot) (place : ℕ) (spot : Spot) (here : slice_get spots place ≡ Some spot) where
  before_it : List Spot
  before_it = take place spots

  next-take : take (place + 1) spots ≡ before_it ++ spot ∷ []
  unfolding before_it
  next-take = let next : place + 1 ≡ suc place = omega arith in ap (λ n. take n spots) next ∙ take-here spots place spot here

  as_many : length before_it ≡ place
  unfolding before_it
  as_many = length-take_here spots place spot here

  kept-next : (block : ℕ) → kept_in block (take (place + 1) spots) ≡ kept_in block (take place spots) ++ cond (nat_eq (block_of spot) block && not spot.grouped) ((place, spot) ∷ []) []
  unfolding before_it
  kept-next block =
      ap (kept_in block) next-take ∙ kept-push block before_it spot ∙ ap (λ n. kept_in block before_it ++ cond (nat_eq (block_of spot) block && not spot.grouped) ((n, spot) ∷ []) []) as_many

  -- one that may share its bytes with all isn't kept
  pub keeps-same : (entries : List (Slot × ℕ)) → spot.grouped ≡ true → Keeps (take place spots) entries → Keeps (take (place + 1) spots) entries
  unfolding Keeps
  keeps-same entries grouped keeps block rank =
      keeps block rank
      ∙ ap (λ kept. option_map (λ entry. entry.0) (slice_get kept rank))
      (sym (kept-next block ∙ ap (λ b. kept_in block (take place spots) ++ cond (nat_eq (block_of spot) block && not b) ((place, spot) ∷ []) []) grouped ∙ ap (λ b. kept_in block (take place spots) ++ cond b ((place, spot) ∷ []) []) (never (nat_eq (block_of spot) block)) ∙ append-nil (kept_in block (take place spots))))
    where
      never : (b : Bool) → (b && false) ≡ false
      never true = refl
      never false = refl

  -- the next of its block
  pub keeps-more : (entries more : List (Slot × ℕ)) (rank : ℕ) → rank ≡ length (kept_in (block_of spot) (take place spots)) → spot.grouped ≡ false → Keeps (take place spots) entries → ((q : Slot) → lookup (same_slot q) more ≡ cond (same_slot (record { block = block_of spot; rank = rank }) q) (Some place) (lookup (same_slot q) entries)) → Keeps (take (place + 1) spots) more
  unfolding Keeps
  keeps-more entries more next is_next alone keeps adds block rank =
      adds (record { block = block; rank = rank })
      ∙ ap (λ o. cond (nat_eq (block_of spot) block && nat_eq next rank) (Some place) o) (keeps block rank)
      ∙ by (nat_eq (block_of spot) block) refl
      ∙ sym (ap (λ kept. option_map (λ entry. entry.0) (slice_get kept rank)) (kept-next block ∙ ap (λ b. kept_in block (take place spots) ++ cond (nat_eq (block_of spot) block && not b) ((place, spot) ∷ []) []) alone ∙ ap (λ b. kept_in block (take place spots) ++ cond b ((place, spot) ∷ []) []) (always (nat_eq (block_of spot) block))))
    where
      always : (b : Bool) → (b && true) ≡ b
      always true = refl
      always false = refl

      last : (b : Bool) (o : Option (ℕ × Spot)) → cond b (Some place) (option_map (λ (entry : ℕ × Spot). entry.0) o) ≡ option_map (λ (entry : ℕ × Spot). entry.0) (cond b (Some (place, spot)) o)
      last true o = refl
      last false o = refl

      by : (b : Bool) → nat_eq (block_of spot) block ≡ b → cond (b && nat_eq next rank) (Some place) (option_map (λ entry. entry.0) (slice_get (kept_in block (take place spots)) rank)) ≡ option_map (λ entry. entry.0) (slice_get (kept_in block (take place spots) ++ cond b ((place, spot) ∷ []) []) rank)
      by true is =
          let same : block_of spot ≡ block = grind (arith, nat_tests, is) in
          last (nat_eq next rank) (slice_get (kept_in block (take place spots)) rank)
          ∙ ap (option_map (λ entry. entry.0))
          (ap (λ n. cond (nat_eq n rank) (Some (place, spot)) (slice_get (kept_in block (take place spots)) rank)) (is_next ∙ ap (λ b. length (kept_in b (take place spots))) same)
          ∙ sym (slice_get-push (kept_in block (take place spots)) (place, spot) rank))
      by false is = ap (λ kept. option_map (λ entry. entry.0) (slice_get kept rank)) (sym (append-nil (kept_in block (take place spots))))

-- ---- what is sought

entry-at : (o : Option (ℕ × Spot)) (first : ℕ) → Some first ≡ option_map (λ entry. entry.0) o → (spot : Spot) × (o ≡ Some (first, spot))
entry-at None first h = absurd cc
entry-at (Some entry) first h = let same : entry.0 ≡ first = cc in (entry.1, ap (λ n. Some (n, entry.1)) same)

no-entry : (o : Option (ℕ × Spot)) → option_map (λ entry. entry.0) o ≡ None → o ≡ None
no-entry None h = refl
no-entry (Some entry) h = absurd cc

module _ (spots : List Spot) (place : ℕ) (spot : Spot) (all : AllByRecursion IsEven spots) (here : slice_get spots place ≡ Some spot) where
  abbrev kept : List (ℕ × Spot)
  kept = kept_in (block_of spot) (take place spots)

  abbrev meets_this : ℕ × Spot → Bool
  meets_this entry = meets entry.1 spot

  placed : AllByRecursion (λ entry. slice_get spots entry.0 ≡ Some entry.1) kept
  unfolding kept_in
  placed =
      every-filter (λ entry. slice_get spots entry.0 ≡ Some entry.1) (is_kept_in (block_of spot)) (numbered_from 0 (take place spots))
      (each (numbered_from 0 (take place spots)) (numbered-placed [] (take place spots)))
    where
      each : (entries : List (ℕ × Spot)) → AllByRecursion (λ entry. slice_get (take place spots) entry.0 ≡ Some entry.1) entries → AllByRecursion (λ entry. slice_get spots entry.0 ≡ Some entry.1) entries
      each [] h = tt
      each (entry ∷ entries) h = (ap (λ all. slice_get all entry.0) (sym (take-append-drop place spots)) ∙ slice_get-more (take place spots) (drop place spots) entry.0 entry.1 h.0, each entries h.1)

  against-kept : first_against meets spot (take place spots) ≡ option_map (λ entry. entry.1) (find meets_this kept)
  unfolding kept_in
  against-kept = among-kept spot (every-at IsEven spots all place spot here) 0 (take place spots) (every-take IsEven place spots all)

  module _ (rank : ℕ) (left : find meets_this kept ≡ find meets_this (drop rank kept)) where
    module _ (first : ℕ) (found : Some first ≡ option_map (λ entry. entry.0) (slice_get kept rank)) where
      earlier : (e : Spot) × (slice_get kept rank ≡ Some (first, e))
      earlier = entry-at (slice_get kept rank) first found

      at-first : slice_get spots first ≡ Some earlier.0
      at-first = every-at (λ entry. slice_get spots entry.0 ≡ Some entry.1) kept placed rank (first, earlier.0) earlier.1

      same_test : meets_at spots first spot ≡ meets earlier.0 spot
      same_test = ap (λ o. meets_it o spot) at-first

      pub sought-met : meets_at spots first spot ≡ true → IsSought spots place spot (Met first)
      unfolding IsSought
      sought-met h = (
        earlier.0,
        at-first,
        against-kept ∙ ap (option_map (λ entry. entry.1)) (left ∙ ap (find meets_this) (drop-here kept rank (first, earlier.0) earlier.1) ∙ ap (λ b. cond b (Some (first, earlier.0)) (find meets_this (drop (suc rank) kept))) (sym same_test ∙ h)),
      )

      pub sought-on : meets_at spots first spot ≡ false → (find meets_this kept ≡ find meets_this (drop (rank + 1) kept)) × (rank + 1 ≤ length kept)
      sought-on h = (
        left ∙ ap (find meets_this) (drop-here kept rank (first, earlier.0) earlier.1) ∙ ap (λ b. cond b (Some (first, earlier.0)) (find meets_this (drop (suc rank) kept))) (sym same_test ∙ h) ∙ (let next : suc rank ≡ rank + 1 = omega arith in ap (λ n. find meets_this (drop n kept)) next),
        (let most = within kept rank (first, earlier.0) earlier.1 in omega (arith, most)),
      )

    pub sought-free : slice_get kept rank ≡ None → rank ≤ length kept → IsSought spots place spot (Free rank)
    unfolding IsSought
    sought-free none most = (
      against-kept ∙ ap (option_map (λ entry. entry.1)) (left ∙ ap (find meets_this) (drop-beyond kept rank none)),
      (let least = beyond kept rank none in omega (arith, least, most)),
    )

    -- there are no more kept than there are before
    pub sought-end : place ≤ rank → rank ≤ length kept → IsSought spots place spot (Free place)
    sought-end end most =
        let few = kept-most (block_of spot) (take place spots) in
        let many = length-take_here spots place spot here in
        let same : rank ≡ place = omega (arith, end, most, few, many) in
        subst (λ (n : ℕ). IsSought spots place spot (Free n)) same (sought-free (slice_get_past kept rank (omega (arith, end, few, many))) most)

-- ---- the first pair

pub pair-none : (spots : List Spot) (place : ℕ) (spot : Spot) → slice_get spots place ≡ Some spot → first_against meets spot (take place spots) ≡ None → first_pair meets (take place spots) (drop place spots) ≡ first_pair meets (take (place + 1) spots) (drop (place + 1) spots)
unfolding first_pair
pair-none spots place spot here none =
    ap (first_pair meets (take place spots)) (drop-here spots place spot here)
    ∙ ap (λ o. or_else (option_map (λ earlier. (earlier, spot)) o) (first_pair meets (take place spots ++ spot ∷ []) (drop (suc place) spots))) none
    ∙ (let next : suc place ≡ place + 1 = omega arith in ap₂ (λ before n. first_pair meets before (drop n spots)) (sym (take-here spots place spot here) ∙ ap (λ n. take n spots) next) next)

pub pair-some : (spots : List Spot) (place : ℕ) (spot first : Spot) → slice_get spots place ≡ Some spot → first_against meets spot (take place spots) ≡ Some first → first_pair meets (take place spots) (drop place spots) ≡ Some (first, spot)
unfolding first_pair
pair-some spots place spot first here some =
    ap (first_pair meets (take place spots)) (drop-here spots place spot here)
    ∙ ap (λ o. or_else (option_map (λ earlier. (earlier, spot)) o) (first_pair meets (take place spots ++ spot ∷ []) (drop (suc place) spots))) some

pub pair-end : (before : List Spot) → first_pair meets before [] ≡ None
unfolding first_pair
pair-end before = refl

pub keeps-nothing : Keeps [] []
unfolding Keeps kept_in numbered_from
keeps-nothing block rank = sym (ap (option_map (λ (entry : ℕ × Spot). entry.0)) (slice_get_past [] rank (omega arith)))

-- ---- what a look-up says

pub found_at : (before : List Spot) (entries : List (Slot × ℕ)) → Keeps before entries → (block rank first : ℕ) → Some first ≡ lookup (same_slot (record { block = block; rank = rank })) entries → Some first ≡ option_map (λ entry. entry.0) (slice_get (kept_in block before) rank)
unfolding Keeps
found_at before entries keeps block rank first is = is ∙ keeps block rank

pub none_at : (before : List Spot) (entries : List (Slot × ℕ)) → Keeps before entries → (block rank : ℕ) → None ≡ lookup (same_slot (record { block = block; rank = rank })) entries → slice_get (kept_in block before) rank ≡ None
unfolding Keeps
none_at before entries keeps block rank is = no-entry (slice_get (kept_in block before) rank) (sym (is ∙ keeps block rank))

pub met_parts : (spots : List Spot) (place : ℕ) (spot : Spot) (result : Sought) (first : ℕ) → result ≡ Met first → IsSought spots place spot result → (earlier : Spot) × (slice_get spots first ≡ Some earlier) × (first_against meets spot (take place spots) ≡ Some earlier)
unfolding IsSought
met_parts spots place spot result first is sought = subst (IsSought spots place spot) is sought

pub free_parts : (spots : List Spot) (place : ℕ) (spot : Spot) (result : Sought) (rank : ℕ) → result ≡ Free rank → IsSought spots place spot result → (first_against meets spot (take place spots) ≡ None) × (rank ≡ length (kept_in (block_of spot) (take place spots)))
unfolding IsSought
free_parts spots place spot result rank is sought = subst (IsSought spots place spot) is sought
