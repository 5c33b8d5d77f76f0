-- A mask that gathers the places of fields one after the other.
use Rattle.std.proofs.Common.{◌≡◌, ℕ, zero, suc, ◌+◌, ◌-◌, ◌*◌, ◌^◌, ◌<◌, ◌≤◌, Bool, true, false, ◌&&◌, ◌||◌, cond, List, [], ◌∷◌, ◌++◌, length, take, get_or, Option, Some, None, option_map, unwrap_or, refl, sym, ap, ap₂, ◌∙◌, arith, zero-add}
use Rattle.std.specs.Prelude.{◌==◌, bit_or, min}
use Rattle.std.specs.List.{list_any, range_with_len}
use Rattle.std.proofs.Math.Nat.{add-mul, one-le-pow, pow-suc}
use Rattle.std.proofs.lemmas.Bool.Decides.{nat_tests}
use Rattle.std.proofs.lemmas.List.Folds.{list_any-append, list_any_more}
use Rattle.std.proofs.lemmas.Nat.{or_block, pow-add}
use Rattle.bits_word.specs.Places.{mask}
use Rattle.reg_table.specs.Masks.{field_mask, is_covered, is_masked, is_of_field, number_of_bits, mask_of, places_of}
use Rattle.reg_table.specs.Members.{member_at, member_behind, member_count}
use Rattle.reg_table.specs.Walk.{index_at}
use Rattle.reg_table.specs.declared.row.FieldDim.{FieldDim}
use Rattle.reg_table.specs.declared.row.FieldRow.{FieldRow}
use Rattle.reg_table.proofs.FieldMembers.{some-number}
use Rattle.reg_table.proofs.Walks.{range-more}
use Rattle.svd_model.specs.Stating.{indexes_of}
use Rattle.svd_values.specs.declared.schema_word.WriteKind.{WriteKind}

twice : (n : ℕ) → 2 ^ suc n ≡ 2 ^ n + 2 ^ n
twice n = let e : 2 ^ suc n ≡ 2 ^ n * 2 = pow-suc 2 n in omega arith

bit_value : Bool → ℕ
bit_value b = cond b 1 0

bit-scaled : (b : Bool) (n : ℕ) → cond b (2 ^ n) 0 ≡ bit_value b * 2 ^ n
unfolding bit_value
bit-scaled true n = omega arith
bit-scaled false n = omega arith

or_value : (a b : Bool) → bit_value (a || b) ≡ bit_or (bit_value a) (bit_value b)
unfolding bit_value
or_value true true = refl
or_value true false = refl
or_value false true = refl
or_value false false = refl

below : (p : ℕ → Bool) (n : ℕ) → number_of_bits p n < 2 ^ n
unfolding number_of_bits
below p zero = omega arith
below p (suc n) = cases (p n) (below p n)
  where
    cases : (b : Bool) → number_of_bits p n < 2 ^ n → cond b (2 ^ n) 0 + number_of_bits p n < 2 ^ suc n
    cases true h = omega (arith, twice n)
    cases false h = omega (arith, twice n)

or-bits : (p q : ℕ → Bool) (n : ℕ) → number_of_bits (λ i. p i || q i) n ≡ bit_or (number_of_bits p n) (number_of_bits q n)
unfolding number_of_bits
or-bits p q zero = refl
or-bits p q (suc n) =
    ap₂ (λ a b. a + b) (bit-scaled (p n || q n) n ∙ ap (λ v. v * 2 ^ n) (or_value (p n) (q n))) (or-bits p q n)
    ∙ sym (or_block n (bit_value (p n)) (bit_value (q n)) (number_of_bits p n) (number_of_bits q n) (below p n) (below q n))
    ∙ ap₂ (λ a b. bit_or (a + number_of_bits p n) (b + number_of_bits q n)) (sym (bit-scaled (p n) n)) (sym (bit-scaled (q n) n))

agree : (p q : ℕ → Bool) → ((i : ℕ) → p i ≡ q i) → (n : ℕ) → number_of_bits p n ≡ number_of_bits q n
unfolding number_of_bits
agree p q same zero = refl
agree p q same (suc n) = ap₂ (λ b r. cond b (2 ^ n) 0 + r) (same n) (agree p q same n)

nothing : (n : ℕ) → number_of_bits (λ b. false) n ≡ 0
unfolding number_of_bits
nothing zero = refl
nothing (suc n) = zero-add (number_of_bits (λ b. false) n) ∙ nothing n

-- ---- one place

module _ (o w : ℕ) where
  low : (n : ℕ) → n ≤ o → number_of_bits (is_covered o w) n ≡ 0
  unfolding number_of_bits
  low zero h = refl
  low (suc n) h =
      let outside : is_covered o w n ≡ false = grind (arith, nat_tests) in
      ap (λ b. cond b (2 ^ n) 0 + number_of_bits (is_covered o w) n) outside ∙ zero-add (number_of_bits (is_covered o w) n) ∙ low n (omega arith)

  mid : (k : ℕ) → k ≤ w → number_of_bits (is_covered o w) (k + o) + 2 ^ o ≡ 2 ^ (k + o)
  unfolding number_of_bits
  mid zero h = ap (λ n. number_of_bits (is_covered o w) n + 2 ^ o) {x = 0 + o} {y = o} (omega arith) ∙ ap (λ n. n + 2 ^ o) (low o (omega arith)) ∙ zero-add (2 ^ o) ∙ ap (λ n. 2 ^ n) {x = o} {y = 0 + o} (omega arith)
  mid (suc k) h =
      let inside : is_covered o w (k + o) ≡ true = grind (arith, nat_tests) in
      let before : number_of_bits (is_covered o w) (k + o) + 2 ^ o ≡ 2 ^ (k + o) = mid k (omega arith) in
      let double : 2 ^ suc (k + o) ≡ 2 ^ (k + o) + 2 ^ (k + o) = twice (k + o) in
      let here : number_of_bits (is_covered o w) (suc (k + o)) ≡ 2 ^ (k + o) + number_of_bits (is_covered o w) (k + o) = ap (λ b. cond b (2 ^ (k + o)) 0 + number_of_bits (is_covered o w) (k + o)) inside in
      let turn : suc k + o ≡ suc (k + o) = omega arith in
      rw turn (omega arith)

  high : (k : ℕ) → number_of_bits (is_covered o w) (k + (w + o)) ≡ number_of_bits (is_covered o w) (w + o)
  unfolding number_of_bits
  high zero = ap (number_of_bits (is_covered o w)) (zero-add (w + o))
  high (suc k) =
      let outside : is_covered o w (k + (w + o)) ≡ false = grind (arith, nat_tests) in
      let turn : suc k + (w + o) ≡ suc (k + (w + o)) = omega arith in
      ap (number_of_bits (is_covered o w)) turn ∙ ap (λ b. cond b (2 ^ (k + (w + o))) 0 + number_of_bits (is_covered o w) (k + (w + o))) outside ∙ zero-add (number_of_bits (is_covered o w) (k + (w + o))) ∙ high k

pub place-mask : (o w n : ℕ) → o + w ≤ n → number_of_bits (is_covered o w) n ≡ mask o w
unfolding mask
place-mask o w n within =
    let whole : number_of_bits (is_covered o w) n ≡ number_of_bits (is_covered o w) (w + o) = ap (number_of_bits (is_covered o w)) {x = n} {y = n - (w + o) + (w + o)} (omega arith) ∙ high o w (n - (w + o)) in
    let bits : number_of_bits (is_covered o w) (w + o) + 2 ^ o ≡ 2 ^ (w + o) = mid o w w (omega arith) in
    let pos : 0 < 2 ^ w = omega (arith, one-le-pow w 2 (omega arith)) in
    let one : 2 ^ w - 1 + 1 ≡ 2 ^ w = omega arith in
    let parted : (2 ^ w - 1 + 1) * 2 ^ o ≡ (2 ^ w - 1) * 2 ^ o + 1 * 2 ^ o = add-mul (2 ^ w - 1) 1 (2 ^ o) in
    let same : (2 ^ w - 1 + 1) * 2 ^ o ≡ 2 ^ w * 2 ^ o = ap (λ (n : ℕ). n * 2 ^ o) one in
    let joined : 2 ^ (w + o) ≡ 2 ^ w * 2 ^ o = pow-add 2 w o in
    omega arith

-- ---- the members of a field one after the other

-- the bits of as many members
unfoldable pub bits_below : FieldRow → ℕ → ℕ
bits_below field n = number_of_bits (λ bit. list_any (λ number. is_covered (member_at field (index_at (member_count field) number)) field.width bit) (range_with_len 0 n)) 64

pub no-members : (field : FieldRow) → 0 ≡ bits_below field 0
unfolding bits_below
no-members field = sym (nothing 64)

pub member-more : (field : FieldRow) (n : ℕ) → member_at field (index_at (member_count field) n) + field.width ≤ 64
    → bits_below field (n + 1) ≡ bit_or (bits_below field n) (mask (member_at field (index_at (member_count field) n)) field.width)
unfolding bits_below
member-more field n fits =
    agree (λ bit. some bit (range_with_len 0 (n + 1))) (λ bit. some bit (range_with_len 0 n) || is_covered (place n) field.width bit) step 64
    ∙ or-bits (λ bit. some bit (range_with_len 0 n)) (is_covered (place n) field.width) 64
    ∙ ap (bit_or (number_of_bits (λ bit. some bit (range_with_len 0 n)) 64)) (place-mask (place n) field.width 64 fits)
  where
    place : ℕ → ℕ
    place number = member_at field (index_at (member_count field) number)

    some : ℕ → List ℕ → Bool
    some bit numbers = list_any (λ number. is_covered (place number) field.width bit) numbers

    or_false : (b : Bool) → (b || false) ≡ b
    or_false true = refl
    or_false false = refl

    step : (bit : ℕ) → some bit (range_with_len 0 (n + 1)) ≡ (some bit (range_with_len 0 n) || is_covered (place n) field.width bit)
    step bit =
        let next : n + 1 ≡ suc n = omega arith in
        let last : 0 + n ≡ n = omega arith in
        ap (λ m. some bit (range_with_len 0 m)) next
        ∙ ap (some bit) (range-more 0 n ∙ ap (λ m. range_with_len 0 n ++ m ∷ []) last)
        ∙ list_any-append (λ number. is_covered (place number) field.width bit) (range_with_len 0 n) (n ∷ [])
        ∙ ap (λ b. some bit (range_with_len 0 n) || b) (or_false (is_covered (place n) field.width bit))

-- where the test answers alike for all, more of them change nothing
any-alike : (p : ℕ → Bool) (b : Bool) → ((n : ℕ) → p n ≡ b) → (a n : ℕ) → list_any p (range_with_len a (suc n)) ≡ b
any-alike p b same a zero = ap (λ c. c || false) (same a) ∙ plain b
  where
    plain : (b : Bool) → (b || false) ≡ b
    plain true = refl
    plain false = refl
any-alike p b same a (suc n) = ap₂ (λ c d. c || d) (same a) (any-alike p b same (a + 1) n) ∙ twice_or b
  where
    twice_or : (b : Bool) → (b || b) ≡ b
    twice_or true = refl
    twice_or false = refl

-- there are no more of them than members
pub places-few : (field : FieldRow) → places_of field.dim ≤ unwrap_or (member_count field) 1
places-few field = by field.dim
  where
    few : (b : Bool) (count : ℕ) → cond b (min count 1) count ≤ count
    few true count = omega arith
    few false count = omega arith

    by : (dim : Option FieldDim) → places_of dim ≤ unwrap_or (option_map (λ dim. dim.count) dim) 1
    by None = omega arith
    by (Some dim) = few (dim.step == 0) dim.count

-- the members that lie at places of their own have all bits
pub all-places : (field : FieldRow) → bits_below field (places_of field.dim) ≡ field_mask field
unfolding bits_below field_mask
all-places field = agree _ (is_of_field field) (λ bit. places field.dim bit) 64
  where
    places : (dim : Option FieldDim) (bit : ℕ) → list_any (λ number. is_covered (field.offset + member_behind dim (index_at (option_map (λ dim. dim.count) dim) number)) field.width bit) (range_with_len 0 (places_of dim)) ≡ list_any (λ index. is_covered (field.offset + member_behind dim index) field.width bit) (indexes_of (option_map (λ dim. dim.count) dim))
    places None bit = refl
    places (Some dim) bit = by (dim.step == 0) refl ∙ some-number (λ index. is_covered (field.offset + unwrap_or index 0 * dim.step) field.width bit) (Some dim.count)
      where
        covered : ℕ → Bool
        covered number = is_covered (field.offset + number * dim.step) field.width bit

        alike : dim.step ≡ 0 → (n : ℕ) → covered n ≡ is_covered (field.offset + 0) field.width bit
        alike none n = ap (λ s. is_covered (field.offset + n * s) field.width bit) none ∙ ap (λ m. is_covered (field.offset + m) field.width bit) {x = n * 0} {y = 0} (omega arith)

        first : dim.step ≡ 0 → (count : ℕ) → list_any covered (range_with_len 0 (min count 1)) ≡ list_any covered (range_with_len 0 count)
        first none zero = refl
        first none (suc count) =
            ap (λ m. list_any covered (range_with_len 0 m)) {x = min (suc count) 1} {y = 1} (omega arith)
            ∙ any-alike covered (is_covered (field.offset + 0) field.width bit) (alike none) 0 0
            ∙ sym (any-alike covered (is_covered (field.offset + 0) field.width bit) (alike none) 0 count)

        by : (b : Bool) → (dim.step == 0) ≡ b → list_any covered (range_with_len 0 (cond b (min dim.count 1) dim.count)) ≡ list_any covered (range_with_len 0 dim.count)
        by true e = first (grind (arith, nat_tests, e)) dim.count
        by false e = refl

-- ---- the fields one after the other

pub mask_more : (of_kind : WriteKind → Bool) (fields : List FieldRow) (i : ℕ) (field : FieldRow) → i < length fields → field ≡ get_or fields i field → mask_of of_kind (take (i + 1) fields) ≡ bit_or (mask_of of_kind (take i fields)) (cond (field.writable && of_kind field.kind) (field_mask field) 0)
unfolding mask_of is_masked field_mask
mask_more of_kind fields i field within is =
    agree (is_masked of_kind (take (i + 1) fields)) (λ b. is_masked of_kind (take i fields) b || ((field.writable && of_kind field.kind) && is_of_field field b)) step 64
    ∙ or-bits (is_masked of_kind (take i fields)) (λ b. (field.writable && of_kind field.kind) && is_of_field field b) 64
    ∙ ap (bit_or (number_of_bits (is_masked of_kind (take i fields)) 64)) (one (field.writable && of_kind field.kind))
  where
    step : (b : ℕ) → is_masked of_kind (take (i + 1) fields) b ≡ (is_masked of_kind (take i fields) b || ((field.writable && of_kind field.kind) && is_of_field field b))
    step b =
        list_any_more (λ f. (f.writable && of_kind f.kind) && is_of_field f b) fields i field within
        ∙ ap (λ (f : FieldRow). list_any (λ f. (f.writable && of_kind f.kind) && is_of_field f b) (take i fields) || ((f.writable && of_kind f.kind) && is_of_field f b)) (sym is)

    one : (ok : Bool) → number_of_bits (λ b. ok && is_of_field field b) 64 ≡ cond ok (number_of_bits (is_of_field field) 64) 0
    one true = refl
    one false = nothing 64

pub mask_none : (of_kind : WriteKind → Bool) → 0 ≡ mask_of of_kind []
unfolding mask_of is_masked number_of_bits
mask_none of_kind = refl
