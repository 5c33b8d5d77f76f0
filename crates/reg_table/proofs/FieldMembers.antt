-- The members of a field, by their numbers, and what the keys of a field state of them.
use Rattle.std.proofs.Common.{◌≡◌, ℕ, ◌+◌, ◌<◌, ◌≤◌, Bool, true, false, ◌&&◌, ◌||◌, List, [], ◌∷◌, map, Option, Some, None, unwrap_or, nat_le, refl, sym, ap, ap₂, ◌∙◌, zero, suc, arith}
use Rattle.std.specs.List.{flat_map, list_all, list_any, range_with_len}
use Rattle.std.proofs.lemmas.Bool.Decides.{nat_tests}
use Rattle.std.proofs.lemmas.List.Folds.{flat_map-map}
use Rattle.reg_table.specs.Listing.{FitsIn}
use Rattle.reg_table.specs.Members.{IsIndexOf, member_at, member_count}
use Rattle.reg_table.specs.Walk.{index_at}
use Rattle.reg_table.specs.declared.row.FieldRow.{FieldRow}
use Rattle.svd_model.specs.declared.device.Field.{Field}
use Rattle.svd_model.specs.Checking.{bit_of, is_field_within}
use Rattle.svd_model.specs.Keys.{Key, rank, dim_count, dim_increment}
use Rattle.svd_model.specs.Stating.{value_of, stated_dim, stated_increment, stated_width, indexes_of}
use Rattle.svd_model.specs.Trees.{field_places}
use Rattle.svd_model.proofs.Placed.{field-placed}
use Rattle.svd_model.proofs.Stated.{found, other-dim, stated_back}
use Rattle.svd_rows.specs.Ranks.{stated}

-- ---- what the keys of a field state

other-increment : (key : Key) → (rank key ≡ 3 → ⊥) → stated_increment key ≡ None
unfolding rank
other-increment (dim_increment n) h = absurd (h refl)
other-increment _ h = refl

pub field-dim : (e : Field) → value_of stated_dim (stated (field_places e)) ≡ e.dim.count
unfolding field_places
field-dim e = found stated_dim 2 other-dim (field_places e) (field-placed e) ∙ stated_back dim_count stated_dim (λ n. refl) e.dim.count

pub field-increment : (e : Field) → value_of stated_increment (stated (field_places e)) ≡ e.dim.step
unfolding field_places
field-increment e = found stated_increment 3 other-increment (field_places e) (field-placed e) ∙ stated_back dim_increment stated_increment (λ n. refl) e.dim.step

-- ---- by numbers

pub index-of : (count : Option ℕ) (number : ℕ) → number < unwrap_or count 1 → IsIndexOf count (index_at count number)
index-of None number less = tt
index-of (Some n) number less = less

-- the member of a number lies where those of its field do
pub number-within : (bits : ℕ) (field : FieldRow) (number : ℕ) → FitsIn bits field → number < unwrap_or (member_count field) 1 → member_at field (index_at (member_count field) number) + field.width ≤ bits
number-within bits field number fits less = fits.within (index_at (member_count field) number) (index-of (member_count field) number less)

-- of each member in order, by their numbers
pub each-number : {X : Type 0} (f : Option ℕ → List X) (count : Option ℕ) → flat_map (λ number. f (index_at count number)) (range_with_len 0 (unwrap_or count 1)) ≡ flat_map f (indexes_of count)
each-number f None = refl
each-number f (Some n) = sym (flat_map-map f Some (range_with_len 0 n))

any-map : {X Y : Type 0} (p : Y → Bool) (f : X → Y) (xs : List X) → list_any p (map f xs) ≡ list_any (λ x. p (f x)) xs
any-map p f [] = refl
any-map p f (x ∷ xs) = ap (λ b. p (f x) || b) (any-map p f xs)

-- some member, by its number
pub some-number : (p : Option ℕ → Bool) (count : Option ℕ) → list_any (λ number. p (index_at count number)) (range_with_len 0 (unwrap_or count 1)) ≡ list_any p (indexes_of count)
some-number p None = refl
some-number p (Some n) = sym (any-map p Some (range_with_len 0 n))

none_in_range : (p : Option ℕ → Bool) (a n : ℕ) → ((i : ℕ) → i < n → p (Some (a + i)) ≡ false) → list_any p (map Some (range_with_len a n)) ≡ false
none_in_range p a zero none = refl
none_in_range p a (suc n) none =
    ap₂ (λ b c. b || c) (ap (λ m. p (Some m)) {x = a} {y = a + 0} (omega arith) ∙ none 0 (omega arith))
    (none_in_range p (a + 1) n (λ i less. ap (λ m. p (Some m)) {x = a + 1 + i} {y = a + suc i} (omega arith) ∙ none (suc i) (omega (arith, less))))

-- where no member passes a test, none is found
pub no-index : (p : Option ℕ → Bool) (count : Option ℕ) → ((index : Option ℕ) → IsIndexOf count index → p index ≡ false) → list_any p (indexes_of count) ≡ false
no-index p None none = ap (λ b. b || false) (none None tt)
no-index p (Some n) none = none_in_range p 0 n (λ i less. ap (λ m. p (Some m)) {x = 0 + i} {y = i} (omega arith) ∙ none (Some i) less)

-- ---- where checking finds that each member lies within a word

both : (a b : Bool) → (a && b) ≡ true → (a ≡ true) × (b ≡ true)
both true b e = (refl, e)
both false b e = absurd cc

module _ (p : Option ℕ → Bool) where
  in_range : (a n i : ℕ) → i < n → list_all p (map Some (range_with_len a n)) ≡ true → p (Some (a + i)) ≡ true
  in_range a zero i less e = absurd (omega (arith, less))
  in_range a (suc n) zero less e =
      ap (λ m. p (Some m)) {x = a + 0} {y = a} (omega arith) ∙ (both (p (Some a)) (list_all p (map Some (range_with_len (a + 1) n))) e).0
  in_range a (suc n) (suc i) less e =
      ap (λ m. p (Some m)) {x = a + suc i} {y = a + 1 + i} (omega arith) ∙ in_range (a + 1) n i (omega (arith, less)) (both (p (Some a)) (list_all p (map Some (range_with_len (a + 1) n))) e).1

  -- what is so of all members is so of each
  pub each-index : (count index : Option ℕ) → IsIndexOf count index → list_all p (indexes_of count) ≡ true → p index ≡ true
  each-index None None is e = (both (p None) true e).0
  each-index None (Some i) is e = absurd is
  each-index (Some n) None is e = absurd is
  each-index (Some n) (Some i) is e = ap (λ m. p (Some m)) {x = i} {y = 0 + i} (omega arith) ∙ in_range 0 n i is e

-- a field has so many bits, and each member of it, where these are its keys
module _ (bits : ℕ) (keys : List Key) (within : is_field_within bits keys ≡ true) where
  abbrev width : ℕ
  width = unwrap_or (value_of stated_width keys) 1

  parts : (nat_le 1 width ≡ true) × (list_all (λ index. nat_le (bit_of keys index + width) bits) (indexes_of (value_of stated_dim keys)) ≡ true)
  parts = both (nat_le 1 width) (list_all (λ index. nat_le (bit_of keys index + width) bits) (indexes_of (value_of stated_dim keys))) within

  pub some-bit : 1 ≤ width
  some-bit = let is = parts.0 in grind (arith, nat_tests, is)

  pub index-within : (index : Option ℕ) → IsIndexOf (value_of stated_dim keys) index → bit_of keys index + width ≤ bits
  index-within index is = let one = each-index (λ index. nat_le (bit_of keys index + width) bits) (value_of stated_dim keys) index is parts.1 in grind (arith, nat_tests, one)

  -- the first of them, where there is one
  pub first-within : 1 ≤ unwrap_or (value_of stated_dim keys) 1 → bit_of keys None + width ≤ bits
  first-within some = by (value_of stated_dim keys) some index-within
    where
      by : (count : Option ℕ) → 1 ≤ unwrap_or count 1 → ((index : Option ℕ) → IsIndexOf count index → bit_of keys index + width ≤ bits) → bit_of keys None + width ≤ bits
      by None some each = each None tt
      by (Some n) some each = each (Some 0) (omega (arith, some))
