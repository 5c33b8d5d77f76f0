-- The first pair of members of a register's fields, of those that the search keeps, is the first of all pairs.
use Rattle.std.proofs.Common.{◌≡◌, ℕ, zero, suc, ◌+◌, ◌*◌, ◌<◌, ◌≤◌, Bool, true, false, ◌&&◌, ◌||◌, cond, List, [], ◌∷◌, ◌++◌, map, filter, drop, slice_get, Option, Some, None, option_map, unwrap_or, refl, sym, ap, ap₂, ◌∙◌, arith, lit≤}
use Rattle.std.specs.List.{flat_map, range_with_len}
use Rattle.std.proofs.lemmas.List.Elements.{filter-append}
use Rattle.std.proofs.lemmas.List.Folds.{flat_map-map}
use Rattle.pac_base.specs.Widths.{bits_of}
use Rattle.pac_base.specs.declared.width.Width.{Width}
use Rattle.pac_base.specs.declared.width.Width.TheVariants.{W8, W16, W32, W64}
use Rattle.overlap_sweep.specs.declared.field.FieldPair.{FieldPair}
use Rattle.overlap_sweep.specs.declared.field.FieldSpot.{FieldSpot}
use Rattle.overlap_sweep.specs.Fields.{field_meets, field_pairs, field_spot, field_spots, share_one, shared_fields, told_fields}
use Rattle.overlap_sweep.specs.Kept.{all_spots, declared_spot, declared_spots, entry_spots, is_accessed, kept_all, kept_pair, kept_too}
use Rattle.overlap_sweep.specs.Search.{first_against, first_pair, or_else}
use Rattle.overlap_sweep.proofs.First.{first-pairs}
use Rattle.overlap_sweep.proofs.Searching.{drop-here, drop-beyond}
use Rattle.reg_table.specs.Calls.{parts}
use Rattle.reg_table.specs.Fields.{FieldFits, field_part}
use Rattle.reg_table.proofs.FieldMembers.{field-dim, field-increment}
use Rattle.reg_table.specs.Registers.{access_of}
use Rattle.reg_table.specs.Walk.{index_at}
use Rattle.reg_table.proofs.Exchanges.{flat_map-agree}
use Rattle.reg_table.proofs.Gathering.{parts-register, access-register}
use Rattle.reg_table.proofs.Parts.{keys-field, width-field, access-field}
use Rattle.svd_model.specs.declared.device.Field.{Field}
use Rattle.svd_model.specs.declared.device.Register.{Register}
use Rattle.svd_model.specs.declared.props.Props.{Props}
use Rattle.svd_model.specs.declared.sibling.Sibling.{Sibling}
use Rattle.svd_model.specs.Keys.{Key}
use Rattle.svd_model.specs.Properties.{access_at, can_read, can_write, passes_at, register_properties}
use Rattle.svd_model.specs.Stating.{value_of, stated_dim, stated_increment, stated_offset, indexes_of}
use Rattle.svd_model.specs.Steps.{Step, same_step}
use Rattle.svd_model.specs.Trees.{register_tree}
use Rattle.svd_model.proofs.Stated.{field-offset}
use Rattle.svd_rows.specs.Elements.{IsDistinct}
use Rattle.svd_rows.specs.LookUps.{keys_of}
use Rattle.svd_rows.specs.Rows.{Row, rows}
use Rattle.svd_rows.proofs.Lists.{map-map}
use Rattle.svd_values.specs.declared.schema_word.Access.{Access}

-- ---- one that meets another can be accessed

met-accessed : (one other : FieldSpot) → field_meets one other ≡ true → is_accessed one ≡ true
unfolding field_meets
met-accessed one other h =
    by (share_one one.start one.bits other.start other.bits) one.readable one.writable other.readable other.writable h
  where
    by : (share r w s x : Bool) → (share && ((r && s) || (w && x))) ≡ true → (r || w) ≡ true
    by true true w s x h = refl
    by true false true s x h = refl
    by true false false s x h = absurd cc
    by false r w s x h = absurd cc

against-accessed : (spot : FieldSpot) (before : List FieldSpot) → first_against field_meets spot (filter is_accessed before) ≡ first_against field_meets spot before
against-accessed spot [] = refl
against-accessed spot (first ∷ before) = cases (is_accessed first) refl (field_meets first spot) refl (against-accessed spot before)
  where
    cases : (a : Bool) → is_accessed first ≡ a → (m : Bool) → field_meets first spot ≡ m → first_against field_meets spot (filter is_accessed before) ≡ first_against field_meets spot before → first_against field_meets spot (cond (is_accessed first) (first ∷ filter is_accessed before) (filter is_accessed before)) ≡ cond (field_meets first spot) (Some first) (first_against field_meets spot before)
    cases true a m is rest = rw (a) (ap (cond (field_meets first spot) (Some first)) rest)
    cases false a true is rest = absurd (let yes = sym a ∙ met-accessed first spot is in cc)
    cases false a false is rest = rw (a, is) rest

kept-first : (before xs : List FieldSpot) → kept_pair (filter is_accessed before) xs ≡ first_pair field_meets before xs
unfolding kept_pair first_pair
kept-first before [] = refl
kept-first before (spot ∷ xs) =
    ap₂ (λ o p. or_else (option_map (λ first. (first, spot)) o) p) (against-accessed spot before)
    (ap (λ kept. kept_pair kept xs) (sym (filter-append is_accessed before (spot ∷ []))) ∙ kept-first (before ++ spot ∷ []) xs)

-- ---- lists behind one another

pub kept-append : (kept xs ys : List FieldSpot) → kept_pair kept (xs ++ ys) ≡ or_else (kept_pair kept xs) (kept_pair (kept_all kept xs) ys)
unfolding kept_pair kept_all
kept-append kept [] ys = refl
kept-append kept (spot ∷ xs) ys = by (first_against field_meets spot kept) (kept-append (kept_too kept spot) xs ys)
  where
    by : (o : Option FieldSpot) → kept_pair (kept_too kept spot) (xs ++ ys) ≡ or_else (kept_pair (kept_too kept spot) xs) (kept_pair (kept_all (kept_too kept spot) xs) ys) → or_else (option_map (λ first. (first, spot)) o) (kept_pair (kept_too kept spot) (xs ++ ys)) ≡ or_else (or_else (option_map (λ first. (first, spot)) o) (kept_pair (kept_too kept spot) xs)) (kept_pair (kept_all (kept_too kept spot) xs) ys)
    by None rest = rest
    by (Some first) rest = refl

-- ---- the members of a field by their numbers

ranged : {X : Type 0} (f : ℕ → X) (a n k : ℕ) → k < n → slice_get (map f (range_with_len a n)) k ≡ Some (f (a + k))
ranged f a zero k less = absurd (omega (arith, less))
ranged f a (suc n) zero less = let same : a ≡ a + 0 = omega arith in ap (λ m. Some (f m)) same
ranged f a (suc n) (suc k) less = let same : a + 1 + k ≡ a + suc k = omega arith in ranged f (a + 1) n k (omega (arith, less)) ∙ ap (λ m. Some (f m)) same

range-past : {X : Type 0} (f : ℕ → X) (a n k : ℕ) → n ≤ k → slice_get (map f (range_with_len a n)) k ≡ None
range-past f a zero k past = refl
range-past f a (suc n) zero past = absurd (omega (arith, past))
range-past f a (suc n) (suc k) past = range-past f (a + 1) n k (omega (arith, past))

module _ (readable writable : Bool) (key : Sibling) (field : Field) where
  abbrev at : ℕ → FieldSpot
  at number = declared_spot readable writable key field (index_at field.dim.count number)

  abbrev every : List FieldSpot
  every = declared_spots readable writable key field

  pub spots-here : (number : ℕ) → number < unwrap_or field.dim.count 1 → drop number every ≡ at number ∷ drop (number + 1) every
  spots-here number less =
      let zero_more : 0 + number ≡ number = omega arith in
      let next : suc number ≡ number + 1 = omega arith in
      drop-here every number (at number) (ranged at 0 (unwrap_or field.dim.count 1) number less ∙ ap (λ m. Some (at m)) zero_more)
      ∙ ap (λ m. at number ∷ drop m every) next

  pub spots-end : (number : ℕ) → unwrap_or field.dim.count 1 ≤ number → drop number every ≡ []
  spots-end number past = drop-beyond every number (range-past at 0 (unwrap_or field.dim.count 1) number past)

pub pair-met : (kept : List FieldSpot) (spot : FieldSpot) (others : List FieldSpot) (pair : FieldPair) → Some pair ≡ option_map (λ first. told_fields (first, spot)) (first_against field_meets spot kept) → option_map told_fields (kept_pair kept (spot ∷ others)) ≡ Some pair
unfolding kept_pair
pair-met kept spot others pair is = by (first_against field_meets spot kept) is
  where
    by : (o : Option FieldSpot) → Some pair ≡ option_map (λ first. told_fields (first, spot)) o → option_map told_fields (or_else (option_map (λ first. (first, spot)) o) (kept_pair (kept_too kept spot) others)) ≡ Some pair
    by None is = absurd cc
    by (Some first) is = sym is

pub pair-unmet : (kept : List FieldSpot) (spot : FieldSpot) (others : List FieldSpot) → None ≡ option_map (λ first. told_fields (first, spot)) (first_against field_meets spot kept) → kept_pair kept (spot ∷ others) ≡ kept_pair (kept_too kept spot) others
unfolding kept_pair
pair-unmet kept spot others is = by (first_against field_meets spot kept) is
  where
    by : (o : Option FieldSpot) → None ≡ option_map (λ first. told_fields (first, spot)) o → or_else (option_map (λ first. (first, spot)) o) (kept_pair (kept_too kept spot) others) ≡ kept_pair (kept_too kept spot) others
    by None is = refl
    by (Some first) is = absurd cc

pub kept-next : (kept : List FieldSpot) (spot : FieldSpot) (others : List FieldSpot) → kept_all kept (spot ∷ others) ≡ kept_all (kept_too kept spot) others
unfolding kept_all
kept-next kept spot others = refl

pub nothing-kept : (kept : List FieldSpot) → (kept_pair kept [] ≡ None) × (kept_all kept [] ≡ kept)
unfolding kept_pair kept_all
nothing-kept kept = (refl, refl)

-- the first of an entry's members, or of those behind it
pub entry-some : (kept own others : List FieldSpot) (pair : FieldPair) → Some pair ≡ option_map told_fields (kept_pair kept own) → option_map told_fields (kept_pair kept (own ++ others)) ≡ Some pair
entry-some kept own others pair is = ap (option_map told_fields) (kept-append kept own others) ∙ by (kept_pair kept own) is
  where
    by : (o : Option (FieldSpot × FieldSpot)) → Some pair ≡ option_map told_fields o → option_map told_fields (or_else o (kept_pair (kept_all kept own) others)) ≡ Some pair
    by None is = absurd cc
    by (Some first) is = sym is

pub entry-none : (kept own others : List FieldSpot) → None ≡ option_map told_fields (kept_pair kept own) → kept_pair kept (own ++ others) ≡ kept_pair (kept_all kept own) others
entry-none kept own others is = kept-append kept own others ∙ by (kept_pair kept own) is
  where
    by : (o : Option (FieldSpot × FieldSpot)) → None ≡ option_map told_fields o → or_else o (kept_pair (kept_all kept own) others) ≡ kept_pair (kept_all kept own) others
    by None is = refl
    by (Some first) is = absurd cc

-- ---- the fields of a declared register

widest : (width : Width) → bits_of width ≤ 64
widest W8 = lit≤ tt
widest W16 = lit≤ tt
widest W32 = lit≤ tt
widest W64 = lit≤ tt

pub offset-small : (width : Width) (entry : Sibling × Field) → FieldFits (bits_of width) entry → unwrap_or entry.1.place.offset 0 ≤ 64
offset-small width entry fit = let wide = widest width in let end = fit.first in omega (arith, wide, end)

spot-entry : (access : Access) (entry : Sibling × Field) (index : Option ℕ) → field_spot access (field_part entry) index ≡ declared_spot (can_read access && passes_at can_read entry.1.access) (can_write access && passes_at can_write entry.1.access) entry.0 entry.1 index
unfolding field_spot
spot-entry access entry index =
    let keys = keys-field entry.0 entry.1 in
    let offset = ap (value_of stated_offset) keys ∙ field-offset entry.1 in
    let step = ap (value_of stated_increment) keys ∙ field-increment entry.1 in
    λ i. record {
      name = entry.0.name;
      index = index;
      start = unwrap_or (offset i) 0 + unwrap_or index 0 * unwrap_or (step i) 0;
      bits = width-field entry.0 entry.1 i;
      readable = can_read access && passes_at can_read (access-field entry.0 entry.1 i);
      writable = can_write access && passes_at can_write (access-field entry.0 entry.1 i);
    }

by-numbers : {X : Type 0} (f : Option ℕ → X) (dim : Option ℕ) → map f (indexes_of dim) ≡ map (λ number. f (index_at dim number)) (range_with_len 0 (unwrap_or dim 1))
by-numbers f None = refl
by-numbers f (Some n) = map-map f Some (range_with_len 0 n)

map-agree : {X Y : Type 0} (f g : X → Y) → ((x : X) → f x ≡ g x) → (xs : List X) → map f xs ≡ map g xs
map-agree f g same [] = refl
map-agree f g same (x ∷ xs) = ap₂ (λ y ys. y ∷ ys) (same x) (map-agree f g same xs)

entry-spots : (access : Access) (entry : Sibling × Field) → map (field_spot access (field_part entry)) (indexes_of (value_of stated_dim (keys_of (field_part entry).1))) ≡ entry_spots (can_read access) (can_write access) entry
entry-spots access entry =
    map-agree _ _ (spot-entry access entry) (indexes_of (value_of stated_dim (keys_of (field_part entry).1)))
    ∙ ap (λ dim. map (declared_spot (can_read access && passes_at can_read entry.1.access) (can_write access && passes_at can_write entry.1.access) entry.0 entry.1) (indexes_of dim)) (ap (value_of stated_dim) (keys-field entry.0 entry.1) ∙ field-dim entry.1)
    ∙ by-numbers (declared_spot (can_read access && passes_at can_read entry.1.access) (can_write access && passes_at can_write entry.1.access) entry.0 entry.1) entry.1.dim.count

pub fields-shared : (r : Register) (outer : Props) → IsDistinct same_step (register_tree r).below → shared_fields (register_properties r outer) (rows (register_tree r)) ≡ option_map told_fields (kept_pair [] (all_spots (can_read (access_at r outer)) (can_write (access_at r outer)) r.fields.entries))
unfolding shared_fields field_pairs field_spots
fields-shared r outer distinct =
    ap (option_map told_fields)
    (first-pairs field_meets [] (flat_map (λ part. map (field_spot access part) (indexes_of (value_of stated_dim (keys_of part.1)))) (parts own))
    ∙ sym (kept-first [] (flat_map (λ part. map (field_spot access part) (indexes_of (value_of stated_dim (keys_of part.1)))) (parts own)))
    ∙ ap (kept_pair [])
    (ap (flat_map (λ part. map (field_spot access part) (indexes_of (value_of stated_dim (keys_of part.1))))) (parts-register r distinct)
    ∙ flat_map-map (λ part. map (field_spot access part) (indexes_of (value_of stated_dim (keys_of part.1)))) field_part r.fields.entries
    ∙ flat_map-agree _ _ (entry-spots access) r.fields.entries
    ∙ ap (λ a. all_spots (can_read a) (can_write a) r.fields.entries) (access-register r distinct outer)))
  where
    own : List (Row Step Key)
    own = rows (register_tree r)

    access : Access
    access = access_of (register_properties r outer) (rows (register_tree r))
