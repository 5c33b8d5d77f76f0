-- What the row of a declared register has, where checking finds no fault in it.
use Rattle.std.proofs.Common.{ℕ, zero, suc, ◌≡◌, ◌+◌, ◌-◌, ◌*◌, ◌/◌, ◌^◌, ◌<◌, ◌≤◌, Bool, true, false, cond, ◌&&◌, ◌||◌, List, [], ◌∷◌, map, filter, filter_map, Option, Some, None, IfSome, refl, sym, ap, ap₂, subst, ◌∙◌, arith, lit≤, zero-add}
use Rattle.std.specs.Prelude.{nat_lt, unwrap_or}
use Rattle.std.specs.List.{AllByRecursion, cons_option}
use Rattle.std.proofs.lemmas.Bool.{false≢true, ltb-true}
use Rattle.std.proofs.lemmas.Bool.Decides.{nat_tests}
use Rattle.pac_base.specs.declared.width.Width.{Width}
use Rattle.pac_base.specs.declared.width.Width.TheVariants.{W16, W32, W64, W8}
use Rattle.pac_base.specs.Widths.{bits_of}
use Rattle.frag_sem.specs.CallPlaces.{admits}
use Rattle.frag_sem.proofs.Lists.{both_true}
use Rattle.reg_table.specs.Calls.{call_of, calls_of, first_of_each, plain_set, serves_reading, serves_writing, set_calls_of}
use Rattle.reg_table.specs.Fields.{FieldFits as PlaceFits, field_part, field_row}
use Rattle.reg_table.specs.Listing.{IsListed}
use Rattle.reg_table.specs.Masks.{is_by_one, is_by_zero, is_covered, is_masked, is_of_field, mask_of, number_of_bits}
use Rattle.reg_table.specs.Registers.{cut_reset, register_row}
use Rattle.reg_table.specs.declared.row.Call.{Call}
use Rattle.reg_table.specs.declared.row.FieldRow.{FieldRow}
use Rattle.reg_table.specs.declared.row.Row.{Row as TableRow}
use Rattle.reg_table.specs.declared.row.RowPath.{RowPath}
use Rattle.reg_table.proofs.FieldMembers.{no-index}
use Rattle.reg_table.proofs.Gathering.{each-within, least_is, register-listed, row-register, rows_of_fields}
use Rattle.reg_table.proofs.Parts.{row-field}
use Rattle.reg_table.proofs.Walks.{RegisterFits}
use Rattle.svd_model.specs.declared.device.Field.{Field}
use Rattle.svd_model.specs.declared.device.Register.{Register}
use Rattle.svd_model.specs.declared.props.Props.{Props}
use Rattle.svd_model.specs.declared.sibling.Sibling.{Sibling}
use Rattle.svd_model.specs.Checking.{bytes_of, is_size, width_of}
use Rattle.svd_model.specs.Properties.{access_at, can_read, can_write, passes_at, register_properties, size_at}
use Rattle.svd_model.specs.Trees.{register_tree}
use Rattle.svd_rows.specs.Rows.{rows}
use Rattle.svd_values.specs.AccessorNames.{is_call_name, variant_call_name}
use Rattle.svd_values.specs.declared.schema_word.Usage.{Usage}
use Rattle.svd_values.specs.declared.schema_word.WriteKind.{WriteKind}
use Rattle.table_sem.specs.Laws.{TypeIsLeast}
use Rattle.reg_table.specs.Members.{IsIndexOf, member_at, member_count}
use Rattle.table_sem.specs.RowFacts.{FieldFits, RowFits}
use Rattle.table_sem.proofs.StartNumbers.{number_small}

-- ---- types

pub type_is_least : TypeIsLeast
type_is_least bits some within = least_is bits (by some within)
  where
    by : 1 ≤ bits → bits ≤ 64 → is_size bits ≡ true
    by some within = grind (arith, nat_tests, some, within)

-- ---- the calls of enumerated values

-- the value is one of so many bits
abbrev HasBits : ℕ → Call → Type 0
HasBits width call = call.value < 2 ^ width

all-filter : {X : Type 0} (P : X → Type 0) (test : X → Bool) (xs : List X) → AllByRecursion P xs → AllByRecursion P (filter test xs)
all-filter P test [] all = tt
all-filter P test (x ∷ xs) all = by (test x) (all-filter P test xs all.1)
  where
    by : (b : Bool) → AllByRecursion P (filter test xs) → AllByRecursion P (cond b (x ∷ filter test xs) (filter test xs))
    by true more = (all.0, more)
    by false more = more

first-fit : (width : ℕ) (calls : List Call) → AllByRecursion (HasBits width) calls → AllByRecursion (HasBits width) (first_of_each calls)
unfolding first_of_each
first-fit width [] all = tt
first-fit width (call ∷ calls) all = (all.0, all-filter (HasBits width) _ (first_of_each calls) (first-fit width calls all.1))

call-fits : (name_of : List ℕ → List ℕ) (width : ℕ) (value : List ℕ × Option ℕ) → IfSome (call_of name_of width value) (HasBits width)
call-fits name_of width (name, None) = tt
call-fits name_of width (name, Some n) = by (nat_lt n (2 ^ width)) refl
  where
    by : (b : Bool) → nat_lt n (2 ^ width) ≡ b → IfSome (cond b (Some (record { name = name_of name; value = n })) None) (HasBits width)
    by true e = ltb-true n (2 ^ width) e
    by false e = tt

with-option : (width : ℕ) (o : Option Call) (calls : List Call) → IfSome o (HasBits width) → AllByRecursion (HasBits width) calls → AllByRecursion (HasBits width) (cons_option o calls)
with-option width None calls one all = all
with-option width (Some call) calls one all = (one, all)

values-fit : (name_of : List ℕ → List ℕ) (width : ℕ) (values : List (List ℕ × Option ℕ)) → AllByRecursion (HasBits width) (filter_map (call_of name_of width) values)
values-fit name_of width [] = tt
values-fit name_of width (value ∷ values) = with-option width (call_of name_of width value) (filter_map (call_of name_of width) values) (call-fits name_of width value) (values-fit name_of width values)

sets-fit : (serves : Option Usage → Bool) (name_of : List ℕ → List ℕ) (width : ℕ) (sets : List (Option Usage × List (List ℕ × Option ℕ))) → AllByRecursion (HasBits width) (set_calls_of serves name_of width sets)
unfolding calls_of
sets-fit serves name_of width [] = tt
sets-fit serves name_of width (set ∷ sets) = by (serves set.0) refl (sets-fit serves name_of width sets)
  where
    by : (b : Bool) → serves set.0 ≡ b → AllByRecursion (HasBits width) (set_calls_of serves name_of width sets) → AllByRecursion (HasBits width) (set_calls_of serves name_of width (set ∷ sets))
    by true e more = rw e (first-fit width (filter_map (call_of name_of width) set.1) (values-fit name_of width set.1))
    by false e more = rw e more

-- ---- masks

widest : (width : Width) → bits_of width ≤ 64
widest W8 = lit≤ tt
widest W16 = lit≤ tt
widest W32 = lit≤ tt
widest W64 = lit≤ tt

-- where no bit is one from n on, more bits make no other number
no-more : (p : ℕ → Bool) (n : ℕ) → ((i : ℕ) → n ≤ i → p i ≡ false) → (k : ℕ) → number_of_bits p (k + n) ≡ number_of_bits p n
unfolding number_of_bits
no-more p n none zero = ap (number_of_bits p) (zero-add n)
no-more p n none (suc k) =
    let turn : suc k + n ≡ suc (k + n) = omega arith in
    ap (number_of_bits p) turn
    ∙ (ap (λ b. cond b (2 ^ (k + n)) 0 + number_of_bits p (k + n)) (none (k + n) (omega arith))
    ∙ (zero-add (number_of_bits p (k + n)) ∙ no-more p n none k))

no-bits : (p : ℕ → Bool) → ((i : ℕ) → p i ≡ false) → (n : ℕ) → number_of_bits p n ≡ 0
unfolding number_of_bits
no-bits p none zero = refl
no-bits p none (suc n) = ap₂ (λ b r. cond b (2 ^ n) 0 + r) (none n) (no-bits p none n)

abbrev IsWithin : ℕ → FieldRow → Type 0
IsWithin bits field = (index : Option ℕ) → IsIndexOf (member_count field) index → member_at field index + field.width ≤ bits

unmasked : (of_kind : WriteKind → Bool) (bits : ℕ) (fields : List FieldRow) → AllByRecursion (IsWithin bits) fields → (i : ℕ) → bits ≤ i → is_masked of_kind fields i ≡ false
unfolding is_masked
unmasked of_kind bits [] all i h = refl
unmasked of_kind bits (field ∷ fields) all i h =
    let out : is_of_field field i ≡ false = no-index (λ index. is_covered (member_at field index) field.width i) (member_count field) (λ index is. let end = all.0 index is in outside (member_at field index) field.width i (omega (arith, end, h))) in
    ap₂ (λ b c. b || c) (by (field.writable && of_kind field.kind) (is_of_field field i) out) (unmasked of_kind bits fields all.1 i h)
  where
    outside : (o w i : ℕ) → o + w ≤ i → is_covered o w i ≡ false
    outside o w i h = grind (arith, nat_tests)

    by : (b c : Bool) → c ≡ false → (b && c) ≡ false
    by true c e = e
    by false c e = refl

-- the mask of fields that lie within a word is one
mask-small : (of_kind : WriteKind → Bool) (width : Width) (fields : List FieldRow) → AllByRecursion (IsWithin (bits_of width)) fields → mask_of of_kind fields < 2 ^ bits_of width
unfolding mask_of
mask-small of_kind width fields all =
    let n = bits_of width in
    let h : n ≤ 64 = widest width in
    let e : number_of_bits (is_masked of_kind fields) 64 ≡ number_of_bits (is_masked of_kind fields) n =
    ap (number_of_bits (is_masked of_kind fields)) {x = 64} {y = 64 - n + n} (omega arith) ∙ no-more (is_masked of_kind fields) n (unmasked of_kind n fields all) (64 - n) in
    subst (λ m. m < 2 ^ n) (sym e) (number_small (is_masked of_kind fields) n)

abbrev IsUnwritten : FieldRow → Type 0
IsUnwritten field = field.writable ≡ false

unwritten : (of_kind : WriteKind → Bool) (fields : List FieldRow) → AllByRecursion IsUnwritten fields → (i : ℕ) → is_masked of_kind fields i ≡ false
unfolding is_masked
unwritten of_kind [] all i = refl
unwritten of_kind (field ∷ fields) all i = ap₂ (λ b c. ((b && of_kind field.kind) && is_of_field field i) || c) all.0 (unwritten of_kind fields all.1 i)

-- where no field is written, nothing is masked
no-mask : (of_kind : WriteKind → Bool) (fields : List FieldRow) → AllByRecursion IsUnwritten fields → mask_of of_kind fields ≡ 0
unfolding mask_of
no-mask of_kind fields all = no-bits (is_masked of_kind fields) (unwritten of_kind fields all) 64

-- ---- fields

-- the row of a declared field fits in a row of so many bits and of these directions
field-fits : (row : TableRow) (kind : Option WriteKind) (entry : Sibling × Field) → PlaceFits (bits_of row.width) entry → FieldFits row (field_row row.readable row.writable kind (field_part entry))
field-fits row kind entry fits = subst (FieldFits row) (sym (row-field entry.0 entry.1 row.readable row.writable kind fits.distinct)) (record {
  some = fits.some;
  within = each-within (bits_of row.width) entry.1 fits.within;
  is_calls = sets-fit serves_reading is_call_name (unwrap_or entry.1.place.width 1) (map plain_set entry.1.values.items);
  set_calls = sets-fit serves_writing variant_call_name (unwrap_or entry.1.place.width 1) (map plain_set entry.1.values.items);
  readable = λ e. (both_true row.readable (passes_at can_read entry.1.access) e).0;
  writable = λ e. (both_true row.writable (passes_at can_write entry.1.access) e).0;
})

fields-fit : (row : TableRow) (kind : Option WriteKind) (entries : List (Sibling × Field)) → AllByRecursion (PlaceFits (bits_of row.width)) entries → AllByRecursion (FieldFits row) (map (λ entry. field_row row.readable row.writable kind (field_part entry)) entries)
fields-fit row kind [] all = tt
fields-fit row kind (entry ∷ entries) all = (field-fits row kind entry all.0, fields-fit row kind entries all.1)

-- each member of each field lies within the word
fields-within : (row : TableRow) (kind : Option WriteKind) (entries : List (Sibling × Field)) → AllByRecursion (PlaceFits (bits_of row.width)) entries → AllByRecursion (IsWithin (bits_of row.width)) (map (λ entry. field_row row.readable row.writable kind (field_part entry)) entries)
fields-within row kind [] all = tt
fields-within row kind (entry ∷ entries) all =
    (subst (IsWithin (bits_of row.width)) (sym (row-field entry.0 entry.1 row.readable row.writable kind all.0.distinct)) (each-within (bits_of row.width) entry.1 all.0.within), fields-within row kind entries all.1)

fields-unwritten : (readable : Bool) (kind : Option WriteKind) (entries : List (Sibling × Field)) → AllByRecursion IsUnwritten (map (λ entry. field_row readable false kind (field_part entry)) entries)
unfolding field_row
fields-unwritten readable kind [] = tt
fields-unwritten readable kind (entry ∷ entries) = (refl, fields-unwritten readable kind entries)

-- an index that is admitted is one of a member
pub index-admitted : (count index : Option ℕ) → admits count index ≡ true → IsIndexOf count index
index-admitted None None h = tt
index-admitted None (Some index) h = absurd (false≢true h)
index-admitted (Some count) None h = absurd (false≢true h)
index-admitted (Some count) (Some index) h = ltb-true index count h

-- a field that has a member isn't wider than its register
pub member-narrow : (row : TableRow) (field : FieldRow) → FieldFits row field → 1 ≤ unwrap_or (member_count field) 1 → field.width ≤ bits_of row.width
member-narrow row field fits some = by (member_count field) some fits.within
  where
    by : (count : Option ℕ) → 1 ≤ unwrap_or count 1 → ((index : Option ℕ) → IsIndexOf count index → member_at field index + field.width ≤ bits_of row.width) → field.width ≤ bits_of row.width
    by None some each = let one = each None tt in omega (arith, one)
    by (Some n) some each = let one = each (Some 0) (omega (arith, some)) in omega (arith, one)

-- ---- registers

bytes-bits : (width : Width) → bits_of width / 8 ≡ bytes_of width
bytes-bits W8 = refl
bytes-bits W16 = refl
bytes-bits W32 = refl
bytes-bits W64 = refl

-- the row of a register that fits at a member
pub register-fits : (start : ℕ) (outer : Props) (r : Register) (index : Option ℕ) (path : RowPath) → RegisterFits start outer r index
    → RowFits (register_row path (start + (r.offset + unwrap_or index 0 * unwrap_or r.dim.step 0)) (register_properties r outer) (rows (register_tree r)))
register-fits start outer r index path fits = subst RowFits (sym made) (record {
  ends = subst (λ (n : ℕ). address + n ≤ 2 ^ 64) (sym (bytes-bits width)) fits.ends;
  reset = subst (λ (row : TableRow). row.reset < 2 ^ bits_of row.width) made listed.reset;
  one = mask-small is_by_one width (rows_of_fields readable writable r) (fields-within row r.kind r.fields.entries fits.fields);
  raised = mask-small is_by_zero width (rows_of_fields readable writable r) (fields-within row r.kind r.fields.entries fits.fields);
  fields = fields-fit row r.kind r.fields.entries fits.fields;
  no_one = λ e. ap (λ w. mask_of is_by_one (rows_of_fields readable w r)) e ∙ no-mask is_by_one (rows_of_fields readable false r) (fields-unwritten readable r.kind r.fields.entries);
  no_raised = λ e. ap (λ w. mask_of is_by_zero (rows_of_fields readable w r)) e ∙ no-mask is_by_zero (rows_of_fields readable false r) (fields-unwritten readable r.kind r.fields.entries);
})
  where
    address : ℕ
    address = start + (r.offset + unwrap_or index 0 * unwrap_or r.dim.step 0)

    width : Width
    width = width_of (size_at (register_properties r outer))

    readable : Bool
    readable = can_read (access_at r outer)

    writable : Bool
    writable = can_write (access_at r outer)

    row : TableRow
    row = record {
      path = path;
      address = address;
      width = width;
      readable = readable;
      writable = writable;
      reset = cut_reset (bits_of width) (register_properties r outer);
      one = mask_of is_by_one (rows_of_fields readable writable r);
      zero = mask_of is_by_zero (rows_of_fields readable writable r);
      fields = rows_of_fields readable writable r;
    }

    made : register_row path address (register_properties r outer) (rows (register_tree r)) ≡ row
    made = row-register r fits.distinct path address outer

    listed : IsListed (register_row path address (register_properties r outer) (rows (register_tree r)))
    listed = register-listed r path address outer fits.distinct fits.fields
