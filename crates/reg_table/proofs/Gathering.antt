-- The row of a register, gathered from the declared register, is that from its rows.
use Rattle.std.proofs.Common.{◌≡◌, ℕ, ◌+◌, ◌*◌, ◌%◌, ◌^◌, ◌<◌, ◌≤◌, Bool, true, List, [], ◌∷◌, map, Option, Some, None, option_map, unwrap_or, bit_and, zero, suc, refl, sym, ap, ap₂, ◌∙◌, subst, arith, lit≤}
use Rattle.std.specs.List.{AllByRecursion}
use Rattle.std.specs.Prelude.{All}
use Rattle.std.proofs.lemmas.Bool.Decides.{nat_tests}
use Rattle.std.proofs.lemmas.Nat.{and-not, pow_pos}
use Rattle.pac_base.specs.Widths.{bits_of, IsLeastWidth}
use Rattle.pac_base.specs.declared.width.Width.{Width}
use Rattle.pac_base.specs.declared.width.Width.TheVariants.{W8, W16, W32, W64}
use Rattle.reg_table.specs.Calls.{parts}
use Rattle.reg_table.specs.Fields.{FieldFits, bit_at, field_dim, field_part, field_row}
use Rattle.reg_table.specs.Listing.{FitsIn, IsListed}
use Rattle.reg_table.specs.Masks.{is_by_one, is_by_zero, mask_of}
use Rattle.reg_table.specs.Members.{IsIndexOf, member_behind}
use Rattle.reg_table.specs.Registers.{register_row, access_of, fields_of, cut_reset}
use Rattle.reg_table.specs.declared.row.FieldRow.{FieldRow}
use Rattle.reg_table.specs.declared.row.RowPath.{RowPath}
use Rattle.reg_table.proofs.Parts.{part_of, parts-rows, listed-siblings, access-field, row-field}
use Rattle.svd_model.specs.declared.device.Field.{Field}
use Rattle.svd_model.specs.declared.device.Register.{Register}
use Rattle.svd_model.specs.declared.props.Props.{Props}
use Rattle.svd_model.specs.declared.sibling.Sibling.{Sibling}
use Rattle.svd_model.specs.Checking.{width_of, is_size}
use Rattle.svd_model.specs.Properties.{register_properties, access_at, access_by_fields, can_read, can_write, size_at, IsResetWord, reset_value_at, reset_mask_at}
use Rattle.svd_model.specs.Stating.{value_of, stated_access, stated_kind}
use Rattle.svd_model.specs.Steps.{same_step}
use Rattle.svd_model.specs.Trees.{register_tree, field_under}
use Rattle.svd_model.proofs.Stated.{register-kind}
use Rattle.svd_rows.specs.Elements.{IsDistinct}
use Rattle.svd_rows.specs.LookUps.{keys_of}
use Rattle.svd_rows.specs.Rows.{rows}
use Rattle.svd_rows.proofs.Lists.{map-map}
use Rattle.svd_rows.proofs.LookUps.{keys_of-rows}
use Rattle.svd_values.specs.declared.schema_word.WriteKind.{WriteKind}

-- the fields of a declared register in a row
abbrev pub rows_of_fields : Bool → Bool → Register → List FieldRow
rows_of_fields readable writable r = map (λ entry. field_row readable writable r.kind (field_part entry)) r.fields.entries

module _ (r : Register) (distinct : IsDistinct same_step (register_tree r).below) where
  pub parts-register : parts (rows (register_tree r)) ≡ map field_part r.fields.entries
  parts-register =
      parts-rows (register_tree r) distinct
      ∙ ap (map part_of) (listed-siblings (map field_under r.fields.entries))
      ∙ map-map part_of field_under r.fields.entries

  accesses : (entries : List (Sibling × Field)) → map (λ part. value_of stated_access (keys_of part.1)) (map field_part entries) ≡ map (λ entry. entry.1.access) entries
  accesses [] = refl
  accesses (entry ∷ entries) = ap₂ (λ a others. a ∷ others) (access-field entry.0 entry.1) (accesses entries)

  pub access-register : (outer : Props) → access_of (register_properties r outer) (rows (register_tree r)) ≡ access_at r outer
  access-register outer =
      ap (λ all. unwrap_or (register_properties r outer).access (access_by_fields all))
      (ap (map (λ part. value_of stated_access (keys_of part.1))) parts-register ∙ accesses r.fields.entries)

  kind-register : value_of stated_kind (keys_of (rows (register_tree r))) ≡ r.kind
  kind-register = ap (value_of stated_kind) (keys_of-rows (register_tree r)) ∙ register-kind r

  fields-register : (outer : Props) → fields_of (register_properties r outer) (rows (register_tree r)) ≡ rows_of_fields (can_read (access_at r outer)) (can_write (access_at r outer)) r
  fields-register outer =
      ap₂ (λ access kind. map (field_row (can_read access) (can_write access) kind) (parts (rows (register_tree r)))) (access-register outer) kind-register
      ∙ ap (map (field_row (can_read (access_at r outer)) (can_write (access_at r outer)) r.kind)) parts-register
      ∙ map-map (field_row (can_read (access_at r outer)) (can_write (access_at r outer)) r.kind) field_part r.fields.entries

  pub row-register : (path : RowPath) (address : ℕ) (outer : Props) → register_row path address (register_properties r outer) (rows (register_tree r)) ≡ record {
    path = path;
    address = address;
    width = width_of (size_at (register_properties r outer));
    readable = can_read (access_at r outer);
    writable = can_write (access_at r outer);
    reset = cut_reset (bits_of (width_of (size_at (register_properties r outer)))) (register_properties r outer);
    one = mask_of is_by_one (rows_of_fields (can_read (access_at r outer)) (can_write (access_at r outer)) r);
    zero = mask_of is_by_zero (rows_of_fields (can_read (access_at r outer)) (can_write (access_at r outer)) r);
    fields = rows_of_fields (can_read (access_at r outer)) (can_write (access_at r outer)) r;
  }
  unfolding register_row
  row-register path address outer =
      let access = access-register outer in
      let fields = fields-register outer in
      λ i. record {
        path = path;
        address = address;
        width = width_of (size_at (register_properties r outer));
        readable = can_read (access i);
        writable = can_write (access i);
        reset = cut_reset (bits_of (width_of (size_at (register_properties r outer)))) (register_properties r outer);
        one = mask_of is_by_one (fields i);
        zero = mask_of is_by_zero (fields i);
        fields = fields i;
      }

-- the least width is the least
pub least_is : (size : ℕ) → is_size size ≡ true → IsLeastWidth size (width_of size)
least_is size ok = record { holds = grind (arith, nat_tests, ok); least = least }
  where
    least : (other : Width) → size ≤ bits_of other → bits_of (width_of size) ≤ bits_of other
    least W8 h = grind (arith, nat_tests, h)
    least W16 h = grind (arith, nat_tests, h)
    least W32 h = grind (arith, nat_tests, h)
    least W64 h = grind (arith, nat_tests, h)

widest : (width : Width) → bits_of width ≤ 64
widest W8 = lit≤ tt
widest W16 = lit≤ tt
widest W32 = lit≤ tt
widest W64 = lit≤ tt

-- the members of a declared field are those of its row
pub each-within : (bits : ℕ) (field : Field) → ((index : Option ℕ) → IsIndexOf field.dim.count index → bit_at field index + unwrap_or field.place.width 1 ≤ bits)
    → (index : Option ℕ) → IsIndexOf (option_map (λ dim. dim.count) (field_dim field.dim.count field.dim.step)) index → unwrap_or field.place.offset 0 + member_behind (field_dim field.dim.count field.dim.step) index + unwrap_or field.place.width 1 ≤ bits
each-within bits field fit = by field.dim.count (λ index is. fit index is)
  where
    by : (count : Option ℕ) → ((index : Option ℕ) → IsIndexOf count index → bit_at field index + unwrap_or field.place.width 1 ≤ bits)
        → (index : Option ℕ) → IsIndexOf (option_map (λ dim. dim.count) (field_dim count field.dim.step)) index → unwrap_or field.place.offset 0 + member_behind (field_dim count field.dim.step) index + unwrap_or field.place.width 1 ≤ bits
    by None fit None is = let end = fit None tt in omega (arith, end)
    by None fit (Some index) is = absurd is
    by (Some count) fit index is = inside index is
      where
        inside : (index : Option ℕ) → IsIndexOf (Some count) index → unwrap_or field.place.offset 0 + unwrap_or index 0 * unwrap_or field.dim.step 0 + unwrap_or field.place.width 1 ≤ bits
        inside index is = fit index is

-- the rows of fields that fit in so many bits lie within as many, or more
rows-within : (bits limit : ℕ) → bits ≤ limit → (readable writable : Bool) (kind : Option WriteKind) (entries : List (Sibling × Field)) → AllByRecursion (FieldFits bits) entries → All (FitsIn limit) (map (λ entry. field_row readable writable kind (field_part entry)) entries)
rows-within bits limit wide readable writable kind [] fit k d within = absurd (omega (arith, within))
rows-within bits limit wide readable writable kind (entry ∷ entries) fit zero d within =
    let row = row-field entry.0 entry.1 readable writable kind fit.0.distinct in
    subst (FitsIn limit) (sym row) (record { some = fit.0.some; within = each-within limit entry.1 (λ index is. let end = fit.0.within index is in omega (arith, wide, end)) })
rows-within bits limit wide readable writable kind (entry ∷ entries) fit (suc k) d within =
    rows-within bits limit wide readable writable kind entries fit.1 k d (omega (arith, within))

-- the rows of fields that fit lie within a word
pub rows-fit : (width : Width) (readable writable : Bool) (kind : Option WriteKind) (entries : List (Sibling × Field)) → AllByRecursion (FieldFits (bits_of width)) entries → All (FitsIn 64) (map (λ entry. field_row readable writable kind (field_part entry)) entries)
rows-fit width readable writable kind entries fit = rows-within (bits_of width) 64 (widest width) readable writable kind entries fit

-- a reset word that is cut has no more bits
cut-below : (bits : ℕ) (props : Props) → cut_reset bits props < 2 ^ bits
cut-below bits props =
    let value = reset_value_at props in
    let mask = reset_mask_at props in
    let some = pow_pos bits in
    let first : value % 2 ^ bits < 2 ^ bits = omega (arith, some) in
    let second : mask % 2 ^ bits < 2 ^ bits = omega (arith, some) in
    let whole = and-not bits (value % 2 ^ bits) (mask % 2 ^ bits) first second in
    omega (arith, whole, second)

-- the row of a register whose fields fit can be listed
pub register-listed : (r : Register) (path : RowPath) (address : ℕ) (outer : Props) → IsDistinct same_step (register_tree r).below → AllByRecursion (FieldFits (bits_of (width_of (size_at (register_properties r outer))))) r.fields.entries → IsListed (register_row path address (register_properties r outer) (rows (register_tree r)))
register-listed r path address outer distinct fit =
    let bits = bits_of (width_of (size_at (register_properties r outer))) in
    let same : bits ≤ bits = omega arith in
    subst IsListed (sym (row-register r distinct path address outer)) (record {
      reset = cut-below bits (register_properties r outer);
      fields = rows-within bits bits same (can_read (access_at r outer)) (can_write (access_at r outer)) r.kind r.fields.entries fit;
    })

pub word-register : (size value mask reset : ℕ) → is_size size ≡ true → IsResetWord size value mask reset → reset ≡ bit_and (value % 2 ^ bits_of (width_of size)) (mask % 2 ^ bits_of (width_of size))
word-register size value mask reset ok word =
    let some : 0 < size = grind (arith, nat_tests, ok) in
    let few : size ≤ 64 = grind (arith, nat_tests, ok) in
    word.word (width_of size) some few (least_is size ok)
