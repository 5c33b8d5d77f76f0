-- The module of a register does with words what its row says.
use Rattle.std.proofs.Common.{ℕ, ◌≡◌, ◌+◌, ◌^◌, ◌<◌, ◌≤◌, Bool, true, false, List, [], ◌∷◌, length, map, filter, find, Option, Some, None, option_map, bytes_eq, refl, sym, ap, subst, ◌∙◌, arith}
use Rattle.std.specs.Prelude.{unwrap_or}
use Rattle.std.specs.List.{AllByRecursion, zip}
use Rattle.pac_base.specs.declared.width.Width.{Width}
use Rattle.pac_base.specs.declared.width.Width.TheVariants.{W8, W16, W32, W64}
use Rattle.pac_base.specs.Widths.{bits_of}
use Rattle.frag_sem.specs.CallPlaces.{admits}
use Rattle.frag_sem.specs.Likeness.{Alike, KeepsWords}
use Rattle.frag_sem.specs.Meaning.{Acts}
use Rattle.frag_sem.specs.Modules.{are_distinct_names}
use Rattle.frag_sem.specs.TextMeaning.{one_to_modify, started, text_acts, zero_to_modify}
use Rattle.frag_sem.proofs.Lists.{found_map}
use Rattle.frag_sem.proofs.Words.{some_power, start_small}
use Rattle.reg_table.specs.Members.{member_count}
use Rattle.reg_table.specs.declared.row.Call.{Call}
use Rattle.reg_table.specs.declared.row.FieldRow.{FieldRow}
use Rattle.reg_table.specs.declared.row.Row.{Row as TableRow}
use Rattle.register_form.specs.declared.register.Field.{Field}
use Rattle.register_form.specs.declared.register.Register.{Register}
use Rattle.register_form.specs.Doings.{CallsFit, FieldIsSound, RegisterIsSound, field_count, field_got, field_writes, lowest_bit}
use Rattle.register_form.specs.Forms.{form_of, masks_of, markers_of, where_true}
use Rattle.register_form.proofs.Words.{fields_give, fields_write, starts_are}
use Rattle.svd_rows.proofs.Lists.{filter-map, map-map}
use Rattle.table_sem.specs.RowActs.{readable_fields, row_acts, writable_fields}
use Rattle.table_sem.specs.RowActs as row_words
use Rattle.table_sem.specs.RowFacts.{FieldFits, RowFits}
use Rattle.table_sem.proofs.Rows.{index-admitted, member-narrow}
use Rattle.table_sem.proofs.Runs.{row_keeps_words}
use Rattle.table_sem.proofs.StartNumbers.{start_is_one}
use Rattle.crate_form.specs.Registers.{number_call, register_of}
use Rattle.crate_means.proofs.Fields.{Part, count_same, fields_made, fields_told, given_same, made, markers_told, place_same, put_same, told}

-- ---- likeness

-- What does the same as what keeps words, keeps them.
alike_by : (one other : Acts) → KeepsWords other → (width : one.width ≡ other.width) → one.reset ≡ other.reset
    → ((word : ℕ) → word < 2 ^ bits_of one.width → one.start word ≡ other.start word)
    → ((field : List ℕ) (index : Option ℕ) (method : List ℕ) (word : ℕ) → word < 2 ^ bits_of one.width → one.given field index method word ≡ other.given field index method word)
    → ((field : List ℕ) (index : Option ℕ) (method : List ℕ) (value word : ℕ) → word < 2 ^ bits_of one.width → one.put field index method value word ≡ other.put field index method value word)
    → Alike one other
alike_by one other keeps width reset start given put = record {
  keeps = record {
    reset = subst (λ (n : ℕ). n < 2 ^ bits_of one.width) (sym reset) (back other.reset keeps.reset);
    start = λ word small. subst (λ (n : ℕ). n < 2 ^ bits_of one.width) (sym (start word small)) (back (other.start word) (keeps.start word (there word small)));
    put = λ field index method value word small. subst (λ (n : ℕ). n < 2 ^ bits_of one.width) (sym (put field index method value word small)) (back (other.put field index method value word) (keeps.put field index method value word (there word small)));
  };
  width = width;
  reset = reset;
  start = start;
  given = given;
  put = put;
}
  where
    back : (n : ℕ) → n < 2 ^ bits_of other.width → n < 2 ^ bits_of one.width
    back n small = subst (λ w. n < 2 ^ bits_of w) (sym width) small

    there : (n : ℕ) → n < 2 ^ bits_of one.width → n < 2 ^ bits_of other.width
    there n small = subst (λ w. n < 2 ^ bits_of w) width small

bits_within : (w : Width) → bits_of w ≤ 64
bits_within W8 = omega arith
bits_within W16 = omega arith
bits_within W32 = omega arith
bits_within W64 = omega arith

-- ---- what checking says of a row

abbrev pub HasMember : FieldRow → Type 0
HasMember field = 1 ≤ unwrap_or (member_count field) 1

-- what is said of a field, and that it has a member
pub record PartFits (row : TableRow) (part : Part) : Type 0 where
  pub fits : FieldFits row part.1
  pub some : HasMember part.1

-- A row that fits, whose fields have members, with a marker for each field, all of them distinct.
pub record IsMarked (row : TableRow) (markers : List (List ℕ)) : Type 0 where
  pub fits : RowFits row
  pub some : AllByRecursion HasMember row.fields
  pub same : length markers ≡ length row.fields
  pub distinct : are_distinct_names markers ≡ true

parts_fit : (row : TableRow) (parts : List Part) → AllByRecursion (FieldFits row) (map told parts) → AllByRecursion HasMember (map told parts) → AllByRecursion (PartFits row) parts
parts_fit row [] fits some = tt
parts_fit row (part ∷ parts) fits some = (record { fits = fits.0; some = some.0 }, parts_fit row parts fits.1 some.1)

calls_fit : (bits : ℕ) (calls : List Call) → AllByRecursion (λ (call : Call). call.value < 2 ^ bits) calls → CallsFit bits (map number_call calls)
calls_fit bits [] fit = tt
calls_fit bits (call ∷ calls) fit = (fit.0, calls_fit bits calls fit.1)

module _ (name : List ℕ) (row : TableRow) (markers : List (List ℕ)) (is : IsMarked row markers) where
  abbrev pub made_of : Register
  made_of = register_of name row markers

  abbrev pub parts : List Part
  parts = zip markers row.fields

  pub made_are : made_of.fields ≡ map made parts
  made_are = fields_made markers row.fields

  pub told_are : row.fields ≡ map told parts
  told_are = fields_told markers row.fields is.same

  pub all_fit : AllByRecursion (PartFits row) parts
  all_fit = parts_fit row parts (subst (AllByRecursion (FieldFits row)) told_are is.fits.fields) (subst (AllByRecursion HasMember) told_are is.some)

  within : (part : Part) → PartFits row part → (index : Option ℕ) → admits (field_count (made part)) index ≡ true → lowest_bit (made part) index + part.1.width ≤ bits_of row.width
  within part fit index h =
      subst (λ (n : ℕ). n + part.1.width ≤ bits_of row.width) (sym (place_same part index))
      (fit.fits.within index (index-admitted (member_count part.1) index (subst (λ (count : Option ℕ). admits count index ≡ true) (count_same part) h)))

  fields_sound : (list : List Part) → AllByRecursion (PartFits row) list → AllByRecursion (FieldIsSound made_of) (map made list)
  fields_sound [] fit = tt
  fields_sound (part ∷ list) fit = (
    record {
      bits = record { some = fit.0.fits.some; most = omega (arith, member-narrow row part.1 fit.0.fits fit.0.some, bits_within row.width) };
      within = within part fit.0;
      tests = calls_fit part.1.width part.1.is_calls fit.0.fits.is_calls;
      sets = calls_fit part.1.width part.1.set_calls fit.0.fits.set_calls;
      readable = fit.0.fits.readable;
      writable = fit.0.fits.writable;
    },
    fields_sound list fit.1,
  )

  pub sound : RegisterIsSound made_of
  sound = record {
    markers = subst (λ names. are_distinct_names names ≡ true) (sym (ap markers_of made_are ∙ (map-map (λ (field : Field). field.marker) made parts ∙ markers_told markers row.fields is.same))) is.distinct;
    fields = subst (AllByRecursion (FieldIsSound made_of)) (sym made_are) (fields_sound parts all_fit);
    reset = is.fits.reset;
    one = is.fits.one;
    zero = is.fits.raised;
    no_masks = λ none. (is.fits.no_one none, is.fits.no_raised none);
  }

  -- ---- fields by name

  found_made : (passes : Field → Bool) (field : List ℕ) → find (λ (one : Field). bytes_eq field one.name) (filter passes made_of.fields) ≡ option_map made (find (λ (part : Part). bytes_eq field part.1.name) (filter (λ part. passes (made part)) parts))
  found_made passes field =
      ap (λ fields. find (λ (one : Field). bytes_eq field one.name) (filter passes fields)) made_are
      ∙ ap (find (λ (one : Field). bytes_eq field one.name)) (filter-map passes made parts)
      ∙ found_map (λ (one : Field). bytes_eq field one.name) made (filter (λ part. passes (made part)) parts)

  found_told : (passes : FieldRow → Bool) (field : List ℕ) → find (λ (one : FieldRow). bytes_eq field one.name) (filter passes row.fields) ≡ option_map told (find (λ (part : Part). bytes_eq field part.1.name) (filter (λ part. passes (told part)) parts))
  found_told passes field =
      ap (λ fields. find (λ (one : FieldRow). bytes_eq field one.name) (filter passes fields)) told_are
      ∙ ap (find (λ (one : FieldRow). bytes_eq field one.name)) (filter-map passes told parts)
      ∙ found_map (λ (one : FieldRow). bytes_eq field one.name) told (filter (λ part. passes (told part)) parts)

  -- the field of a name that can be read, and the one that can be written
  abbrev readable : List ℕ → Option Part
  readable field = find (λ (part : Part). bytes_eq field part.1.name) (filter (λ (part : Part). part.1.readable) parts)

  abbrev writable : List ℕ → Option Part
  writable field = find (λ (part : Part). bytes_eq field part.1.name) (filter (λ (part : Part). part.1.writable) parts)

  given : (field : List ℕ) (index : Option ℕ) (method : List ℕ) (word : ℕ) → (text_acts (form_of made_of)).given field index method word ≡ (row_acts row).given field index method word
  unfolding row_acts
  given field index method word =
      fields_give made_of sound field index method word
      ∙ ap (field_got index method word) (found_made (λ (one : Field). one.readable) field)
      ∙ given_same index method word (readable field)
      ∙ sym (ap (row_words.field_said index method word) (found_told (λ (one : FieldRow). one.readable) field))

  put : (field : List ℕ) (index : Option ℕ) (method : List ℕ) (value word : ℕ) → word < 2 ^ bits_of row.width → (text_acts (form_of made_of)).put field index method value word ≡ (row_acts row).put field index method value word
  unfolding row_acts
  put field index method value word small =
      fields_write made_of sound field index method value word
      ∙ ap (field_writes (bits_of row.width) index method value word) (found_made (λ (one : Field). one.writable) field)
      ∙ by (writable field)
      ∙ sym (ap (row_words.field_put (bits_of row.width) index method value word) (found_told (λ (one : FieldRow). one.writable) field))
    where
      by : (o : Option Part) → field_writes (bits_of row.width) index method value word (option_map made o) ≡ row_words.field_put (bits_of row.width) index method value word (option_map told o)
      by None = refl
      by (Some part) = put_same row index method value word small part

  -- ---- the start of a write

  started_small : (word : ℕ) → word < 2 ^ bits_of row.width → started (form_of made_of) word < 2 ^ bits_of row.width
  started_small word small = start_small (bits_of row.width) word (one_to_modify (form_of made_of)) (zero_to_modify (form_of made_of)) small (by row.writable)
    where
      by : (b : Bool) → unwrap_or (option_map (λ masks. masks.zero_to_modify.value) (where_true b (masks_of made_of))) 0 < 2 ^ bits_of row.width
      by true = is.fits.raised
      by false = some_power (bits_of row.width)

  start : (word : ℕ) → word < 2 ^ bits_of row.width → (text_acts (form_of made_of)).start word ≡ (row_acts row).start word
  unfolding row_acts
  start word small = start_is_one (bits_of row.width) word row.one row.zero (started (form_of made_of) word) (started_small word small) (starts_are made_of sound word)

  pub acts : Alike (text_acts (form_of made_of)) (row_acts row)
  unfolding row_acts
  acts = alike_by (text_acts (form_of made_of)) (row_acts row) (row_keeps_words row is.fits) refl refl start (λ field index method word small. given field index method word) put
