-- A field of a row, against the field that is made of it with its marker.
use Rattle.std.proofs.Common.{ℕ, ◌≡◌, ◌+◌, ◌^◌, ◌<◌, ◌≤◌, Bool, true, false, ◌==◌, cond, List, [], ◌∷◌, ◌++◌, length, map, find, Option, Some, None, option_map, bytes_eq, refl, sym, ap, ap₂, subst, ◌∙◌, arith, mod-eq_of_lt}
use Rattle.std.specs.Prelude.{codes}
use Rattle.std.specs.List.{zip}
use Rattle.bits_word.specs.Places.{get}
use Rattle.pac_base.specs.Widths.{bits_of}
use Rattle.frag_tree.specs.declared.event.Said.TheVariants.{Number, Truth}
use Rattle.frag_sem.specs.PreludeWords.{written as word_written}
use Rattle.frag_sem.proofs.Lists.{found_map}
use Rattle.reg_table.specs.declared.row.Call.{Call}
use Rattle.reg_table.specs.declared.row.FieldDim.{FieldDim}
use Rattle.reg_table.specs.declared.row.FieldRow.{FieldRow}
use Rattle.reg_table.specs.declared.row.Row.{Row as TableRow}
use Rattle.register_form.specs.declared.register.Field.{Field}
use Rattle.register_form.specs.Doings.{bit_in, compared, field_got, field_writes, lowest_bit, said_by, value_by, value_or}
use Rattle.register_form.specs.Doings as form
use Rattle.svd_values.specs.declared.schema_word.WriteKind.{WriteKind}
use Rattle.svd_values.specs.declared.schema_word.WriteKind.TheVariants as kind
use Rattle.reg_table.specs.Members.{member_at, member_behind, member_count}
use Rattle.table_sem.specs.Members.{member_get}
use Rattle.table_sem.specs.Methods.{ReadMethod, WriteMethod, bit_tests, bit_writes, is_bit, read_methods, read_methods_by, tests_for, write_methods, write_methods_by, writes}
use Rattle.table_sem.specs.RowActs.{field_said, number_put, said_of}
use Rattle.table_sem.specs.RowActs as row_acts
use Rattle.table_sem.proofs.Places.{written_is_put}
use Rattle.crate_form.specs.Registers.{bit_kind, field_array, field_of, marked, number_call}

-- a field of a row, behind its marker
abbrev pub Part : Type 0
Part = List ℕ × FieldRow

abbrev pub made : Part → Field
made part = field_of part.0 part.1

abbrev pub told : Part → FieldRow
told part = part.1

pub fields_made : (markers : List (List ℕ)) (rows : List FieldRow) → marked markers rows ≡ map made (zip markers rows)
unfolding marked
fields_made [] rows = refl
fields_made (marker ∷ markers) [] = refl
fields_made (marker ∷ markers) (row ∷ rows) = ap (λ fields. field_of marker row ∷ fields) (fields_made markers rows)

pub fields_told : (markers : List (List ℕ)) (rows : List FieldRow) → length markers ≡ length rows → rows ≡ map told (zip markers rows)
fields_told [] [] same = refl
fields_told [] (row ∷ rows) same = absurd (omega (arith, same))
fields_told (marker ∷ markers) [] same = absurd (omega (arith, same))
fields_told (marker ∷ markers) (row ∷ rows) same = ap (λ fields. row ∷ fields) (fields_told markers rows (omega (arith, same)))

pub markers_told : (markers : List (List ℕ)) (rows : List FieldRow) → length markers ≡ length rows → map (λ (part : Part). part.0) (zip markers rows) ≡ markers
markers_told [] [] same = refl
markers_told [] (row ∷ rows) same = absurd (omega (arith, same))
markers_told (marker ∷ markers) [] same = absurd (omega (arith, same))
markers_told (marker ∷ markers) (row ∷ rows) same = ap (λ names. marker ∷ names) (markers_told markers rows (omega (arith, same)))

-- ---- places

pub place_same : (part : Part) (index : Option ℕ) → lowest_bit (made part) index ≡ member_at (told part) index
place_same part index = by part.1.dim
  where
    by : (dim : Option FieldDim) → bit_in part.1.offset (option_map field_array dim) index ≡ part.1.offset + member_behind dim index
    by None = omega arith
    by (Some dim) = refl

pub count_same : (part : Part) → form.field_count (made part) ≡ member_count (told part)
count_same part = by part.1.dim
  where
    by : (dim : Option FieldDim) → option_map (λ array. array.count) (option_map field_array dim) ≡ option_map (λ (dim : FieldDim). dim.count) dim
    by None = refl
    by (Some dim) = refl

-- ---- what is read

tested : (held : ℕ) (method : List ℕ) (calls : List Call) → compared held (form.call_named method (map number_call calls)) ≡ said_of held (find (λ (one : ReadMethod). bytes_eq method one.name) (map tests_for calls))
tested held method calls =
    ap (compared held) (found_map (λ call. bytes_eq method call.name) number_call calls)
    ∙ by (find (λ (call : Call). bytes_eq method call.name) calls)
    ∙ sym (ap (said_of held) (found_map (λ (one : ReadMethod). bytes_eq method one.name) tests_for calls))
  where
    by : (o : Option Call) → compared held (option_map number_call o) ≡ said_of held (option_map tests_for o)
    by None = refl
    by (Some call) = refl

said_if : (b : Bool) (held : ℕ) (first : ReadMethod) (others : Option ReadMethod) → said_of held (cond b (Some first) others) ≡ cond b (first.said held) (said_of held others)
said_if true held first others = refl
said_if false held first others = refl

said_same : (b : Bool) (field : FieldRow) (method : List ℕ) (held : ℕ) → said_by b (map number_call field.is_calls) method held ≡ said_of held (find (λ (one : ReadMethod). bytes_eq method one.name) (read_methods_by b field))
said_same true field method held =
    ap (λ said. cond (bytes_eq method (codes "bit")) (Truth (held == 1)) said) (tested held method (bit_tests ++ field.is_calls))
    ∙ sym (said_if (bytes_eq method (codes "bit")) held _ (find (λ (one : ReadMethod). bytes_eq method one.name) (map tests_for (bit_tests ++ field.is_calls))))
said_same false field method held =
    ap (λ said. cond (bytes_eq method (codes "bits")) (Number held) said) (tested held method field.is_calls)
    ∙ sym (said_if (bytes_eq method (codes "bits")) held _ (find (λ (one : ReadMethod). bytes_eq method one.name) (map tests_for field.is_calls)))

pub given_same : (index : Option ℕ) (method : List ℕ) (word : ℕ) (o : Option Part) → field_got index method word (option_map made o) ≡ field_said index method word (option_map told o)
unfolding read_methods
given_same index method word None = refl
given_same index method word (Some part) =
    ap (λ place. said_by (is_bit part.1) (map number_call part.1.is_calls) method (get word place part.1.width)) (place_same part index)
    ∙ said_same (is_bit part.1) part.1 method (member_get part.1 index word)

-- ---- what is written

written : (value : ℕ) (method : List ℕ) (calls : List Call) → value_or (form.call_named method (map number_call calls)) value ≡ number_put value (find (λ (one : WriteMethod). bytes_eq method one.name) (map writes calls))
written value method calls =
    ap (λ o. value_or o value) (found_map (λ call. bytes_eq method call.name) number_call calls)
    ∙ by (find (λ (call : Call). bytes_eq method call.name) calls)
    ∙ sym (ap (number_put value) (found_map (λ (one : WriteMethod). bytes_eq method one.name) writes calls))
  where
    by : (o : Option Call) → value_or (option_map number_call o) value ≡ number_put value (option_map writes o)
    by None = refl
    by (Some call) = refl

put_if : (b : Bool) (value : ℕ) (first : WriteMethod) (others : Option WriteMethod) → number_put value (cond b (Some first) others) ≡ cond b (first.puts value) (number_put value others)
put_if true value first others = refl
put_if false value first others = refl

pub writes_same : (kind : WriteKind) (sets : List Call) → form.bit_writes (bit_kind kind) ++ map number_call sets ≡ map number_call (bit_writes kind ++ sets)
writes_same kind.Clear sets = refl
writes_same kind.Set sets = refl
writes_same kind.Modify sets = refl
writes_same kind.OneToClear sets = refl
writes_same kind.OneToSet sets = refl
writes_same kind.OneToToggle sets = refl
writes_same kind.ZeroToClear sets = refl
writes_same kind.ZeroToSet sets = refl
writes_same kind.ZeroToToggle sets = refl

value_same : (b : Bool) (part : Part) (method : List ℕ) (value : ℕ) → value_by b (made part) method value ≡ number_put value (find (λ (one : WriteMethod). bytes_eq method one.name) (write_methods_by b part.1))
value_same true part method value =
    ap (λ put. cond (bytes_eq method (codes "bit")) value put)
    (ap (λ calls. value_or (form.call_named method calls) value) (writes_same part.1.kind part.1.set_calls) ∙ written value method (bit_writes part.1.kind ++ part.1.set_calls))
    ∙ sym (put_if (bytes_eq method (codes "bit")) value _ (find (λ (one : WriteMethod). bytes_eq method one.name) (map writes (bit_writes part.1.kind ++ part.1.set_calls))))
value_same false part method value =
    ap (λ put. cond (bytes_eq method (codes "bits")) value put) (written value method part.1.set_calls)
    ∙ sym (put_if (bytes_eq method (codes "bits")) value _ (find (λ (one : WriteMethod). bytes_eq method one.name) (map writes part.1.set_calls)))

pub put_same : (row : TableRow) (index : Option ℕ) (method : List ℕ) (value word : ℕ) → word < 2 ^ bits_of row.width → (part : Part)
    → field_writes (bits_of row.width) index method value word (Some (made part)) ≡ row_acts.field_put (bits_of row.width) index method value word (Some (told part))
unfolding write_methods
put_same row index method value word small part =
    ap₂ (λ place number. word_written (bits_of row.width) word place part.1.width number) (place_same part index) (value_same (is_bit part.1) part method value)
    ∙ written_is_put (bits_of row.width) word (member_at part.1 index) part.1.width (number_put value (find (λ (one : WriteMethod). bytes_eq method one.name) (write_methods_by (is_bit part.1) part.1))) small
