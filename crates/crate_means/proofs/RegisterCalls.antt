-- The module of a register offers the calls of its row.
use Rattle.std.proofs.Common.{ℕ, ◌≡◌, Bool, true, false, cond, inl, inr, List, [], ◌∷◌, ◌++◌, map, filter, Option, Some, None, option_map, is_some, refl, sym, ap, ap₂, subst, ◌∙◌}
use Rattle.std.specs.Prelude.{codes, nat_le}
use Rattle.std.proofs.lemmas.List.{map-append}
use Rattle.pac_base.specs.declared.width.Width.TheVariants.{W8, W16, W32, W64}
use Rattle.frag_tree.specs.declared.register.RegisterModule.{RegisterModule}
use Rattle.frag_sem.specs.PreludeCalls as prelude
use Rattle.frag_sem.specs.ProxyTypes.{bit_reader, bit_writer, field_reader, field_writer, number_calls, numbers_on, read_type, readers_of, truth_calls, truths_on, write_type, writers_of}
use Rattle.frag_sem.specs.Spots.{read_spot, spot_count, write_spot}
use Rattle.frag_sem.specs.Surfaces.{WriteCall, number, truth}
use Rattle.frag_sem.specs.TextSurface.{plain_call, read_field, register_calls, test_call, write_field}
use Rattle.frag_sem.specs.TextSurface as text
use Rattle.frag_sem.proofs.Picking.{map-same}
use Rattle.reg_table.specs.declared.row.Call.{Call}
use Rattle.reg_table.specs.declared.row.FieldDim.{FieldDim}
use Rattle.reg_table.specs.declared.row.FieldRow.{FieldRow}
use Rattle.reg_table.specs.declared.row.Row.{Row as TableRow}
use Rattle.register_form.specs.declared.register.Field.{Field}
use Rattle.register_form.specs.Fields.{least_width, read_form, reader_of, spot_of, truth_call_of, width_by, write_form, writer_of}
use Rattle.register_form.specs.Forms.{form_of, masks_of, values_among, where_true}
use Rattle.register_form.proofs.Among.{Among, among_filter}
use Rattle.register_form.proofs.OwnCalls.{read_calls, written_calls}
use Rattle.register_form.proofs.Words.{readers_here, writers_here}
use Rattle.svd_model.specs.Checking.{width_of}
use Rattle.svd_rows.proofs.Lists.{filter-map}
use Rattle.svd_values.specs.declared.schema_word.WriteKind.{WriteKind}
use Rattle.svd_values.specs.declared.schema_word.WriteKind.TheVariants as kind
use Rattle.reg_table.specs.Members.{member_count}
use Rattle.table_sem.specs.Methods.{bit_writes, is_bit, read_methods, read_methods_by, tests_for, write_methods, write_methods_by, writes}
use Rattle.table_sem.specs.RowActs.{readable_fields, writable_fields}
use Rattle.table_sem.specs.TableSurface.{read_call, row_calls, write_call}
use Rattle.table_sem.specs.TableSurface as row_surface
use Rattle.crate_form.specs.Registers.{bit_kind, field_array, number_call}
use Rattle.crate_means.proofs.Fields.{Part, made, told}
use Rattle.crate_means.proofs.RegisterActs.{IsMarked, made_are, made_of, parts, sound, told_are}

-- ---- widths and counts

width_same : (bits : ℕ) → least_width bits ≡ width_of bits
width_same bits = by (nat_le bits 8) (nat_le bits 16) (nat_le bits 32)
  where
    by : (a b c : Bool) → width_by a b c ≡ cond a W8 (cond b W16 (cond c W32 W64))
    by true b c = refl
    by false true c = refl
    by false false true = refl
    by false false false = refl

spots : (offset : ℕ) (dim : Option FieldDim) → spot_count (spot_of offset (option_map field_array dim)) ≡ option_map (λ (dim : FieldDim). dim.count) dim
spots offset None = refl
spots offset (Some dim) = refl

read_count : (b : Bool) (part : Part) → spot_count (read_spot (read_form b (made part))) ≡ member_count part.1
read_count true part = spots part.1.offset part.1.dim
read_count false part = spots part.1.offset part.1.dim

write_count : (b : Bool) (part : Part) → spot_count (write_spot (write_form b (made part))) ≡ member_count part.1
write_count true part = spots part.1.offset part.1.dim
write_count false part = spots part.1.offset part.1.dim

-- ---- names of calls

truth_tests : (calls : List Call) → map (λ call. test_call call.name) (map truth_call_of (map number_call calls)) ≡ map read_call (map tests_for calls)
truth_tests [] = refl
truth_tests (call ∷ calls) = ap (λ others. test_call call.name ∷ others) (truth_tests calls)

number_tests : (calls : List Call) → map (λ call. test_call call.name) (map number_call calls) ≡ map read_call (map tests_for calls)
number_tests [] = refl
number_tests (call ∷ calls) = ap (λ others. test_call call.name ∷ others) (number_tests calls)

truth_writes : (calls : List Call) → map (λ call. plain_call call.name) (map truth_call_of (map number_call calls)) ≡ map write_call (map writes calls)
truth_writes [] = refl
truth_writes (call ∷ calls) = ap (λ others. plain_call call.name ∷ others) (truth_writes calls)

number_writes : (calls : List Call) → map (λ call. plain_call call.name) (map number_call calls) ≡ map write_call (map writes calls)
number_writes [] = refl
number_writes (call ∷ calls) = ap (λ others. plain_call call.name ∷ others) (number_writes calls)

bit_names : (k : WriteKind) (others : List WriteCall) → map (λ call. plain_call call.name) (prelude.bit_writes (bit_kind k)) ++ others ≡ map write_call (map writes (bit_writes k)) ++ others
bit_names kind.Clear others = refl
bit_names kind.Set others = refl
bit_names kind.Modify others = refl
bit_names kind.OneToClear others = refl
bit_names kind.OneToSet others = refl
bit_names kind.OneToToggle others = refl
bit_names kind.ZeroToClear others = refl
bit_names kind.ZeroToSet others = refl
bit_names kind.ZeroToToggle others = refl

bit_calls : (k : WriteKind) (calls : List Call) → map (λ call. plain_call call.name) (prelude.bit_writes (bit_kind k) ++ map truth_call_of (map number_call calls)) ≡ map write_call (map writes (bit_writes k ++ calls))
bit_calls k calls =
    map-append (λ call. plain_call call.name) (prelude.bit_writes (bit_kind k)) (map truth_call_of (map number_call calls))
    ∙ ap (λ others. map (λ call. plain_call call.name) (prelude.bit_writes (bit_kind k)) ++ others) (truth_writes calls)
    ∙ bit_names k (map write_call (map writes calls))
    ∙ sym (map-append write_call (map writes (bit_writes k)) (map writes calls))
    ∙ ap (map write_call) (sym (map-append writes (bit_writes k) calls))

among_map : {X Y : Type 0} (f : X → Y) (xs : List X) (x : X) → Among x xs → Among (f x) (map f xs)
among_map f [] x h = h
among_map f (y ∷ xs) x (inl same) = inl (ap f same)
among_map f (y ∷ xs) x (inr later) = inr (among_map f xs x later)

module _ (name : List ℕ) (row : TableRow) (markers : List (List ℕ)) (is : IsMarked row markers) where
  abbrev unit : RegisterModule
  unit = form_of (made_of name row markers is)

  abbrev all : List Field
  all = (made_of name row markers is).fields

  read_one : (part : Part) → Among (made part) all → part.1.readable ≡ true → (b : Bool) → is_bit part.1 ≡ b → text.read_calls unit (reader_of (made part)) (read_form b (made part)) ≡ map read_call (read_methods_by b part.1)
  read_one part among readable true bits =
      ap (λ calls. record { name = codes "bit"; gives = truth } ∷ map (λ call. test_call call.name) (prelude.bit_tests ++ calls))
      (ap (λ b. truths_on (read_type part.0 (read_form b (made part))) (values_among all)) bits
      ∙ read_calls (bit_reader part.0) truth_calls truth_call_of (made part) true bits readable refl refl refl refl all (sound name row markers is).markers among)
      ∙ ap (λ others. record { name = codes "bit"; gives = truth } ∷ test_call (codes "bit_is_set") ∷ test_call (codes "bit_is_clear") ∷ others) (truth_tests part.1.is_calls)
  read_one part among readable false bits =
      ap₂ (λ width calls. record { name = codes "bits"; gives = number width } ∷ map (λ call. test_call call.name) calls) (width_same part.1.width)
      (ap (λ b. numbers_on (read_type part.0 (read_form b (made part))) (values_among all)) bits
      ∙ read_calls (field_reader part.0 (least_width part.1.width)) number_calls (λ call. call) (made part) false bits readable refl refl (sym (map-same (made part).tests)) refl all (sound name row markers is).markers among
      ∙ map-same (made part).tests)
      ∙ ap (λ others. record { name = codes "bits"; gives = number (width_of part.1.width) } ∷ others) (number_tests part.1.is_calls)

  write_one : (part : Part) → Among (made part) all → part.1.writable ≡ true → (b : Bool) → is_bit part.1 ≡ b → text.write_calls unit (writer_of (made part)) (write_form b (made part)) ≡ map write_call (write_methods_by b part.1)
  write_one part among writable true bits =
      ap (λ calls. record { name = codes "bit"; takes = Some truth } ∷ map (λ call. plain_call call.name) (prelude.bit_writes (bit_kind part.1.kind) ++ calls))
      (ap (λ b. truths_on (write_type part.0 (write_form b (made part))) (values_among all)) bits
      ∙ written_calls (bit_writer (bit_kind part.1.kind) part.0) truth_calls truth_call_of (made part) true bits writable refl refl refl refl all (sound name row markers is).markers among)
      ∙ ap (λ others. record { name = codes "bit"; takes = Some truth } ∷ others) (bit_calls part.1.kind part.1.set_calls)
  write_one part among writable false bits =
      ap₂ (λ width calls. record { name = codes "bits"; takes = Some (number width) } ∷ map (λ call. plain_call call.name) calls) (width_same part.1.width)
      (ap (λ b. numbers_on (write_type part.0 (write_form b (made part))) (values_among all)) bits
      ∙ written_calls (field_writer part.0 (least_width part.1.width) part.1.width) number_calls (λ call. call) (made part) false bits writable refl refl (sym (map-same (made part).sets)) refl all (sound name row markers is).markers among
      ∙ map-same (made part).sets)
      ∙ ap (λ others. record { name = codes "bits"; takes = Some (number (width_of part.1.width)) } ∷ others) (number_writes part.1.set_calls)

  reads : (list : List Part) → ((part : Part) → Among part list → Among (made part) all × (part.1.readable ≡ true)) → map (read_field unit) (map reader_of (map made list)) ≡ map row_surface.read_field (map told list)
  unfolding read_methods
  reads [] there = refl
  reads (part ∷ list) there =
      let here = there part (inl refl) in
      ap₂ (λ first others. first ∷ others)
      (ap₂ (λ count calls. record { name = part.1.name; count = count; calls = calls }) (read_count (is_bit part.1) part) (read_one part here.0 here.1 (is_bit part.1) refl))
      (reads list (λ other among. there other (inr among)))

  wrote : (list : List Part) → ((part : Part) → Among part list → Among (made part) all × (part.1.writable ≡ true)) → map (write_field unit) (map writer_of (map made list)) ≡ map row_surface.write_field (map told list)
  unfolding write_methods
  wrote [] there = refl
  wrote (part ∷ list) there =
      let here = there part (inl refl) in
      ap₂ (λ first others. first ∷ others)
      (ap₂ (λ count calls. record { name = part.1.name; count = count; calls = calls }) (write_count (is_bit part.1) part) (write_one part here.0 here.1 (is_bit part.1) refl))
      (wrote list (λ other among. there other (inr among)))

  -- of the parts that pass a test, each is made a field of the register
  passed : (test : Part → Bool) (part : Part) → Among part (filter test (parts name row markers is)) → Among (made part) all × (test part ≡ true)
  passed test part among =
      let there = among_filter test (parts name row markers is) part among in
      (subst (Among (made part)) (sym (made_are name row markers is)) (among_map made (parts name row markers is) part there.0), there.1)

  readers_same : map (read_field unit) (readers_of unit) ≡ map row_surface.read_field (readable_fields row)
  readers_same =
      ap (map (read_field unit)) (readers_here (made_of name row markers is) (sound name row markers is))
      ∙ ap (λ fields. map (read_field unit) (map reader_of fields)) (ap (filter (λ (field : Field). field.readable)) (made_are name row markers is) ∙ filter-map (λ (field : Field). field.readable) made (parts name row markers is))
      ∙ reads (filter (λ (part : Part). part.1.readable) (parts name row markers is)) (passed (λ (part : Part). part.1.readable))
      ∙ sym (ap (map row_surface.read_field) (ap (filter (λ (field : FieldRow). field.readable)) (told_are name row markers is) ∙ filter-map (λ (field : FieldRow). field.readable) told (parts name row markers is)))

  writers_same : map (write_field unit) (writers_of unit) ≡ map row_surface.write_field (writable_fields row)
  writers_same =
      ap (map (write_field unit)) (writers_here (made_of name row markers is) (sound name row markers is))
      ∙ ap (λ fields. map (write_field unit) (map writer_of fields)) (ap (filter (λ (field : Field). field.writable)) (made_are name row markers is) ∙ filter-map (λ (field : Field). field.writable) made (parts name row markers is))
      ∙ wrote (filter (λ (part : Part). part.1.writable) (parts name row markers is)) (passed (λ (part : Part). part.1.writable))
      ∙ sym (ap (map row_surface.write_field) (ap (filter (λ (field : FieldRow). field.writable)) (told_are name row markers is) ∙ filter-map (λ (field : FieldRow). field.writable) told (parts name row markers is)))

  there_is : (b : Bool) → is_some (where_true b (masks_of (made_of name row markers is))) ≡ b
  there_is true = refl
  there_is false = refl

  pub calls : register_calls unit ≡ row_calls row
  unfolding register_calls row_calls
  calls = λ i. record { width = row.width; readable = row.readable; writable = there_is row.writable i; readers = readers_same i; writers = writers_same i }
