-- The module of a register is a valid tree.
use Rattle.std.proofs.Common.{ℕ, suc, ◌≡◌, ◌+◌, ◌^◌, ◌<◌, ◌≤◌, Bool, true, false, ◌&&◌, ◌||◌, inl, inr, List, [], ◌∷◌, map, drop, drop-cons, length, get_or, Option, Some, None, refl, sym, ap, subst, ◌∙◌, arith, add-one}
use Rattle.std.specs.Prelude.{is_some}
use Rattle.std.specs.List.{AllByRecursion, list_all, list_any}
use Rattle.std.proofs.Math.Nat.{pow-le-pow_right}
use Rattle.std.proofs.lemmas.Bool.{and_from}
use Rattle.frag_tree.specs.declared.krate.Version.{Version}
use Rattle.frag_tree.specs.declared.register.NumberCall.{NumberCall}
use Rattle.rust_names.specs.Identifiers.{is_identifier}
use Rattle.frag_tree.specs.Trees.{takes_index}
use Rattle.frag_tree.specs.Validity.{is_number, stands_in, valid_number, valid_option, valid_reader, valid_register, valid_spot, valid_truth, valid_values, valid_writable, valid_writer}
use Rattle.frag_sem.specs.PreludeWords.{ones}
use Rattle.register_form.specs.declared.register.Field.{Field}
use Rattle.register_form.specs.declared.register.FieldArray.{FieldArray}
use Rattle.register_form.specs.declared.register.Register.{Register}
use Rattle.register_form.specs.Fields.{HasBits, field_spot, is_bit, read_form, read_values, reader_of, spot_of, truth_call_of, write_form, write_values, writer_of}
use Rattle.register_form.specs.Forms.{form_of, markers_of, masks_of, readers_among, values_among, where_true, writers_among}
use Rattle.register_form.specs.Numbers.{ArrayIsNumbered, CallIsNumbered, FieldIsNumbered, IsValid, RegisterIsNumbered}
use Rattle.register_form.proofs.Among.{Among, all_among}
use Rattle.register_form.proofs.Rules.{Passes, every, less_test, picked_pass, values_pass}
use Rattle.frag_sem.proofs.Words.{some_power}

below : (n : ℕ) → n < 2 ^ 64 → is_number n ≡ true
below n less = less_test n (2 ^ 64) less

spot_valid : (offset : ℕ) (array : Option FieldArray) → offset < 2 ^ 64 → ArrayIsNumbered array → valid_spot (spot_of offset array) ≡ true
spot_valid offset None less numbers = below offset less
spot_valid offset (Some array) less numbers =
    and_from (is_number offset) (is_number array.step && is_number array.count) (below offset less) (and_from (is_number array.step) (is_number array.count) (below array.step numbers.1) (below array.count numbers.0))

spot_stands : (version : Version) (offset : ℕ) (array : Option FieldArray) → (is_some array ≡ true → takes_index version ≡ true) → stands_in version (spot_of offset array) ≡ true
spot_stands version offset None takes = refl
spot_stands version offset (Some array) takes = takes refl

ones_below : (n : ℕ) → n ≤ 64 → is_number (ones n) ≡ true
ones_below n le = let some = some_power n in let more : 2 ^ n ≤ 2 ^ 64 = pow-le-pow_right (omega arith) le in below (ones n) (omega arith)

truths_valid : (calls : List NumberCall) → AllByRecursion CallIsNumbered calls → list_all valid_truth (map truth_call_of calls) ≡ true
truths_valid [] all = refl
truths_valid (call ∷ calls) all = and_from (is_identifier call.name) (list_all valid_truth (map truth_call_of calls)) all.0.0 (truths_valid calls all.1)

numbers_valid : (calls : List NumberCall) → AllByRecursion CallIsNumbered calls → list_all valid_number calls ≡ true
numbers_valid [] all = refl
numbers_valid (call ∷ calls) all =
    and_from (valid_number call) (list_all valid_number calls) (and_from (is_identifier call.name) (is_number call.value) all.0.0 (below call.value all.0.1)) (numbers_valid calls all.1)

-- ---- a field

module _ (version : Version) (field : Field) (is : FieldIsNumbered field) (takes : is_some field.array ≡ true → takes_index version ≡ true) where
  reader_valid : HasBits field → valid_reader version (reader_of field) ≡ true
  reader_valid bits = by (is_bit field)
    where
      by : (b : Bool) → valid_reader version (record { name = field.name; marker = field.marker; form = read_form b field }) ≡ true
      by true =
          and_from (stands_in version (field_spot field)) (is_identifier field.name && (is_identifier field.marker && (valid_spot (field_spot field) && is_number 1))) (spot_stands version field.offset field.array takes)
          (and_from (is_identifier field.name) (is_identifier field.marker && (valid_spot (field_spot field) && is_number 1)) is.named
          (and_from (is_identifier field.marker) (valid_spot (field_spot field) && is_number 1) is.marked
          (and_from (valid_spot (field_spot field)) (is_number 1) (spot_valid field.offset field.array is.offset is.array) (below 1 (omega arith)))))
      by false =
          and_from (stands_in version (field_spot field)) (is_identifier field.name && (is_identifier field.marker && (valid_spot (field_spot field) && is_number (ones field.bits)))) (spot_stands version field.offset field.array takes)
          (and_from (is_identifier field.name) (is_identifier field.marker && (valid_spot (field_spot field) && is_number (ones field.bits))) is.named
          (and_from (is_identifier field.marker) (valid_spot (field_spot field) && is_number (ones field.bits)) is.marked
          (and_from (valid_spot (field_spot field)) (is_number (ones field.bits)) (spot_valid field.offset field.array is.offset is.array) (ones_below field.bits bits.most))))

  writer_valid : valid_writer version (writer_of field) ≡ true
  writer_valid = by (is_bit field)
    where
      by : (b : Bool) → valid_writer version (record { name = field.name; marker = field.marker; form = write_form b field }) ≡ true
      by true =
          and_from (stands_in version (field_spot field)) (is_identifier field.name && (is_identifier field.marker && valid_spot (field_spot field))) (spot_stands version field.offset field.array takes)
          (and_from (is_identifier field.name) (is_identifier field.marker && valid_spot (field_spot field)) is.named
          (and_from (is_identifier field.marker) (valid_spot (field_spot field)) is.marked (spot_valid field.offset field.array is.offset is.array)))
      by false =
          and_from (stands_in version (field_spot field)) (is_identifier field.name && (is_identifier field.marker && (is_number field.bits && valid_spot (field_spot field)))) (spot_stands version field.offset field.array takes)
          (and_from (is_identifier field.name) (is_identifier field.marker && (is_number field.bits && valid_spot (field_spot field))) is.named
          (and_from (is_identifier field.marker) (is_number field.bits && valid_spot (field_spot field)) is.marked
          (and_from (is_number field.bits) (valid_spot (field_spot field)) (below field.bits is.bits) (spot_valid field.offset field.array is.offset is.array))))

  blocks_valid : Passes valid_values field
  blocks_valid = record { reads = λ h. reads (is_bit field); writes = λ h. writes (is_bit field) }
    where
      reads : (b : Bool) → valid_values (read_values b field) ≡ true
      reads true = and_from (is_identifier field.marker) (list_all valid_truth (map truth_call_of field.tests)) is.marked (truths_valid field.tests is.tests)
      reads false = and_from (is_identifier field.marker) (list_all valid_number field.tests) is.marked (numbers_valid field.tests is.tests)

      writes : (b : Bool) → valid_values (write_values b field) ≡ true
      writes true = and_from (is_identifier field.marker) (list_all valid_truth (map truth_call_of field.sets)) is.marked (truths_valid field.sets is.sets)
      writes false =
          and_from (is_identifier field.marker) (is_number field.bits && list_all valid_number field.sets) is.marked
          (and_from (is_number field.bits) (list_all valid_number field.sets) (below field.bits is.bits) (numbers_valid field.sets is.sets))

-- ---- a register

has_one : (fields : List Field) (field : Field) → Among field fields → is_some field.array ≡ true → list_any (λ (field : Field). is_some field.array) fields ≡ true
has_one [] field h some = absurd h
has_one (first ∷ fields) field (inl same) some = ap (λ b. b || list_any (λ (field : Field). is_some field.array) fields) (ap (λ (field : Field). is_some field.array) same ∙ some)
has_one (first ∷ fields) field (inr later) some = or_later (is_some first.array) (list_any (λ (field : Field). is_some field.array) fields) (has_one fields field later some)
  where
    or_later : (a b : Bool) → b ≡ true → (a || b) ≡ true
    or_later true b h = refl
    or_later false b h = h

markers_valid : (fields : List Field) → AllByRecursion FieldIsNumbered fields → list_all is_identifier (markers_of fields) ≡ true
markers_valid [] all = refl
markers_valid (field ∷ fields) all = and_from (is_identifier field.marker) (list_all is_identifier (markers_of fields)) all.0.marked (markers_valid fields all.1)

option_valid : {X : Type 0} (valid : X → Bool) (there : Bool) (part : X) → valid part ≡ true → valid_option valid (where_true there part) ≡ true
option_valid valid true part is = is
option_valid valid false part is = refl

pub form_valid : (register : Register) → AllByRecursion HasBits register.fields → RegisterIsNumbered register → IsValid register (form_of register)
unfolding valid_register
form_valid register bits is version takes =
    let masks = and_from (is_number register.zero) (is_number register.one) (below register.zero is.zero) (below register.one is.one) in
    let readers : list_all (valid_reader version) (readers_among register.fields) ≡ true =
    picked_pass (λ (field : Field). field.readable) reader_of (valid_reader version) register.fields
    (every (λ field. field.readable ≡ true → valid_reader version (reader_of field) ≡ true) register.fields (λ field among h. reader_valid version field (numbers field among) (index field among) (all_among HasBits register.fields field bits among))) in
    let writers : list_all (valid_writer version) (writers_among register.fields) ≡ true =
    picked_pass (λ (field : Field). field.writable) writer_of (valid_writer version) register.fields
    (every (λ field. field.writable ≡ true → valid_writer version (writer_of field) ≡ true) register.fields (λ field among h. writer_valid version field (numbers field among) (index field among))) in
    let values : list_all valid_values (values_among register.fields) ≡ true =
    values_pass valid_values register.fields (every (Passes valid_values) register.fields (λ field among. blocks_valid version field (numbers field among) (index field among))) in
    rw (is.named, option_valid valid_writable register.writable (masks_of register) masks, below register.reset is.reset, markers_valid register.fields is.fields, option_valid (list_all (valid_reader version)) register.readable (readers_among register.fields) readers, option_valid (list_all (valid_writer version)) register.writable (writers_among register.fields) writers) values
  where
    numbers : (field : Field) → Among field register.fields → FieldIsNumbered field
    numbers field among = all_among FieldIsNumbered register.fields field is.fields among

    index : (field : Field) → Among field register.fields → is_some field.array ≡ true → takes_index version ≡ true
    index field among some = takes (has_one register.fields field among some)

-- one more is known, of those from a place on
pub one_more : {A : Type 0} (P : A → Type 0) (xs : List A) (i : ℕ) (x : A) → i < length xs → x ≡ get_or xs i x → P x → AllByRecursion P (drop (i + 1) xs) → AllByRecursion P (drop i xs)
one_more P xs i x within is here rest =
    subst (AllByRecursion P) (sym (drop-cons xs i x within ∙ λ j. is' j ∷ drop (add j) xs)) (here, rest)
  where
    is' : get_or xs i x ≡ x
    is' = sym is

    add : suc i ≡ i + 1
    add = sym (add-one i)
