-- What the module of a register does with words.
use Rattle.std.proofs.Common.{◌+◌, ℕ, zero, suc, ◌≡◌, ◌^◌, ◌<◌, ◌≤◌, Bool, true, false, ◌==◌, cond, List, [], ◌++◌, map, filter, find, Option, Some, None, IfSome, option_map, bytes_eq, refl, sym, ap, ap₂, subst, ◌∙◌, arith}
use Rattle.std.specs.Prelude.{codes, nat_le, unwrap_or}
use Rattle.std.proofs.lemmas.Bool.{leb-true, false≢true}
use Rattle.std.proofs.lemmas.Bool.Decides.{nat_tests}
use Rattle.std.proofs.lemmas.List.{map-append}
use Rattle.bits_word.specs.Places.{get, put}
use Rattle.bits_word.specs.Start.{IsStart}
use Rattle.pac_base.specs.Widths.{bits_of}
use Rattle.frag_tree.specs.declared.event.Said.TheVariants.{Number, Truth}
use Rattle.frag_tree.specs.declared.register.BitKind.{BitKind}
use Rattle.frag_tree.specs.declared.register.BitKind.TheVariants as kind
use Rattle.frag_tree.specs.declared.register.NumberCall.{NumberCall}
use Rattle.frag_sem.specs.CallPlaces.{admits}
use Rattle.frag_sem.specs.PreludeCalls as prelude
use Rattle.frag_sem.specs.PreludeWords.{as_bits, bit_of, is_set, ones, same_truth, start_word, taken, written}
use Rattle.frag_sem.specs.ProxyTypes.{bit_reader, bit_writer, field_reader, field_writer, number_calls, numbers_on, read_type, reader_type, readers_of, truth_calls, truths_on, write_type, writer_type, writers_of}
use Rattle.frag_sem.specs.Spots.{spot_at}
use Rattle.frag_sem.specs.TextMeaning.{bit_given, bit_put, bits_given, bits_put, compared_number, compared_truth, field_given, field_written, form_given, form_written, number_or, one_to_modify, reader_given, started, truth_or, writer_written, zero_to_modify}
use Rattle.frag_sem.proofs.Lists.{found_map}
use Rattle.frag_sem.proofs.Picking.{map-same}
use Rattle.frag_sem.proofs.Words.{bit_reader_gets, reader_gets, start_is, writer_puts}
use Rattle.register_form.specs.declared.register.Field.{Field}
use Rattle.register_form.specs.declared.register.FieldArray.{FieldArray}
use Rattle.register_form.specs.declared.register.Register.{Register}
use Rattle.register_form.specs.Doings.{CallsFit, FieldIsSound, RegisterIsSound, bit_in, bit_tests, bit_writes, call_named, compared, field_count, field_got, field_put, field_writes, lowest_bit, readable_named, said_by, value_by, value_or, writable_named}
use Rattle.register_form.specs.Fields.{is_bit, least_width, read_form, reader_of, spot_of, truth_call_of, width_by, write_form, writer_of}
use Rattle.register_form.specs.Forms.{form_of, masks_of, readers_among, values_among, where_true, writers_among}
use Rattle.register_form.specs.Laws.{FieldsGive, FieldsPut, FieldsWrite, LiesWithin, StartsAre}
use Rattle.register_form.proofs.Among.{Among, all_among, all_found, all_joined, among_filter, found_among, none_passes}
use Rattle.register_form.proofs.OwnCalls.{read_calls, written_calls}

-- ---- places and types

wide_enough : (a b c : Bool) (n : ℕ) → nat_le n 8 ≡ a → nat_le n 16 ≡ b → nat_le n 32 ≡ c → n ≤ 64 → n ≤ bits_of (width_by a b c)
wide_enough true b c n p q r h = leb-true n 8 p
wide_enough false true c n p q r h = leb-true n 16 q
wide_enough false false true n p q r h = leb-true n 32 r
wide_enough false false false n p q r h = h

pub least_holds : (n : ℕ) → n ≤ 64 → n ≤ bits_of (least_width n)
least_holds n h = wide_enough (nat_le n 8) (nat_le n 16) (nat_le n 32) n refl refl refl h

-- the spot of a field is its lowest bit, or that of the member
spot_is : (offset : ℕ) (array : Option FieldArray) (index : Option ℕ) → spot_at (spot_of offset array) index ≡ bit_in offset array index
spot_is offset None index = refl
spot_is offset (Some array) index = refl

pub bit_width : (n : ℕ) → (n == 1) ≡ true → n ≡ 1
bit_width n h = grind (arith, nat_tests)

-- ---- what is read

truth_same : (b : Bool) (v : ℕ) → v < 2 → same_truth b (v == 1) ≡ (bit_of b == v)
truth_same true zero h = refl
truth_same true (suc zero) h = refl
truth_same true (suc (suc v)) h = absurd (omega arith)
truth_same false zero h = refl
truth_same false (suc zero) h = refl
truth_same false (suc (suc v)) h = absurd (omega arith)

abbrev IsBitCall : NumberCall → Type 0
IsBitCall call = call.value < 2 ^ 1

compared_bit : (b : Bool) (o : Option NumberCall) → IfSome o IsBitCall → compared_truth b (option_map truth_call_of o) ≡ compared (bit_of b) o
compared_bit b None h = refl
compared_bit b (Some call) h = ap Truth (truth_same b call.value h)

compared_field : (value : ℕ) (o : Option NumberCall) → compared_number value o ≡ compared value o
compared_field value None = refl
compared_field value (Some call) = refl

the_bit : (b : Bool) → Truth b ≡ Truth (bit_of b == 1)
the_bit true = refl
the_bit false = refl

said_bit : (calls : List NumberCall) (method : List ℕ) (b : Bool) → CallsFit 1 calls → bit_given (map truth_call_of calls) method b ≡ said_by true calls method (bit_of b)
said_bit calls method b fit =
    ap₂ (λ x y. cond (bytes_eq method (codes "bit")) x y) (the_bit b)
    (ap (compared_truth b) (ap (find (λ call. bytes_eq method call.name)) (sym (map-append truth_call_of bit_tests calls)) ∙ found_map (λ call. bytes_eq method call.name) truth_call_of (bit_tests ++ calls))
    ∙ compared_bit b (call_named method (bit_tests ++ calls)) (all_found IsBitCall (λ call. bytes_eq method call.name) (bit_tests ++ calls) (omega arith, (omega arith, fit))))

said_field : (calls : List NumberCall) (method : List ℕ) (value : ℕ) → bits_given calls method value ≡ said_by false calls method value
said_field calls method value = ap (λ x. cond (bytes_eq method (codes "bits")) (Number value) x) (compared_field value (call_named method calls))

-- ---- what is written

truth_value : (o : Option NumberCall) (value : ℕ) → IfSome o IsBitCall → truth_or (option_map truth_call_of o) value ≡ value_or o value
truth_value None value h = refl
truth_value (Some call) value h = as_bit call.value h
  where
    as_bit : (v : ℕ) → v < 2 → bit_of (v == 1) ≡ v
    as_bit zero h = refl
    as_bit (suc zero) h = refl
    as_bit (suc (suc v)) h = absurd (omega arith)

number_value : (o : Option NumberCall) (value : ℕ) → number_or o value ≡ value_or o value
number_value None value = refl
number_value (Some call) value = refl

same_writes : (k : BitKind) → prelude.bit_writes k ≡ map truth_call_of (bit_writes k)
same_writes kind.Plain = refl
same_writes kind.OneToSet = refl
same_writes kind.ZeroToClear = refl
same_writes kind.OneToClear = refl
same_writes kind.ZeroToSet = refl
same_writes kind.OneToToggle = refl
same_writes kind.ZeroToToggle = refl

writes_fit : (k : BitKind) → CallsFit 1 (bit_writes k)
writes_fit kind.Plain = (omega arith, (omega arith, tt))
writes_fit kind.OneToSet = (omega arith, tt)
writes_fit kind.ZeroToClear = (omega arith, tt)
writes_fit kind.OneToClear = (omega arith, tt)
writes_fit kind.ZeroToSet = (omega arith, tt)
writes_fit kind.OneToToggle = (omega arith, tt)
writes_fit kind.ZeroToToggle = (omega arith, tt)

put_bit : (field : Field) (method : List ℕ) (value : ℕ) → CallsFit 1 field.sets → bit_put (prelude.bit_writes field.kind ++ map truth_call_of field.sets) method value ≡ value_by true field method value
put_bit field method value fit =
    ap (λ x. cond (bytes_eq method (codes "bit")) value x)
    (ap (λ xs. truth_or (find (λ call. bytes_eq method call.name) (xs ++ map truth_call_of field.sets)) value) (same_writes field.kind)
    ∙ (ap (λ o. truth_or o value) (ap (find (λ call. bytes_eq method call.name)) (sym (map-append truth_call_of (bit_writes field.kind) field.sets)) ∙ found_map (λ call. bytes_eq method call.name) truth_call_of (bit_writes field.kind ++ field.sets))
    ∙ truth_value (call_named method (bit_writes field.kind ++ field.sets)) value (all_found IsBitCall (λ call. bytes_eq method call.name) (bit_writes field.kind ++ field.sets) (all_joined IsBitCall (bit_writes field.kind) field.sets (writes_fit field.kind) fit))))

put_field : (field : Field) (method : List ℕ) (value : ℕ) → bits_put field.sets method value ≡ value_by false field method value
put_field field method value = ap (λ x. cond (bytes_eq method (codes "bits")) value x) (number_value (call_named method field.sets) value)

-- ---- one register

module _ (register : Register) (sound : RegisterIsSound register) where
  abbrev N : ℕ
  N = bits_of register.word

  read_one : (field : Field) → FieldIsSound register field → Among field register.fields → field.readable ≡ true → (index : Option ℕ) (method : List ℕ) (word : ℕ) (b : Bool) → is_bit field ≡ b
      → form_given (form_of register) (reader_of field) index method word (read_form b field) ≡ said_by b field.tests method (get word (lowest_bit field index) field.bits)
  read_one field is_sound among readable index method word true is =
      let one = bit_width field.bits is in
      let calls : truths_on (reader_type (reader_of field)) (values_among register.fields) ≡ map truth_call_of field.tests =
      ap (λ b. truths_on (read_type field.marker (read_form b field)) (values_among register.fields)) is
      ∙ read_calls (bit_reader field.marker) truth_calls truth_call_of field true is readable refl refl refl refl register.fields sound.markers among in
      ap₂ (λ xs o. bit_given xs method (is_set (taken word o 1))) calls (spot_is field.offset field.array index)
      ∙ (said_bit field.tests method (is_set (taken word (lowest_bit field index) 1)) (subst (λ n. CallsFit n field.tests) one is_sound.tests)
      ∙ ap (said_by true field.tests method) (bit_reader_gets word (lowest_bit field index) ∙ ap (get word (lowest_bit field index)) (sym one)))
  read_one field is_sound among readable index method word false is =
      let T = field_reader field.marker (least_width field.bits) in
      let calls : numbers_on (reader_type (reader_of field)) (values_among register.fields) ≡ field.tests =
      ap (λ b. numbers_on (read_type field.marker (read_form b field)) (values_among register.fields)) is
      ∙ (read_calls T number_calls (λ call. call) field false is readable refl refl (sym (map-same field.tests)) refl register.fields sound.markers among ∙ map-same field.tests) in
      ap₂ (λ xs v. bits_given xs method v) calls (ap (λ o. as_bits (bits_of (least_width field.bits)) (taken word o (ones field.bits))) (spot_is field.offset field.array index) ∙ reader_gets (least_width field.bits) word (lowest_bit field index) field.bits (least_holds field.bits is_sound.bits.most))
      ∙ said_field field.tests method (get word (lowest_bit field index) field.bits)

  write_one : (field : Field) → FieldIsSound register field → Among field register.fields → field.writable ≡ true → (index : Option ℕ) (method : List ℕ) (value word : ℕ) (b : Bool) → is_bit field ≡ b
      → form_written (form_of register) (writer_of field) index method value word (write_form b field) ≡ written N word (lowest_bit field index) field.bits (value_by b field method value)
  write_one field is_sound among writable index method value word true is =
      let one = bit_width field.bits is in
      let o = lowest_bit field index in
      let v = value_by true field method value in
      let calls : truths_on (writer_type (writer_of field)) (values_among register.fields) ≡ map truth_call_of field.sets =
      ap (λ b. truths_on (write_type field.marker (write_form b field)) (values_among register.fields)) is
      ∙ written_calls (bit_writer field.kind field.marker) truth_calls truth_call_of field true is writable refl refl refl refl register.fields sound.markers among in
      ap₂ (λ xs o. written N word o 1 (bit_put (prelude.bit_writes field.kind ++ xs) method value)) calls (spot_is field.offset field.array index)
      ∙ (ap (written N word o 1) (put_bit field method value (subst (λ n. CallsFit n field.sets) one is_sound.sets))
      ∙ ap (λ n. written N word o n v) (sym one))
  write_one field is_sound among writable index method value word false is =
      let T = field_writer field.marker (least_width field.bits) field.bits in
      let o = lowest_bit field index in
      let calls : numbers_on (writer_type (writer_of field)) (values_among register.fields) ≡ field.sets =
      ap (λ b. numbers_on (write_type field.marker (write_form b field)) (values_among register.fields)) is
      ∙ (written_calls T number_calls (λ call. call) field false is writable refl refl (sym (map-same field.sets)) refl register.fields sound.markers among ∙ map-same field.sets) in
      ap₂ (λ xs o. written N word o field.bits (bits_put xs method value)) calls (spot_is field.offset field.array index)
      ∙ ap (written N word o field.bits) (put_field field method value)

  -- a direction that a field has, the register has: so where it hasn't, no call stands
  calls_here : {X : Type 0} (f : Field → X) (allowed : Field → Bool) (whole : Bool) → ((field : Field) → Among field register.fields → allowed field ≡ true → whole ≡ true)
      → unwrap_or (where_true whole (map f (filter allowed register.fields))) [] ≡ map f (filter allowed register.fields)
  calls_here f allowed true some = refl
  calls_here f allowed false some = ap (map f) (sym (none_passes allowed register.fields (λ field among. none field among (allowed field) refl)))
    where
      none : (field : Field) → Among field register.fields → (b : Bool) → allowed field ≡ b → allowed field ≡ false
      none field among true e = absurd (false≢true (some field among e))
      none field among false e = e

  pub readers_here : readers_of (form_of register) ≡ readers_among register.fields
  readers_here = calls_here reader_of (λ (field : Field). field.readable) register.readable (λ field among. (all_among (FieldIsSound register) register.fields field sound.fields among).readable)

  pub writers_here : writers_of (form_of register) ≡ writers_among register.fields
  writers_here = calls_here writer_of (λ (field : Field). field.writable) register.writable (λ field among. (all_among (FieldIsSound register) register.fields field sound.fields among).writable)

  given : (name : List ℕ) (index : Option ℕ) (method : List ℕ) (word : ℕ) → field_given (form_of register) name index method word ≡ field_got index method word (readable_named name register)
  unfolding field_given
  given name index method word =
      ap (λ readers. reader_given (form_of register) index method word (find (λ reader. bytes_eq name reader.name) readers)) readers_here
      ∙ (ap (reader_given (form_of register) index method word) (found_map (λ reader. bytes_eq name reader.name) reader_of (filter (λ (field : Field). field.readable) register.fields))
      ∙ by (readable_named name register) refl)
    where
      by : (o : Option Field) → readable_named name register ≡ o → reader_given (form_of register) index method word (option_map reader_of o) ≡ field_got index method word o
      by None e = refl
      by (Some field) e =
          let there = among_filter (λ (field : Field). field.readable) register.fields field (found_among (λ (field : Field). bytes_eq name field.name) (filter (λ (field : Field). field.readable) register.fields) field e) in
          read_one field (all_among (FieldIsSound register) register.fields field sound.fields there.0) there.0 there.1 index method word (is_bit field) refl

  writes : (name : List ℕ) (index : Option ℕ) (method : List ℕ) (value word : ℕ)
      → field_written (form_of register) name index method value word ≡ field_writes N index method value word (writable_named name register)
  unfolding field_written
  writes name index method value word =
      ap (λ writers. writer_written (form_of register) index method value word (find (λ writer. bytes_eq name writer.name) writers)) writers_here
      ∙ (ap (writer_written (form_of register) index method value word) (found_map (λ writer. bytes_eq name writer.name) writer_of (filter (λ (field : Field). field.writable) register.fields))
      ∙ by (writable_named name register) refl)
    where
      by : (o : Option Field) → writable_named name register ≡ o → writer_written (form_of register) index method value word (option_map writer_of o) ≡ field_writes N index method value word o
      by None e = refl
      by (Some field) e =
          let there = among_filter (λ (field : Field). field.writable) register.fields field (found_among (λ (field : Field). bytes_eq name field.name) (filter (λ (field : Field). field.writable) register.fields) field e) in
          write_one field (all_among (FieldIsSound register) register.fields field sound.fields there.0) there.0 there.1 index method value word (is_bit field) refl

  -- within the word the formula puts
  puts : (name : List ℕ) (index : Option ℕ) (method : List ℕ) (value word : ℕ) → word < 2 ^ N → LiesWithin register name index
      → field_written (form_of register) name index method value word ≡ field_put index method value word (writable_named name register)
  puts name index method value word small within = writes name index method value word ∙ by (writable_named name register) within
    where
      by : (o : Option Field) → IfSome o (λ field. lowest_bit field index + field.bits ≤ N) → field_writes N index method value word o ≡ field_put index method value word o
      by None within = refl
      by (Some field) within = writer_puts N word (lowest_bit field index) field.bits (value_by (is_bit field) field method value) small within

  -- ---- the start word

  one_here : one_to_modify (form_of register) ≡ register.one
  one_here = by register.writable refl
    where
      by : (b : Bool) → register.writable ≡ b → unwrap_or (option_map (λ masks. masks.one_to_modify.value) (where_true b (masks_of register))) 0 ≡ register.one
      by true e = refl
      by false e = sym (sound.no_masks e).0

  zero_here : zero_to_modify (form_of register) ≡ register.zero
  zero_here = by register.writable refl
    where
      by : (b : Bool) → register.writable ≡ b → unwrap_or (option_map (λ masks. masks.zero_to_modify.value) (where_true b (masks_of register))) 0 ≡ register.zero
      by true e = refl
      by false e = sym (sound.no_masks e).1

  starts : (word : ℕ) → IsStart N word register.one register.zero (started (form_of register) word)
  starts word =
      subst (IsStart N word register.one register.zero) (sym (ap₂ (start_word N word) one_here zero_here)) (start_is register.word word register.one register.zero sound.one)

pub fields_give : FieldsGive
fields_give register sound = given register sound

pub fields_write : FieldsWrite
fields_write register sound = writes register sound

pub fields_put : FieldsPut
fields_put register sound = puts register sound

pub starts_are : StartsAre
starts_are register sound = starts register sound
