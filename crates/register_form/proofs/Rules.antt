-- The rules of typing hold of a register's module.
use Rattle.std.proofs.Common.{ℕ, zero, suc, ◌≡◌, ◌+◌, ◌-◌, ◌*◌, ◌^◌, ◌<◌, ◌≤◌, Bool, true, false, cond, not, ◌&&◌, ◌||◌, ◌⊎◌, inl, inr, List, [], ◌∷◌, ◌++◌, map, filter, flat_map, Option, Some, None, option_map, bytes_eq, refl, sym, ap, ap₂, subst, ◌∙◌, arith, nat_le, nat_lt, append_assoc}
use Rattle.std.specs.Prelude.{is_some}
use Rattle.std.specs.List.{AllByRecursion, list_all, list_any}
use Rattle.std.proofs.Math.Nat.{mul_comm, pow-le-pow_right}
use Rattle.std.proofs.lemmas.Bool.{and_from, or_parts, not-true, false≢true}
use Rattle.std.proofs.lemmas.Bool.Decides.{nat_tests}
use Rattle.std.proofs.lemmas.Grind.{flat_map-append}
use Rattle.std.proofs.lemmas.List.Folds.{list_any-append}
use Rattle.std.proofs.lemmas.Slice.Eq.{bytes_eq-Decides}
use Rattle.pac_base.specs.declared.width.Width.{Width}
use Rattle.pac_base.specs.declared.width.Width.TheVariants.{W8, W16, W32, W64}
use Rattle.pac_base.specs.Widths.{bits_of}
use Rattle.frag_tree.specs.declared.krate.Version.{Version}
use Rattle.frag_tree.specs.declared.register.NumberCall.{NumberCall}
use Rattle.frag_tree.specs.declared.register.Reader.{Reader}
use Rattle.frag_tree.specs.declared.register.RegisterModule.{RegisterModule}
use Rattle.frag_tree.specs.declared.register.TruthCall.{TruthCall}
use Rattle.frag_tree.specs.declared.register.Values.{Values}
use Rattle.frag_tree.specs.declared.register.Writer.{Writer}
use Rattle.frag_sem.specs.CallPlaces.{admits}
use Rattle.frag_sem.specs.CrateTyping.{has_bits, is_free, is_marker, masks_of, read_fits, same_call, value_calls, values_fit, write_fits}
use Rattle.frag_sem.specs.Modules.{are_distinct}
use Rattle.frag_sem.specs.PreludeWords.{ones, same_truth}
use Rattle.frag_sem.specs.ProxyTypes.{ProxyType, read_type, reader_type, readers_of, same_type, same_width, types_of, value_names, values_type, write_type, writer_type, writers_of}
use Rattle.frag_sem.specs.Spots.{last_spot, read_spot, spot_has_members, write_spot}
use Rattle.frag_sem.proofs.Lists.{both_true}
use Rattle.frag_sem.proofs.Words.{some_power}
use Rattle.register_form.specs.declared.register.Field.{Field}
use Rattle.register_form.specs.declared.register.FieldArray.{FieldArray}
use Rattle.register_form.specs.declared.register.Register.{Register}
use Rattle.register_form.specs.Doings.{CallsFit, FieldIsNamed, FieldIsSound, RegisterIsNamed, RegisterIsSound, bit_in, has_members, names_of}
use Rattle.register_form.specs.Fields.{block_if, field_spot, is_bit, least_width, read_form, read_values, reader_of, spot_of, truth_call_of, values_of, write_form, write_values, writer_of}
use Rattle.register_form.specs.Forms.{constant, form_of, markers_of, readers_among, values_among, where_true, writers_among, masks_of as masks_form}
use Rattle.register_form.specs.Laws.{KeepsRules, RulesHold}
use Rattle.register_form.proofs.Among.{Among, all_among}
use Rattle.register_form.proofs.OwnCalls.{other_type, own_type, type_marker}
use Rattle.register_form.proofs.Words.{bit_width, least_holds, readers_here, writers_here}

-- ---- tests of what is made of fields

pub picked_pass : {X : Type 0} (allowed : Field → Bool) (f : Field → X) (test : X → Bool) (fields : List Field) → AllByRecursion (λ field. allowed field ≡ true → test (f field) ≡ true) fields → list_all test (map f (filter allowed fields)) ≡ true
picked_pass allowed f test [] all = refl
picked_pass {X = X} allowed f test (field ∷ fields) all = by (allowed field) all.0 (picked_pass allowed f test fields all.1)
  where
    by : (b : Bool) → (b ≡ true → test (f field) ≡ true) → list_all test (map f (filter allowed fields)) ≡ true → list_all test (map f (cond b (field ∷ filter allowed fields) (filter allowed fields))) ≡ true
    by true here more = and_from (test (f field)) (list_all test (map f (filter allowed fields))) (here refl) more
    by false here more = more

both_pass : (test : Values → Bool) (xs ys : List Values) → list_all test xs ≡ true → list_all test ys ≡ true → list_all test (xs ++ ys) ≡ true
both_pass test [] ys p q = q
both_pass test (x ∷ xs) ys p q =
    let parts = both_true (test x) (list_all test xs) p in and_from (test x) (list_all test (xs ++ ys)) parts.0 (both_pass test xs ys parts.1 q)

block_passes : (test : Values → Bool) (allowed : Bool) (calls : List NumberCall) (block : Values) → (allowed ≡ true → test block ≡ true) → list_all test (block_if allowed calls block) ≡ true
block_passes test allowed [] block passes = refl
block_passes test true (call ∷ calls) block passes = and_from (test block) true (passes refl) refl
block_passes test false (call ∷ calls) block passes = refl

-- the blocks of a field pass where its direction is there
pub record Passes (test : Values → Bool) (field : Field) : Type 0 where
  pub reads : field.readable ≡ true → test (read_values (is_bit field) field) ≡ true
  pub writes : field.writable ≡ true → test (write_values (is_bit field) field) ≡ true

pub values_pass : (test : Values → Bool) (fields : List Field) → AllByRecursion (Passes test) fields → list_all test (values_among fields) ≡ true
values_pass test [] all = refl
values_pass test (field ∷ fields) all =
    both_pass test (values_of field) (values_among fields)
    (both_pass test (block_if field.readable field.tests (read_values (is_bit field) field)) (block_if field.writable field.sets (write_values (is_bit field) field))
    (block_passes test field.readable field.tests (read_values (is_bit field) field) all.0.reads) (block_passes test field.writable field.sets (write_values (is_bit field) field) all.0.writes))
    (values_pass test fields all.1)

-- of each field, that it is one of them
each_among : (P : Field → Type 0) (all fields : List Field) → ((field : Field) → Among field all → P field) → ((field : Field) → Among field fields → Among field all) → AllByRecursion P fields
each_among P all [] each inside = tt
each_among P all (field ∷ fields) each inside = (each field (inside field (inl refl)), each_among P all fields each (λ other h. inside other (inr h)))

pub every : (P : Field → Type 0) (fields : List Field) → ((field : Field) → Among field fields → P field) → AllByRecursion P fields
every P fields each = each_among P fields fields each (λ field h. h)

any_among : {X : Type 0} (test : X → Bool) (f : Field → X) (fields : List Field) (field : Field) → Among field fields → test (f field) ≡ true → list_any test (map f fields) ≡ true
any_among test f [] field h is = absurd h
any_among test f (first ∷ fields) field (inl same) is = ap (λ b. b || list_any test (map f fields)) (ap (λ x. test (f x)) same ∙ is)
any_among test f (first ∷ fields) field (inr later) is = or_later (test (f first)) (list_any test (map f fields)) (any_among test f fields field later is)
  where
    or_later : (a b : Bool) → b ≡ true → (a || b) ≡ true
    or_later true b h = refl
    or_later false b h = h

-- ---- distinct names

distinct_filter : (allowed : Field → Bool) (fields : List Field) → are_distinct bytes_eq (map (λ (field : Field). field.name) fields) ≡ true → are_distinct bytes_eq (map (λ (field : Field). field.name) (filter allowed fields)) ≡ true
unfolding are_distinct
distinct_filter allowed [] distinct = refl
distinct_filter allowed (field ∷ fields) distinct =
    let parts = both_true (not (list_any (bytes_eq field.name) (map (λ (field : Field). field.name) fields))) (are_distinct bytes_eq (map (λ (field : Field). field.name) fields)) distinct in
    by (allowed field) (fewer fields (not-true (list_any (bytes_eq field.name) (map (λ (field : Field). field.name) fields)) parts.0)) (distinct_filter allowed fields parts.1)
  where
    fewer : (others : List Field) → list_any (bytes_eq field.name) (map (λ (field : Field). field.name) others) ≡ false → list_any (bytes_eq field.name) (map (λ (field : Field). field.name) (filter allowed others)) ≡ false
    fewer [] none = refl
    fewer (other ∷ others) none =
        let parts = or_parts (bytes_eq field.name other.name) (list_any (bytes_eq field.name) (map (λ (field : Field). field.name) others)) none in pick (allowed other) parts.0 (fewer others parts.1)
      where
        pick : (b : Bool) → bytes_eq field.name other.name ≡ false → list_any (bytes_eq field.name) (map (λ (field : Field). field.name) (filter allowed others)) ≡ false → list_any (bytes_eq field.name) (map (λ (field : Field). field.name) (cond b (other ∷ filter allowed others) (filter allowed others))) ≡ false
        pick true apart more = rw (apart, more) refl
        pick false apart more = more

    by : (b : Bool) → list_any (bytes_eq field.name) (map (λ (field : Field). field.name) (filter allowed fields)) ≡ false → are_distinct bytes_eq (map (λ (field : Field). field.name) (filter allowed fields)) ≡ true
        → are_distinct bytes_eq (map (λ (field : Field). field.name) (cond b (field ∷ filter allowed fields) (filter allowed fields))) ≡ true
    by true none more = rw (none, more) refl
    by false none more = more

map_map : {X Y Z : Type 0} (g : Y → Z) (f : X → Y) (xs : List X) → map g (map f xs) ≡ map (λ x. g (f x)) xs
map_map g f [] = refl
map_map g f (x ∷ xs) = ap (λ l. g (f x) ∷ l) (map_map g f xs)

-- ---- the calls of values

-- an entry of a block: its type and a name
abbrev entries : Values → List (ProxyType × List ℕ)
entries block = map (λ name. (values_type block, name)) (value_names block)

truth_names : (calls : List NumberCall) → map (λ (call : TruthCall). call.name) (map truth_call_of calls) ++ [] ≡ names_of calls
truth_names [] = refl
truth_names (call ∷ calls) = ap (λ l. call.name ∷ l) (truth_names calls)

read_names : (b : Bool) (field : Field) → value_names (read_values b field) ≡ names_of field.tests
read_names true field = truth_names field.tests
read_names false field = refl

write_names : (b : Bool) (field : Field) → value_names (write_values b field) ≡ names_of field.sets
write_names true field = truth_names field.sets
write_names false field = refl

-- no entry of the list has one of these types
abbrev None_of : ProxyType → List (ProxyType × List ℕ) → Type 0
None_of T list = AllByRecursion (λ entry. same_type T entry.0 ≡ false) list

none_any : (T : ProxyType) (name : List ℕ) (list : List (ProxyType × List ℕ)) → None_of T list → list_any (same_call (T, name)) list ≡ false
none_any T name [] none = refl
none_any T name (entry ∷ list) none = rw (none.0) (none_any T name list none.1)

-- entries of one type with distinct names, and then others of no such type
own_distinct : (T : ProxyType) (names : List (List ℕ)) (others : List (ProxyType × List ℕ)) → are_distinct bytes_eq names ≡ true → None_of T others → are_distinct same_call others ≡ true → are_distinct same_call (map (λ name. (T, name)) names ++ others) ≡ true
unfolding are_distinct
own_distinct T [] others distinct none more = more
own_distinct T (name ∷ names) others distinct none more =
    let parts = both_true (not (list_any (bytes_eq name) names)) (are_distinct bytes_eq names) distinct in
    and_from (not (list_any (same_call (T, name)) (map (λ name. (T, name)) names ++ others))) (are_distinct same_call (map (λ name. (T, name)) names ++ others))
    (ap not (none_here names (not-true (list_any (bytes_eq name) names) parts.0))) (own_distinct T names others parts.1 none more)
  where
    none_here : (names : List (List ℕ)) → list_any (bytes_eq name) names ≡ false → list_any (same_call (T, name)) (map (λ name. (T, name)) names ++ others) ≡ false
    none_here [] h = none_any T name others none
    none_here (other ∷ names) h =
        let parts = or_parts (bytes_eq name other) (list_any (bytes_eq name) names) h in
        ap₂ (λ a b. a || b) (ap (λ b. same_type T T && b) parts.0 ∙ last (same_type T T)) (none_here names parts.1)
      where
        last : (b : Bool) → (b && false) ≡ false
        last true = refl
        last false = refl

none_joined : (T : ProxyType) (xs ys : List (ProxyType × List ℕ)) → None_of T xs → None_of T ys → None_of T (xs ++ ys)
none_joined T [] ys p q = q
none_joined T (x ∷ xs) ys p q = (p.0, none_joined T xs ys p.1 q)

none_named : (T U : ProxyType) (names : List (List ℕ)) → same_type T U ≡ false → None_of T (map (λ name. (U, name)) names)
none_named T U [] apart = tt
none_named T U (name ∷ names) apart = (apart, none_named T U names apart)

-- the entries of a block that stands where it has calls
entries_if : (allowed : Bool) (calls : List NumberCall) (block : Values) → (P : List (ProxyType × List ℕ) → Type 0) → P [] → P (entries block) → P (flat_map entries (block_if allowed calls block))
entries_if allowed [] block P none some = none
entries_if true (call ∷ calls) block P none some = subst P (sym (nil (entries block))) some
  where
    nil : (xs : List (ProxyType × List ℕ)) → xs ++ [] ≡ xs
    nil [] = refl
    nil (x ∷ xs) = ap (λ l. x ∷ l) (nil xs)
entries_if false (call ∷ calls) block P none some = none

read_marker : (b : Bool) (field : Field) → type_marker (values_type (read_values b field)) ≡ field.marker
read_marker true field = refl
read_marker false field = refl

write_marker : (b : Bool) (field : Field) → type_marker (values_type (write_values b field)) ≡ field.marker
write_marker true field = refl
write_marker false field = refl

-- a type of another marker has no entry of a field
field_none : (T : ProxyType) (field : Field) → bytes_eq (type_marker T) field.marker ≡ false → None_of T (flat_map entries (values_of field))
field_none T field apart =
    subst (None_of T) (sym (flat_map-append entries (block_if field.readable field.tests (read_values (is_bit field) field)) (block_if field.writable field.sets (write_values (is_bit field) field))))
    (none_joined T (flat_map entries (block_if field.readable field.tests (read_values (is_bit field) field))) (flat_map entries (block_if field.writable field.sets (write_values (is_bit field) field)))
    (entries_if field.readable field.tests (read_values (is_bit field) field) (None_of T) tt (none_named T (values_type (read_values (is_bit field) field)) (value_names (read_values (is_bit field) field)) (other_type T (values_type (read_values (is_bit field) field)) (ap (bytes_eq (type_marker T)) (read_marker (is_bit field) field) ∙ apart))))
    (entries_if field.writable field.sets (write_values (is_bit field) field) (None_of T) tt (none_named T (values_type (write_values (is_bit field) field)) (value_names (write_values (is_bit field) field)) (other_type T (values_type (write_values (is_bit field) field)) (ap (bytes_eq (type_marker T)) (write_marker (is_bit field) field) ∙ apart)))))

fields_none : (T : ProxyType) (fields : List Field) → list_any (bytes_eq (type_marker T)) (markers_of fields) ≡ false → None_of T (flat_map entries (values_among fields))
fields_none T [] none = tt
fields_none T (field ∷ fields) none =
    let parts = or_parts (bytes_eq (type_marker T) field.marker) (list_any (bytes_eq (type_marker T)) (markers_of fields)) none in
    subst (None_of T) (sym (flat_map-append entries (values_of field) (values_among fields)))
    (none_joined T (flat_map entries (values_of field)) (flat_map entries (values_among fields)) (field_none T field parts.0) (fields_none T fields parts.1))

-- a block in front of others of no such type
block_distinct : (allowed : Bool) (calls : List NumberCall) (block : Values) (others : List (ProxyType × List ℕ)) → value_names block ≡ names_of calls → are_distinct bytes_eq (names_of calls) ≡ true → None_of (values_type block) others → are_distinct same_call others ≡ true
    → are_distinct same_call (flat_map entries (block_if allowed calls block) ++ others) ≡ true
block_distinct allowed calls block others named distinct none more =
    entries_if allowed calls block (λ list. are_distinct same_call (list ++ others) ≡ true) more
    (own_distinct (values_type block) (value_names block) others (ap (are_distinct bytes_eq) named ∙ distinct) none more)

apart_types : (b c : Bool) (field : Field) → same_type (values_type (read_values b field)) (values_type (write_values c field)) ≡ false
apart_types true true field = refl
apart_types true false field = refl
apart_types false true field = refl
apart_types false false field = refl

calls_distinct : (version : Version) (fields : List Field) → are_distinct bytes_eq (markers_of fields) ≡ true → AllByRecursion (FieldIsNamed version) fields → are_distinct same_call (flat_map entries (values_among fields)) ≡ true
unfolding are_distinct
calls_distinct version [] markers named = refl
calls_distinct version (field ∷ fields) markers named =
    let parts = both_true (not (list_any (bytes_eq field.marker) (markers_of fields))) (are_distinct bytes_eq (markers_of fields)) markers in
    let none = not-true (list_any (bytes_eq field.marker) (markers_of fields)) parts.0 in
    let read = read_values (is_bit field) field in
    let write = write_values (is_bit field) field in
    let reads = block_if field.readable field.tests read in
    let writes = block_if field.writable field.sets write in
    let rest = flat_map entries (values_among fields) in
    let more = calls_distinct version fields parts.1 named.1 in
    let none_read = fields_none (values_type read) fields (ap (λ m. list_any (bytes_eq m) (markers_of fields)) (read_marker (is_bit field) field) ∙ none) in
    let none_write = fields_none (values_type write) fields (ap (λ m. list_any (bytes_eq m) (markers_of fields)) (write_marker (is_bit field) field) ∙ none) in
    let written = block_distinct field.writable field.sets write rest (write_names (is_bit field) field) named.0.sets none_write more in
    let read_none = none_joined (values_type read) (flat_map entries writes) rest (entries_if field.writable field.sets write (None_of (values_type read)) tt (none_named (values_type read) (values_type write) (value_names write) (apart_types (is_bit field) (is_bit field) field))) none_read in
    subst (λ list. are_distinct same_call list ≡ true)
    (sym (flat_map-append entries (reads ++ writes) (values_among fields) ∙ (ap (λ l. l ++ rest) (flat_map-append entries reads writes) ∙ append_assoc (flat_map entries reads) (flat_map entries writes) rest)))
    (block_distinct field.readable field.tests read (flat_map entries writes ++ rest) (read_names (is_bit field) field) named.0.tests read_none written)

-- ---- places

last_is : (offset : ℕ) (array : Option FieldArray) (bits N : ℕ) → has_members (option_map (λ (array : FieldArray). array.count) array) ≡ true
    → ((index : Option ℕ) → admits (option_map (λ (array : FieldArray). array.count) array) index ≡ true → bit_in offset array index + bits ≤ N) → last_spot (spot_of offset array) + bits ≤ N
last_is offset None bits N some within = within None refl
last_is offset (Some array) bits N some within = by array.count some (λ k h. within (Some k) h)
  where
    below : (m : ℕ) → nat_lt m (suc m) ≡ true
    below m = grind (arith, nat_tests)

    turn : (m : ℕ) → array.step * (suc m - 1) ≡ m * array.step
    turn m = let one : suc m - 1 ≡ m = omega arith in ap (λ (n : ℕ). array.step * n) one ∙ mul_comm array.step m

    by : (count : ℕ) → nat_le 1 count ≡ true → ((k : ℕ) → nat_lt k count ≡ true → offset + k * array.step + bits ≤ N) → offset + array.step * (count - 1) + bits ≤ N
    by zero some within = absurd (false≢true some)
    by (suc m) some within = let here = within m (below m) in let same = turn m in omega arith

spot_some : (offset : ℕ) (array : Option FieldArray) → has_members (option_map (λ (array : FieldArray). array.count) array) ≡ true → spot_has_members (spot_of offset array) ≡ true
spot_some offset None some = refl
spot_some offset (Some array) some = some

pub less_test : (m n : ℕ) → m < n → nat_lt m n ≡ true
less_test m n h = grind (arith, nat_tests, h)

most_test : (m n : ℕ) → m ≤ n → nat_le m n ≡ true
most_test m n h = grind (arith, nat_tests, h)

ones_fit : (n N : ℕ) → n ≤ N → has_bits N (ones n) ≡ true
ones_fit n N le = let some = some_power n in let more : 2 ^ n ≤ 2 ^ N = pow-le-pow_right (omega arith) le in less_test (ones n) (2 ^ N) (omega arith)

-- ---- one register

module _ (version : Version) (register : Register) (sound : RegisterIsSound register) (named : RegisterIsNamed version register) where
  abbrev unit : RegisterModule
  unit = form_of register

  is_sound : (field : Field) → Among field register.fields → FieldIsSound register field
  is_sound field among = all_among (FieldIsSound register) register.fields field sound.fields among

  is_named : (field : Field) → Among field register.fields → FieldIsNamed version field
  is_named field among = all_among (FieldIsNamed version) register.fields field named.fields among

  last_here : (field : Field) → Among field register.fields → last_spot (field_spot field) + field.bits ≤ bits_of register.word
  last_here field among = last_is field.offset field.array field.bits (bits_of register.word) (is_named field among).some (is_sound field among).within

  read_place : (field : Field) → Among field register.fields → read_fits (bits_of register.word) (reader_of field).form ≡ true
  read_place field among = by (is_bit field) refl
    where
      by : (b : Bool) → is_bit field ≡ b → read_fits (bits_of register.word) (read_form b field) ≡ true
      by true e =
          let last = last_here field among in let some = (is_sound field among).bits.some in
          and_from (nat_lt (last_spot (field_spot field)) (bits_of register.word)) (has_bits (bits_of register.word) 1) (less_test (last_spot (field_spot field)) (bits_of register.word) (omega arith)) (ones_fit 1 (bits_of register.word) (omega arith))
      by false e =
          let last = last_here field among in let some = (is_sound field among).bits.some in
          and_from (nat_lt (last_spot (field_spot field)) (bits_of register.word)) (has_bits (bits_of register.word) (ones field.bits)) (less_test (last_spot (field_spot field)) (bits_of register.word) (omega arith)) (ones_fit field.bits (bits_of register.word) (omega arith))

  write_place : (field : Field) → Among field register.fields → write_fits (bits_of register.word) (writer_of field).form ≡ true
  write_place field among = by (is_bit field) refl
    where
      by : (b : Bool) → is_bit field ≡ b → write_fits (bits_of register.word) (write_form b field) ≡ true
      by true e = let last = last_here field among in let one = bit_width field.bits e in most_test (last_spot (field_spot field) + 1) (bits_of register.word) (omega arith)
      by false e =
          let last = last_here field among in let bits = (is_sound field among).bits in
          and_from (nat_le (last_spot (field_spot field) + field.bits) (bits_of register.word)) (nat_le 1 field.bits && nat_le field.bits (bits_of (least_width field.bits))) (most_test (last_spot (field_spot field) + field.bits) (bits_of register.word) last)
          (and_from (nat_le 1 field.bits) (nat_le field.bits (bits_of (least_width field.bits))) (most_test 1 field.bits bits.some) (most_test field.bits (bits_of (least_width field.bits)) (least_holds field.bits bits.most)))

  read_some : (field : Field) → Among field register.fields → spot_has_members (read_spot (reader_of field).form) ≡ true
  read_some field among = by (is_bit field)
    where
      by : (b : Bool) → spot_has_members (read_spot (read_form b field)) ≡ true
      by true = spot_some field.offset field.array (is_named field among).some
      by false = spot_some field.offset field.array (is_named field among).some

  write_some : (field : Field) → Among field register.fields → spot_has_members (write_spot (writer_of field).form) ≡ true
  write_some field among = by (is_bit field)
    where
      by : (b : Bool) → spot_has_members (write_spot (write_form b field)) ≡ true
      by true = spot_some field.offset field.array (is_named field among).some
      by false = spot_some field.offset field.array (is_named field among).some

  literals : (calls : List NumberCall) (bits : ℕ) → bits ≤ 64 → CallsFit bits calls → list_all (λ call. has_bits (bits_of (least_width bits)) call.value) calls ≡ true
  literals [] bits most fit = refl
  literals (call ∷ calls) bits most fit =
      let small = fit.0 in let more : 2 ^ bits ≤ 2 ^ bits_of (least_width bits) = pow-le-pow_right (omega arith) (least_holds bits most) in
      and_from (has_bits (bits_of (least_width bits)) call.value) (list_all (λ call. has_bits (bits_of (least_width bits)) call.value) calls) (less_test call.value (2 ^ bits_of (least_width bits)) (omega arith)) (literals calls bits most fit.1)

  values_literal : (field : Field) → Among field register.fields → Passes values_fit field
  values_literal field among = record { reads = λ h. reads (is_bit field); writes = λ h. writes (is_bit field) }
    where
      reads : (b : Bool) → values_fit (read_values b field) ≡ true
      reads true = refl
      reads false = literals field.tests field.bits (is_sound field among).bits.most (is_sound field among).tests

      writes : (b : Bool) → values_fit (write_values b field) ≡ true
      writes true = refl
      writes false = literals field.sets field.bits (is_sound field among).bits.most (is_sound field among).sets

  values_free : (field : Field) → Among field register.fields → Passes (λ block. list_all (is_free version) (value_names block)) field
  values_free field among = record {
    reads = λ h. ap (list_all (is_free version)) (read_names (is_bit field) field) ∙ (is_named field among).free_tests;
    writes = λ h. ap (list_all (is_free version)) (write_names (is_bit field) field) ∙ (is_named field among).free_sets;
  }

  marker_there : (field : Field) → Among field register.fields → is_marker unit field.marker ≡ true
  marker_there field among = any_among (bytes_eq field.marker) (λ (field : Field). field.marker) register.fields field among ((bytes_eq-Decides field.marker field.marker).1 refl)

  -- ---- a block stands on the type of its field's reader or writer

  any_picked : {X : Type 0} (allowed : Field → Bool) (f : Field → X) (test : X → Bool) (fields : List Field) (field : Field) → Among field fields → allowed field ≡ true → test (f field) ≡ true → list_any test (map f (filter allowed fields)) ≡ true
  any_picked allowed f test [] field h there is = absurd h
  any_picked {X = X} allowed f test (first ∷ fields) field h there is = by (allowed first) refl h (λ later. any_picked allowed f test fields field later there is)
    where
      front : (a b : Bool) → a ≡ true → (a || b) ≡ true
      front a b e = ap (λ a. a || b) e

      back : (a b : Bool) → b ≡ true → (a || b) ≡ true
      back true b e = refl
      back false b e = e

      by : (b : Bool) → allowed first ≡ b → (first ≡ field) ⊎ Among field fields → (Among field fields → list_any test (map f (filter allowed fields)) ≡ true) → list_any test (map f (cond b (first ∷ filter allowed fields) (filter allowed fields))) ≡ true
      by true e (inl same) more = front (test (f first)) (list_any test (map f (filter allowed fields))) (ap (λ x. test (f x)) same ∙ is)
      by true e (inr later) more = back (test (f first)) (list_any test (map f (filter allowed fields))) (more later)
      by false e (inl same) more = absurd (false≢true (sym e ∙ (ap allowed same ∙ there)))
      by false e (inr later) more = more later

  either : (a b : Bool) → (a ≡ true) ⊎ (b ≡ true) → (a || b) ≡ true
  either a b (inl e) = ap (λ a. a || b) e
  either true b (inr e) = refl
  either false b (inr e) = e

  types_are : types_of unit ≡ map (λ field. reader_type (reader_of field)) (filter (λ (field : Field). field.readable) register.fields) ++ map (λ field. writer_type (writer_of field)) (filter (λ (field : Field). field.writable) register.fields)
  types_are =
      ap₂ (λ xs ys. xs ++ ys)
      (ap (map reader_type) (readers_here register sound) ∙ map_map reader_type reader_of (filter (λ (field : Field). field.readable) register.fields))
      (ap (map writer_type) (writers_here register sound) ∙ map_map writer_type writer_of (filter (λ (field : Field). field.writable) register.fields))

  type_there : (T : ProxyType) (field : Field) → Among field register.fields → ((field.readable ≡ true) × (T ≡ reader_type (reader_of field))) ⊎ ((field.writable ≡ true) × (T ≡ writer_type (writer_of field))) → list_any (same_type T) (types_of unit) ≡ true
  type_there T field among which =
      ap (list_any (same_type T)) types_are
      ∙ (list_any-append (same_type T) (map (λ field. reader_type (reader_of field)) (filter (λ (field : Field). field.readable) register.fields)) (map (λ field. writer_type (writer_of field)) (filter (λ (field : Field). field.writable) register.fields))
      ∙ either (list_any (same_type T) (map (λ field. reader_type (reader_of field)) (filter (λ (field : Field). field.readable) register.fields))) (list_any (same_type T) (map (λ field. writer_type (writer_of field)) (filter (λ (field : Field). field.writable) register.fields))) (by which))
    where
      by : ((field.readable ≡ true) × (T ≡ reader_type (reader_of field))) ⊎ ((field.writable ≡ true) × (T ≡ writer_type (writer_of field)))
          → (list_any (same_type T) (map (λ field. reader_type (reader_of field)) (filter (λ (field : Field). field.readable) register.fields)) ≡ true) ⊎ (list_any (same_type T) (map (λ field. writer_type (writer_of field)) (filter (λ (field : Field). field.writable) register.fields)) ≡ true)
      by (inl reads) = inl (any_picked (λ (field : Field). field.readable) (λ field. reader_type (reader_of field)) (same_type T) register.fields field among reads.0 (ap (same_type T) (sym reads.1) ∙ own_type T))
      by (inr writes) = inr (any_picked (λ (field : Field). field.writable) (λ field. writer_type (writer_of field)) (same_type T) register.fields field among writes.0 (ap (same_type T) (sym writes.1) ∙ own_type T))

  read_stands : (field : Field) → values_type (read_values (is_bit field) field) ≡ reader_type (reader_of field)
  read_stands field = by (is_bit field)
    where
      by : (b : Bool) → values_type (read_values b field) ≡ read_type field.marker (read_form b field)
      by true = refl
      by false = refl

  write_stands : (field : Field) → values_type (write_values (is_bit field) field) ≡ writer_type (writer_of field)
  write_stands field = by (is_bit field)
    where
      by : (b : Bool) → values_type (write_values b field) ≡ write_type field.marker (write_form b field)
      by true = refl
      by false = refl

  values_stand : (field : Field) → Among field register.fields → Passes (λ block. list_any (same_type (values_type block)) (types_of unit)) field
  values_stand field among = record {
    reads = λ h. type_there (values_type (read_values (is_bit field) field)) field among (inl (h, read_stands field));
    writes = λ h. type_there (values_type (write_values (is_bit field) field)) field among (inr (h, write_stands field));
  }

  -- ---- all rules

  readers_pass : (test : Reader → Bool) → ((field : Field) → Among field register.fields → test (reader_of field) ≡ true) → list_all test (readers_of unit) ≡ true
  readers_pass test each =
      ap (list_all test) (readers_here register sound)
      ∙ picked_pass (λ (field : Field). field.readable) reader_of test register.fields (every (λ field. field.readable ≡ true → test (reader_of field) ≡ true) register.fields (λ field among h. each field among))

  writers_pass : (test : Writer → Bool) → ((field : Field) → Among field register.fields → test (writer_of field) ≡ true) → list_all test (writers_of unit) ≡ true
  writers_pass test each =
      ap (list_all test) (writers_here register sound)
      ∙ picked_pass (λ (field : Field). field.writable) writer_of test register.fields (every (λ field. field.writable ≡ true → test (writer_of field) ≡ true) register.fields (λ field among h. each field among))

  reader_names_differ : are_distinct bytes_eq (map (λ (reader : Reader). reader.name) (readers_of unit)) ≡ true
  reader_names_differ =
      ap (are_distinct bytes_eq) (ap (map (λ (reader : Reader). reader.name)) (readers_here register sound) ∙ map_map (λ (reader : Reader). reader.name) reader_of (filter (λ (field : Field). field.readable) register.fields))
      ∙ distinct_filter (λ (field : Field). field.readable) register.fields named.names

  writer_names_differ : are_distinct bytes_eq (map (λ (writer : Writer). writer.name) (writers_of unit)) ≡ true
  writer_names_differ =
      ap (are_distinct bytes_eq) (ap (map (λ (writer : Writer). writer.name)) (writers_here register sound) ∙ map_map (λ (writer : Writer). writer.name) writer_of (filter (λ (field : Field). field.writable) register.fields))
      ∙ distinct_filter (λ (field : Field). field.writable) register.fields named.names

  widths_same : (w : Width) → same_width w w ≡ true
  widths_same W8 = refl
  widths_same W16 = refl
  widths_same W32 = refl
  widths_same W64 = refl

  constants_typed : (b : Bool) → list_all (λ constant. same_width constant.width register.word) (masks_of (where_true b (masks_form register)) ++ constant register.word register.reset ∷ []) ≡ true
  constants_typed true = rw (widths_same register.word) refl
  constants_typed false = rw (widths_same register.word) refl

  constants_small : (b : Bool) → list_all (λ constant. has_bits (bits_of register.word) constant.value) (masks_of (where_true b (masks_form register)) ++ constant register.word register.reset ∷ []) ≡ true
  constants_small true =
      rw (less_test register.zero (2 ^ bits_of register.word) sound.zero, less_test register.one (2 ^ bits_of register.word) sound.one, less_test register.reset (2 ^ bits_of register.word) sound.reset) refl
  constants_small false = rw (less_test register.reset (2 ^ bits_of register.word) sound.reset) refl

  directions_here : (r w : Bool) → (same_truth r (is_some (where_true r (readers_among register.fields))) && same_truth (is_some (where_true w (masks_form register))) (is_some (where_true w (writers_among register.fields)))) ≡ true
  directions_here true true = refl
  directions_here true false = refl
  directions_here false true = refl
  directions_here false false = refl

  rules : KeepsRules version unit
  rules = record {
    names =
        and_from (are_distinct bytes_eq (markers_of register.fields)) (are_distinct bytes_eq (map (λ (reader : Reader). reader.name) (readers_of unit)) && (are_distinct bytes_eq (map (λ (writer : Writer). writer.name) (writers_of unit)) && are_distinct same_call (value_calls unit))) sound.markers
        (and_from (are_distinct bytes_eq (map (λ (reader : Reader). reader.name) (readers_of unit))) (are_distinct bytes_eq (map (λ (writer : Writer). writer.name) (writers_of unit)) && are_distinct same_call (value_calls unit)) reader_names_differ
        (and_from (are_distinct bytes_eq (map (λ (writer : Writer). writer.name) (writers_of unit))) (are_distinct same_call (value_calls unit)) writer_names_differ (calls_distinct version register.fields sound.markers named.fields)));
    counts =
        and_from (list_all (λ reader. spot_has_members (read_spot reader.form)) (readers_of unit)) (list_all (λ writer. spot_has_members (write_spot writer.form)) (writers_of unit))
        (readers_pass (λ reader. spot_has_members (read_spot reader.form)) read_some) (writers_pass (λ writer. spot_has_members (write_spot writer.form)) write_some);
    constants_have_type = constants_typed register.writable;
    constants_fit = constants_small register.writable;
    reader_markers = readers_pass (λ reader. is_marker unit reader.marker) marker_there;
    reader_places = readers_pass (λ reader. read_fits (bits_of register.word) reader.form) read_place;
    writer_markers = writers_pass (λ writer. is_marker unit writer.marker) marker_there;
    writer_places = writers_pass (λ writer. write_fits (bits_of register.word) writer.form) write_place;
    value_types = values_pass (λ block. list_any (same_type (values_type block)) (types_of unit)) register.fields (every (Passes (λ block. list_any (same_type (values_type block)) (types_of unit))) register.fields values_stand);
    value_literals = values_pass values_fit register.fields (every (Passes values_fit) register.fields values_literal);
    free =
        and_from (list_all (λ (reader : Reader). is_free version reader.name) (readers_of unit)) (list_all (λ (writer : Writer). is_free version writer.name) (writers_of unit) && list_all (λ block. list_all (is_free version) (value_names block)) (values_among register.fields))
        (readers_pass (λ reader. is_free version reader.name) (λ field among. (is_named field among).free))
        (and_from (list_all (λ (writer : Writer). is_free version writer.name) (writers_of unit)) (list_all (λ block. list_all (is_free version) (value_names block)) (values_among register.fields))
        (writers_pass (λ writer. is_free version writer.name) (λ field among. (is_named field among).free))
        (values_pass (λ block. list_all (is_free version) (value_names block)) register.fields (every (Passes (λ block. list_all (is_free version) (value_names block))) register.fields values_free)));
    directions = directions_here register.readable register.writable;
  }

pub rules_hold : RulesHold
rules_hold version register sound named = rules version register sound named
