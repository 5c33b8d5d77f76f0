-- A value that types has one of the type that is wanted, and a link that types makes a word.
use Rattle.std.proofs.Common.{ℕ, ◌≡◌, ◌%◌, ◌^◌, ◌<◌, Bool, true, false, cond, ◌==◌, List, [], ◌∷◌, ◌++◌, map, find, Option, Some, None, Ok, ok_or, option_map, bytes_eq, refl, sym, ap, subst, ◌∙◌, mod-lt}
use Rattle.std.specs.Prelude.{codes, if◌then◌else◌, IsSomeAnd, ⊤}
use Rattle.std.specs.List.{AllByRecursion}
use Rattle.std.proofs.lemmas.Bool.{eqb-true, ltb-true}
use Rattle.pac_base.specs.declared.width.Width.{Width}
use Rattle.pac_base.specs.Widths.{bits_of}
use Rattle.frag_tree.specs.declared.event.Said.{Said}
use Rattle.frag_tree.specs.declared.event.Said.TheVariants.{Number, Truth}
use Rattle.frag_tree.specs.declared.register.NumberCall.{NumberCall}
use Rattle.frag_tree.specs.declared.register.ReadForm.{ReadForm}
use Rattle.frag_tree.specs.declared.register.ReadForm.TheVariants as read
use Rattle.frag_tree.specs.declared.register.Reader.{Reader}
use Rattle.frag_tree.specs.declared.register.RegisterModule.{RegisterModule}
use Rattle.frag_tree.specs.declared.register.Spot.{Spot}
use Rattle.frag_tree.specs.declared.register.Spot.TheVariants as spot
use Rattle.frag_tree.specs.declared.register.TruthCall.{TruthCall}
use Rattle.frag_tree.specs.declared.register.WriteForm.{WriteForm}
use Rattle.frag_tree.specs.declared.register.WriteForm.TheVariants as write
use Rattle.frag_tree.specs.declared.register.Writer.{Writer}
use Rattle.frag_tree.specs.declared.statement.Atom.{Atom}
use Rattle.frag_tree.specs.declared.statement.Atom.TheVariants as atom
use Rattle.frag_tree.specs.declared.statement.Call.{Call}
use Rattle.frag_tree.specs.declared.statement.Link.{Link}
use Rattle.frag_tree.specs.declared.statement.Link.TheVariants as link
use Rattle.frag_tree.specs.declared.statement.Source.{Source}
use Rattle.frag_tree.specs.declared.statement.Source.TheVariants as source
use Rattle.frag_tree.specs.declared.statement.Value.{Value}
use Rattle.frag_sem.specs.Means.{AtomIs, BitTakes, BitsTake, ChainMakes, CompareGives, FieldGives, FormGives, FormMakes, Held, LinkMakes, NumberIs, SourceIs, SpotIs, TestGives, ValueIs, held_as}
use Rattle.frag_sem.specs.PreludeCalls.{bit_tests, bit_writes}
use Rattle.frag_sem.specs.PreludeWords.{as_bits, bit_of, is_set, same_truth, taken, written}
use Rattle.frag_sem.specs.ProxyTypes.{numbers_on, reader_type, readers_of, same_width, truths_on, writer_type, writers_of}
use Rattle.frag_sem.specs.ScriptTyping.{Typed, Wanted, ◌>>=◌, anything, argument_types, atom_types, chain_types, holds_or, index_types, is_number, just, link_types, literal_types, name_of, no_such_call, no_such_name, read_call, source_type, type_fits, value_types, write_call, wrong_type}
use Rattle.frag_sem.specs.Spots.{read_spot, spot_at, spot_count, write_spot}
use Rattle.frag_sem.specs.Surfaces.{ReadCall, ReadField, RegisterCalls, ValueType, WriteCall, WriteField, number, truth}
use Rattle.frag_sem.specs.TextMeaning.{reader_named, writer_named}
use Rattle.frag_sem.specs.TextSurface.{plain_call, read_calls, read_field, register_calls, test_call, write_calls, write_field}
use Rattle.frag_sem.proofs.Lists.{found_all, found_map}
use Rattle.frag_sem.proofs.Typings.{admits_typed, both_ok, held_or, not_ok, same_ok}
use Rattle.frag_sem.proofs.Words.{some_power}

-- ---- types

-- a value of a type
abbrev pub OfType : ValueType → Said → Type 0
OfType (number width) (Number value) = value < 2 ^ bits_of width
OfType (number width) (Truth value) = ⊥
OfType truth (Number value) = ⊥
OfType truth (Truth value) = ⊤

-- a value of the type that is wanted
abbrev pub Suits : Wanted → Said → Type 0
Suits anything said = ⊤
Suits (just type) said = OfType type said

-- types of as many bits are one
same_width_tells : (one other : Width) → same_width one other ≡ true → (value : ℕ) → value < 2 ^ bits_of other → value < 2 ^ bits_of one
same_width_tells one other h value small = subst (λ (n : ℕ). value < 2 ^ n) (sym (eqb-true (bits_of one) (bits_of other) h)) small

-- a value of a type suits where that type fits
suits : (wanted : Wanted) (type : ValueType) (said : Said) → type_fits wanted type ≡ Ok tt → OfType type said → Suits wanted said
suits anything type said h of = tt
suits (just (number one)) (number other) (Number value) h of = same_width_tells one other (held_or wrong_type (same_width one other) h) value of
suits (just (number one)) (number other) (Truth value) h of = absurd of
suits (just (number one)) truth said h of = absurd (not_ok wrong_type tt h)
suits (just truth) (number other) said h of = absurd (not_ok wrong_type tt h)
suits (just truth) truth said h of = of

-- ---- bound names

-- what is known of a name that is held, for its type
abbrev pub typed_held : Held → List ℕ × RegisterCalls
typed_held held = (held.name, register_calls held.register)

-- each word that is held is one of its register
abbrev pub AreWords : List Held → Type 0
AreWords names = AllByRecursion (λ held. held.word < 2 ^ bits_of held.register.word) names

held_typed : (name : List ℕ) (names : List Held) → name_of (map typed_held names) name ≡ option_map (λ held. register_calls held.register) (held_as name names)
held_typed name names = ap (option_map (λ (bound : List ℕ × RegisterCalls). bound.1)) (found_map (λ (bound : List ℕ × RegisterCalls). bytes_eq name bound.0) typed_held names) ∙ by (held_as name names)
  where
    by : (o : Option Held) → option_map (λ (bound : List ℕ × RegisterCalls). bound.1) (option_map typed_held o) ≡ option_map (λ held. register_calls held.register) o
    by None = refl
    by (Some held) = refl

held_word : (name : List ℕ) (names : List Held) → AreWords names → (held : Held) → held_as name names ≡ Some held → held.word < 2 ^ bits_of held.register.word
held_word name names words held is = found_all (λ held. bytes_eq name held.name) (λ held. held.word < 2 ^ bits_of held.register.word) names held is words

-- ---- what is read

spot_there : (s : Spot) (index : Option ℕ) → index_types (spot_count s) index ≡ Ok tt → SpotIs s index (spot_at s index)
spot_there (spot.Fixed place) None h = refl
spot_there (spot.Fixed place) (Some index) h = absurd (not_ok wrong_type tt h)
spot_there (spot.Indexed offset step count) None h = absurd (not_ok wrong_type tt h)
spot_there (spot.Indexed offset step count) (Some index) h = (ltb-true index count (admits_typed (Some count) (Some index) h), refl)

-- what a call gives that types
abbrev Gives : ReadCall → (Said → Type 0) → Type 0
Gives call Is = (said : Said) × Is said × OfType call.gives said

test_there : (plain : Bool) (found : Option TruthCall) (bit : Bool) (call : ReadCall) → ok_or (cond plain (Some (record { name = codes "bit"; gives = truth })) (option_map (λ (c : TruthCall). test_call c.name) found)) no_such_call ≡ Ok call → Gives call (TestGives plain found bit)
test_there true found bit call h = (Truth bit, refl, subst (λ (c : ReadCall). OfType c.gives (Truth bit)) (same_ok _ call h) tt)
test_there false None bit call h = absurd (not_ok no_such_call call h)
test_there false (Some c) bit call h = (Truth (same_truth bit c.value), refl, subst (λ (d : ReadCall). OfType d.gives (Truth (same_truth bit c.value))) (same_ok _ call h) tt)

compare_there : (width : Width) (plain : Bool) (found : Option NumberCall) (value : ℕ) (call : ReadCall) → value < 2 ^ bits_of width → ok_or (cond plain (Some (record { name = codes "bits"; gives = number width })) (option_map (λ (c : NumberCall). test_call c.name) found)) no_such_call ≡ Ok call → Gives call (CompareGives plain found value)
compare_there width true found value call small h = (Number value, refl, subst (λ (c : ReadCall). OfType c.gives (Number value)) (same_ok _ call h) small)
compare_there width false None value call small h = absurd (not_ok no_such_call call h)
compare_there width false (Some c) value call small h = (Truth (value == c.value), refl, subst (λ (d : ReadCall). OfType d.gives (Truth (value == c.value))) (same_ok _ call h) tt)

form_there : (unit : RegisterModule) (reader : Reader) (index : Option ℕ) (method : List ℕ) (word : ℕ) (form : ReadForm) (call : ReadCall) → index_types (spot_count (read_spot form)) index ≡ Ok tt → ok_or (find (λ (c : ReadCall). bytes_eq method c.name) (read_calls unit reader form)) no_such_call ≡ Ok call → Gives call (FormGives unit reader index method word form)
form_there unit reader index method word (read.Bit s mask) call at h =
    let calls = bit_tests ++ truths_on (reader_type reader) unit.values in
    let plain = bytes_eq method (codes "bit") in
    let found = test_there plain (find (λ c. bytes_eq method c.name) calls) (is_set (taken word (spot_at s index) mask)) call
    (ap (λ o. ok_or (cond plain (Some (record { name = codes "bit"; gives = truth })) o) no_such_call) (sym (found_map (λ (c : ReadCall). bytes_eq method c.name) (λ (c : TruthCall). test_call c.name) calls)) ∙ h) in
    (found.0, (spot_at s index, spot_there s index at, found.1), found.2)
form_there unit reader index method word (read.Field width s mask) call at h =
    let calls = numbers_on (reader_type reader) unit.values in
    let plain = bytes_eq method (codes "bits") in
    let found = compare_there width plain (find (λ c. bytes_eq method c.name) calls) (as_bits (bits_of width) (taken word (spot_at s index) mask)) call (mod-lt (taken word (spot_at s index) mask) (some_power (bits_of width)))
    (ap (λ o. ok_or (cond plain (Some (record { name = codes "bits"; gives = number width })) o) no_such_call) (sym (found_map (λ (c : ReadCall). bytes_eq method c.name) (λ (c : NumberCall). test_call c.name) calls)) ∙ h) in
    (found.0, (spot_at s index, spot_there s index at, found.1), found.2)

field_there : (unit : RegisterModule) (field : Call) (method : List ℕ) (word : ℕ) (call : ReadCall) → read_call (register_calls unit) field method ≡ Ok call → Gives call (FieldGives unit field method word)
unfolding register_calls
field_there unit field method word call h =
    by (reader_named field.name unit) (ap (λ o. ok_or o no_such_call >>= rest) (sym (found_map (λ (reader : ReadField). bytes_eq field.name reader.name) (read_field unit) (readers_of unit))) ∙ h)
  where
    rest : ReadField → Typed ReadCall
    rest found = index_types found.count field.index >>= λ _. ok_or (find (λ (c : ReadCall). bytes_eq method c.name) found.calls) no_such_call

    by : (o : Option Reader) → (ok_or (option_map (read_field unit) o) no_such_call >>= rest) ≡ Ok call → Gives call (λ said. IsSomeAnd o (λ reader. FormGives unit reader field.index method word reader.form said))
    by None e = absurd (not_ok no_such_call call e)
    by (Some reader) e =
        let typed = both_ok (index_types (spot_count (read_spot reader.form)) field.index) (λ _. ok_or (find (λ (c : ReadCall). bytes_eq method c.name) (read_calls unit reader reader.form)) no_such_call) call e in
        form_there unit reader field.index method word reader.form call typed.1 typed.2

-- ---- values

-- what a source gives that types
abbrev Sourced : List Held → Source → ValueType → Type 0
Sourced names source type = (said : Said) × SourceIs names source said × OfType type said

source_there : (names : List Held) → AreWords names → (source : Source) (type : ValueType) → source_type (map typed_held names) source ≡ Ok type → Sourced names source type
unfolding register_calls
source_there names words (source.Bits reader) type h = by (held_as reader names) refl (ap (λ o. ok_or o no_such_name >>= λ (register : RegisterCalls). Ok (number register.width)) (sym (held_typed reader names)) ∙ h)
  where
    by : (o : Option Held) → held_as reader names ≡ o → (ok_or (option_map (λ held. register_calls held.register) o) no_such_name >>= λ (register : RegisterCalls). Ok (number register.width)) ≡ Ok type → (said : Said) × IsSomeAnd o (λ held. said ≡ Number held.word) × OfType type said
    by None is e = absurd (not_ok no_such_name type e)
    by (Some held) is e = (Number held.word, refl, subst (λ t. OfType t (Number held.word)) (same_ok (number held.register.word) type e) (held_word reader names words held is))
source_there names words (source.Field reader field method) type h = by (held_as reader names) (ap (λ o. ok_or o no_such_name >>= rest) (sym (held_typed reader names)) ∙ h)
  where
    rest : RegisterCalls → Typed ValueType
    rest register = read_call register field method >>= λ call. Ok call.gives

    by : (o : Option Held) → (ok_or (option_map (λ held. register_calls held.register) o) no_such_name >>= rest) ≡ Ok type → (said : Said) × IsSomeAnd o (λ held. FieldGives held.register field method held.word said) × OfType type said
    by None e = absurd (not_ok no_such_name type e)
    by (Some held) e =
        let typed = both_ok (read_call (register_calls held.register) field method) (λ call. Ok call.gives) type e in
        let found = field_there held.register field method held.word typed.0 typed.1 in
        (found.0, found.1, subst (λ t. OfType t found.0) (same_ok typed.0.gives type typed.2) found.2)

abbrev Valued : (Said → Type 0) → Wanted → Type 0
Valued Is wanted = (said : Said) × Is said × Suits wanted said

literal_there : (names : List Held) (wanted : Wanted) (value : ℕ) → literal_types wanted value ≡ Ok tt → Valued (AtomIs names (atom.Number value)) wanted
literal_there names anything value h = (Number value, refl, tt)
literal_there names (just (number width)) value h = (Number value, refl, ltb-true value (2 ^ bits_of width) (held_or _ _ h))
literal_there names (just truth) value h = absurd (not_ok wrong_type tt h)

-- a number that is cut
cast_there : (names : List Held) (source : Source) (width : Width) (wanted : Wanted) (type : ValueType) → is_number type ≡ true → type_fits wanted (number width) ≡ Ok tt → Sourced names source type → Valued (AtomIs names (atom.Cast source width)) wanted
cast_there names source width wanted truth numeric fits found = absurd cc
cast_there names source width wanted (number wide) numeric fits (Truth value, is, of) = absurd of
cast_there names source width wanted (number wide) numeric fits (Number value, is, of) =
    (Number (as_bits (bits_of width) value), (value, is, refl), suits wanted (number width) (Number (as_bits (bits_of width) value)) fits (mod-lt value (some_power (bits_of width))))

atom_there : (names : List Held) → AreWords names → (wanted : Wanted) (a : Atom) → atom_types (map typed_held names) wanted a ≡ Ok tt → Valued (AtomIs names a) wanted
atom_there names words wanted (atom.Number value) h = literal_there names wanted value h
atom_there names words wanted (atom.Truth value) h = (Truth value, refl, suits wanted truth (Truth value) h tt)
atom_there names words wanted (atom.Source source) h =
    let typed = both_ok (source_type (map typed_held names) source) (type_fits wanted) tt h in
    let found = source_there names words source typed.0 typed.1 in
    (found.0, found.1, suits wanted typed.0 found.0 typed.2 found.2)
atom_there names words wanted (atom.Cast source width) h =
    let typed = both_ok (source_type (map typed_held names) source) _ tt h in
    let numeric = both_ok (holds_or wrong_type (is_number typed.0)) (λ _. type_fits wanted (number width)) tt typed.2 in
    cast_there names source width wanted typed.0 (held_or wrong_type (is_number typed.0) numeric.1) numeric.2 (source_there names words source typed.0 typed.1)

-- without `!` a value is what stands there; behind it a truth
pub value_there : (names : List Held) → AreWords names → (wanted : Wanted) (value : Value) → value_types (map typed_held names) wanted value ≡ Ok tt → Valued (ValueIs names value) wanted
unfolding value_types
value_there names words wanted value h = by (value.negations == 0) refl h
  where
    plain : value.negations ≡ 0 → (inner : Said) → AtomIs names value.atom inner → Suits wanted inner → Valued (ValueIs names value) wanted
    plain none (Number n) is suit = (Number n, (Number n, is, (none, refl)), suit)
    plain none (Truth b) is suit = (Truth (same_truth (value.negations % 2 == 0) b), (Truth b, is, refl), still wanted suit)
      where
        still : (w : Wanted) → Suits w (Truth b) → Suits w (Truth (same_truth (value.negations % 2 == 0) b))
        still anything s = tt
        still (just (number width)) s = absurd s
        still (just truth) s = tt

    turned : (inner : Said) → AtomIs names value.atom inner → OfType truth inner → type_fits wanted truth ≡ Ok tt → Valued (ValueIs names value) wanted
    turned (Number n) is of fits = absurd of
    turned (Truth b) is of fits =
        (Truth (same_truth (value.negations % 2 == 0) b), (Truth b, is, refl), suits wanted truth (Truth (same_truth (value.negations % 2 == 0) b)) fits tt)

    by : (b : Bool) → (value.negations == 0) ≡ b → (if b then atom_types (map typed_held names) wanted value.atom else (atom_types (map typed_held names) (just truth) value.atom >>= λ _. type_fits wanted truth)) ≡ Ok tt → Valued (ValueIs names value) wanted
    by true none e =
        let found = atom_there names words wanted value.atom e in
        plain (eqb-true value.negations 0 none) found.0 found.1 found.2
    by false none e =
        let typed = both_ok (atom_types (map typed_held names) (just truth) value.atom) (λ _. type_fits wanted truth) tt e in
        let found = atom_there names words (just truth) value.atom typed.1 in
        turned found.0 found.1 found.2 typed.2

number_there : (names : List Held) → AreWords names → (width : Width) (value : Value) → value_types (map typed_held names) (just (number width)) value ≡ Ok tt → (n : ℕ) × NumberIs names width value n
number_there names words width value h = by (value_there names words (just (number width)) value h)
  where
    by : Valued (ValueIs names value) (just (number width)) → (n : ℕ) × NumberIs names width value n
    by (Number n, is, suit) = (n, (is, suit))
    by (Truth b, is, suit) = absurd suit

truth_there : (names : List Held) → AreWords names → (value : Value) → value_types (map typed_held names) (just truth) value ≡ Ok tt → (b : Bool) × ValueIs names value (Truth b)
truth_there names words value h = by (value_there names words (just truth) value h)
  where
    by : Valued (ValueIs names value) (just truth) → (b : Bool) × ValueIs names value (Truth b)
    by (Number n, is, suit) = absurd suit
    by (Truth b, is, suit) = (b, is)

-- ---- what is written

-- a call with its argument
abbrev called : List Held → Option Value → WriteCall → Typed (Unit {0})
called names value call = argument_types (map typed_held names) call.takes value

bit_there : (names : List Held) → AreWords names → (plain : Bool) (found : Option TruthCall) (value : Option Value) → (ok_or (cond plain (Some (record { name = codes "bit"; takes = Some truth })) (option_map (λ (c : TruthCall). plain_call c.name) found)) no_such_call >>= called names value) ≡ Ok tt → (bit : Bool) × BitTakes plain found names value bit
bit_there names words true found None h = absurd (not_ok wrong_type tt h)
bit_there names words true found (Some value) h = truth_there names words value h
bit_there names words false None value h = absurd (not_ok no_such_call tt h)
bit_there names words false (Some c) None h = (c.value, refl)
bit_there names words false (Some c) (Some value) h = absurd (not_ok wrong_type tt h)

bits_there : (names : List Held) → AreWords names → (width : Width) (plain : Bool) (found : Option NumberCall) (value : Option Value) → (ok_or (cond plain (Some (record { name = codes "bits"; takes = Some (number width) })) (option_map (λ (c : NumberCall). plain_call c.name) found)) no_such_call >>= called names value) ≡ Ok tt → (n : ℕ) × BitsTake plain found names width value n
bits_there names words width true found None h = absurd (not_ok wrong_type tt h)
bits_there names words width true found (Some value) h = number_there names words width value h
bits_there names words width false None value h = absurd (not_ok no_such_call tt h)
bits_there names words width false (Some c) None h = (c.value, refl)
bits_there names words width false (Some c) (Some value) h = absurd (not_ok wrong_type tt h)

makes_there : (unit : RegisterModule) (writer : Writer) (names : List Held) → AreWords names → (index : Option ℕ) (method : List ℕ) (value : Option Value) (word : ℕ) (form : WriteForm) → index_types (spot_count (write_spot form)) index ≡ Ok tt → (ok_or (find (λ (c : WriteCall). bytes_eq method c.name) (write_calls unit writer form)) no_such_call >>= called names value) ≡ Ok tt → (next : ℕ) × FormMakes unit writer names index method value word form next
makes_there unit writer names words index method value word (write.Bit kind s) at h =
    let calls = bit_writes kind ++ truths_on (writer_type writer) unit.values in
    let plain = bytes_eq method (codes "bit") in
    let found = bit_there names words plain (find (λ c. bytes_eq method c.name) calls) value
    (ap (λ o. ok_or (cond plain (Some (record { name = codes "bit"; takes = Some truth })) o) no_such_call >>= called names value) (sym (found_map (λ (c : WriteCall). bytes_eq method c.name) (λ (c : TruthCall). plain_call c.name) calls)) ∙ h) in
    (written (bits_of unit.word) word (spot_at s index) 1 (bit_of found.0), (spot_at s index, found.0, spot_there s index at, found.1, refl))
makes_there unit writer names words index method value word (write.Field width bits s) at h =
    let calls = numbers_on (writer_type writer) unit.values in
    let plain = bytes_eq method (codes "bits") in
    let found = bits_there names words width plain (find (λ c. bytes_eq method c.name) calls) value
    (ap (λ o. ok_or (cond plain (Some (record { name = codes "bits"; takes = Some (number width) })) o) no_such_call >>= called names value) (sym (found_map (λ (c : WriteCall). bytes_eq method c.name) (λ (c : NumberCall). plain_call c.name) calls)) ∙ h) in
    (written (bits_of unit.word) word (spot_at s index) bits found.0, (spot_at s index, found.0, spot_there s index at, found.1, refl))

link_there : (unit : RegisterModule) (names : List Held) → AreWords names → (word : ℕ) (one : Link) → link_types (map typed_held names) (register_calls unit) one ≡ Ok tt → (next : ℕ) × LinkMakes unit names word one next
unfolding register_calls
link_there unit names words word (link.Bits value) h = number_there names words unit.word value h
link_there unit names words word (link.Field field method value) h =
    let typed = both_ok (write_call (register_calls unit) field method) (called names value) tt h in
    by (writer_named field.name unit) typed.0 (ap (λ o. ok_or o no_such_call >>= rest) (sym (found_map (λ (writer : WriteField). bytes_eq field.name writer.name) (write_field unit) (writers_of unit))) ∙ typed.1) typed.2
  where
    rest : WriteField → Typed WriteCall
    rest found = index_types found.count field.index >>= λ _. ok_or (find (λ (c : WriteCall). bytes_eq method c.name) found.calls) no_such_call

    by : (o : Option Writer) (call : WriteCall) → (ok_or (option_map (write_field unit) o) no_such_call >>= rest) ≡ Ok call → called names value call ≡ Ok tt → (next : ℕ) × IsSomeAnd o (λ writer. FormMakes unit writer names field.index method value word writer.form next)
    by None call e typed = absurd (not_ok no_such_call call e)
    by (Some writer) call e typed =
        let calls = ok_or (find (λ (c : WriteCall). bytes_eq method c.name) (write_calls unit writer writer.form)) no_such_call in
        let indexed = both_ok (index_types (spot_count (write_spot writer.form)) field.index) (λ _. calls) call e in
        makes_there unit writer names words field.index method value word writer.form indexed.1 (ap (λ (found : Typed WriteCall). found >>= called names value) indexed.2 ∙ typed)

pub chain_there : (unit : RegisterModule) (names : List Held) → AreWords names → (word : ℕ) (chain : List Link) → chain_types (map typed_held names) (register_calls unit) chain ≡ Ok tt → (end : ℕ) × ChainMakes unit names word chain end
unfolding ChainMakes chain_types
chain_there unit names words word [] h = (word, refl)
chain_there unit names words word (first ∷ others) h =
    let typed = both_ok (link_types (map typed_held names) (register_calls unit) first) (λ _. chain_types (map typed_held names) (register_calls unit) others) tt h in
    let next = link_there unit names words word first typed.1 in
    let end = chain_there unit names words next.0 others typed.2 in
    (end.0, (next.0, next.1, end.1))
