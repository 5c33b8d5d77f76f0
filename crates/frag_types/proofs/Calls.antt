-- The calls of values on the types of readers and writers.
use Rattle.std.proofs.Common.{◌≡◌, ℕ, Bool, true, false, ◌&&◌, ◌||◌, List, [], ◌∷◌, ◌++◌, map, find, Option, Some, None, option_map, is_some, refl, sym, ap, ap₂, ◌∙◌, if◌then◌else◌, codes}
use Rattle.std.specs.Borrow.{Bor}
use Rattle.std.specs.List.{list_any}
use Rattle.std.specs.Str.{bytes_eq}
use Rattle.std.proofs.lemmas.Bool.{false≢true}
use Rattle.std.proofs.lemmas.List.Folds.{list_any-append}
use Rattle.frag_sem.specs.PreludeCalls.{bit_tests, bit_writes}
use Rattle.frag_sem.specs.ProxyTypes.{ProxyType, bit_reader, bit_writer, field_reader, field_writer, number_calls, numbers_on, reader_type, same_type, truth_calls, truths_on, value_names, values_type, writer_type}
use Rattle.frag_sem.specs.Surfaces.{ReadCall, WriteCall, number, truth}
use Rattle.frag_sem.specs.TextSurface.{plain_call, test_call}
use Rattle.frag_tree.specs.declared.register.BitKind.{BitKind}
use Rattle.frag_tree.specs.declared.register.NumberCall.{NumberCall}
use Rattle.frag_tree.specs.declared.register.ReadForm.TheVariants as read
use Rattle.frag_tree.specs.declared.register.Reader.{Reader}
use Rattle.frag_tree.specs.declared.register.RegisterModule.{RegisterModule}
use Rattle.frag_tree.specs.declared.register.Spot.{Spot}
use Rattle.frag_tree.specs.declared.register.TruthCall.{TruthCall}
use Rattle.frag_tree.specs.declared.register.Values.{Values}
use Rattle.frag_tree.specs.declared.register.Values.TheVariants as values
use Rattle.frag_tree.specs.declared.register.WriteForm.TheVariants as write
use Rattle.frag_tree.specs.declared.register.Writer.{Writer}
use Rattle.pac_base.specs.declared.width.Width.{Width}
use Rattle.frag_types.specs.Fields.{given, given_as, taken, taken_as, tests_bit, writes_bit}
use Rattle.frag_types.specs.Proxies.{on_type}
use Rattle.frag_types.proofs.Steps.{is-there}

any-mapped : {A : Type 0} (name_of : A → List ℕ) (items : List A) (name : List ℕ) → list_any (λ x. bytes_eq name (name_of x)) items ≡ list_any (bytes_eq name) (map name_of items)
any-mapped name_of [] name = refl
any-mapped name_of (x ∷ xs) name = ap (λ b. bytes_eq name (name_of x) || b) (any-mapped name_of xs name)

or-false : (b : Bool) → b || false ≡ b
or-false true = refl
or-false false = refl

or-or : (a b c : Bool) → (a || b) || c ≡ a || (b || c)
or-or true b c = refl
or-or false b c = refl

-- the calls of a block of values, of which it has one kind
any_value : (block : Values) (name : List ℕ)
    → (list_any (λ call. bytes_eq name call.name) (truth_calls block) || list_any (λ call. bytes_eq name call.name) (number_calls block)) ≡ list_any (bytes_eq name) (value_names block)
any_value block name =
    ap (λ b. b || list_any (λ call. bytes_eq name call.name) (number_calls block)) (any-mapped (λ call. call.name) (truth_calls block) name)
    ∙ (ap (λ b. list_any (bytes_eq name) (map (λ call. call.name) (truth_calls block)) || b) (any-mapped (λ call. call.name) (number_calls block) name)
    ∙ sym (list_any-append (bytes_eq name) (map (λ call. call.name) (truth_calls block)) (map (λ call. call.name) (number_calls block))))

or-turned : (a b c d : Bool) → ((a || b) || (c || d)) ≡ ((a || c) || (b || d))
or-turned true b c d = refl
or-turned false true true d = refl
or-turned false true false d = refl
or-turned false false c d = refl

-- the calls on a type are those for truths and those for numbers
on-both : (type : ProxyType) (name : List ℕ) (all : List Values)
    → (list_any (λ call. bytes_eq name call.name) (truths_on type all) || list_any (λ call. bytes_eq name call.name) (numbers_on type all)) ≡ on_type type name all
unfolding on_type
on-both type name [] = refl
on-both type name (block ∷ others) =
    ap₂ (λ a b. a || b) (list_any-append (λ call. bytes_eq name call.name) (if same_type type (values_type block) then truth_calls block else []) (truths_on type others))
    (list_any-append (λ call. bytes_eq name call.name) (if same_type type (values_type block) then number_calls block else []) (numbers_on type others))
    ∙ (or-turned (list_any (λ call. bytes_eq name call.name) (if same_type type (values_type block) then truth_calls block else [])) (list_any (λ call. bytes_eq name call.name) (truths_on type others))
    (list_any (λ call. bytes_eq name call.name) (if same_type type (values_type block) then number_calls block else [])) (list_any (λ call. bytes_eq name call.name) (numbers_on type others))
    ∙ ap₂ (λ a b. a || b) (by (same_type type (values_type block))) (on-both type name others))
  where
    by : (b : Bool) → (list_any (λ call. bytes_eq name call.name) (if b then truth_calls block else []) || list_any (λ call. bytes_eq name call.name) (if b then number_calls block else [])) ≡ (b && list_any (bytes_eq name) (value_names block))
    by true = any_value block name
    by false = refl

is-among : {A : Type 0} (test : A → Bool) (xs : List A) → is_some (find test xs) ≡ list_any test xs
is-among test [] = refl
is-among {A} test (x ∷ xs) = by (test x) (is-among test xs)
  where
    by : (b : Bool) → is_some (find test xs) ≡ list_any test xs → is_some (if b then Some x else find test xs) ≡ (b || list_any test xs)
    by true more = refl
    by false more = more

-- a call of a name is there where one was found
is-called : {A : Type 0} (test : A → Bool) (xs : List A) (found : Option (Bor A)) → option_map (λ (call : Bor A). call.now) found ≡ find test xs → is_some found ≡ list_any test xs
is-called test xs found is = is-there (λ call. call.now) found (find test xs) is ∙ is-among test xs

pub on-here : (type : ProxyType) (name : List ℕ) (all : List Values) (said : Option (Bor TruthCall)) → option_map (λ (call : Bor TruthCall). call.now) said ≡ find (λ call. bytes_eq name call.name) (truths_on type all)
    → is_some said ≡ true → true ≡ on_type type name all
on-here type name all said is there =
    ap (λ b. b || list_any (λ call. bytes_eq name call.name) (numbers_on type all)) (sym there ∙ is-called (λ call. bytes_eq name call.name) (truths_on type all) said is) ∙ on-both type name all

pub on-else : (type : ProxyType) (name : List ℕ) (all : List Values) (said : Option (Bor TruthCall)) (counted : Option (Bor NumberCall))
    → option_map (λ (call : Bor TruthCall). call.now) said ≡ find (λ call. bytes_eq name call.name) (truths_on type all) → option_map (λ (call : Bor NumberCall). call.now) counted ≡ find (λ call. bytes_eq name call.name) (numbers_on type all)
    → is_some said ≡ false → is_some counted ≡ on_type type name all
on-else type name all said counted is also none =
    is-called (λ call. bytes_eq name call.name) (numbers_on type all) counted also
    ∙ (ap (λ b. b || list_any (λ call. bytes_eq name call.name) (numbers_on type all)) (sym none ∙ is-called (λ call. bytes_eq name call.name) (truths_on type all) said is) ∙ on-both type name all)

-- where each block on the type has truths alone, those on it
truths-found : (type : ProxyType) → ((block : Values) → same_type type (values_type block) ≡ true → number_calls block ≡ []) → (name : List ℕ) (all : List Values)
    → list_any (λ call. bytes_eq name call.name) (truths_on type all) ≡ on_type type name all
unfolding on_type
truths-found type alone name [] = refl
truths-found type alone name (block ∷ others) =
    list_any-append (λ call. bytes_eq name call.name) (if same_type type (values_type block) then truth_calls block else []) (truths_on type others)
    ∙ (ap (λ b. list_any (λ call. bytes_eq name call.name) (if same_type type (values_type block) then truth_calls block else []) || b) (truths-found type alone name others)
    ∙ ap (λ b. b || list_any (λ block. same_type type (values_type block) && list_any (bytes_eq name) (value_names block)) others) (by (same_type type (values_type block)) (alone block)))
  where
    by : (b : Bool) → (b ≡ true → number_calls block ≡ []) → list_any (λ call. bytes_eq name call.name) (if b then truth_calls block else []) ≡ (b && list_any (bytes_eq name) (value_names block))
    by true none = sym (or-false (list_any (λ call. bytes_eq name call.name) (truth_calls block)))
        ∙ (ap (λ calls. list_any (λ call. bytes_eq name call.name) (truth_calls block) || list_any (λ call. bytes_eq name call.name) calls) (sym (none refl)) ∙ any_value block name)
    by false none = refl

numbers-found : (type : ProxyType) → ((block : Values) → same_type type (values_type block) ≡ true → truth_calls block ≡ []) → (name : List ℕ) (all : List Values)
    → list_any (λ call. bytes_eq name call.name) (numbers_on type all) ≡ on_type type name all
unfolding on_type
numbers-found type alone name [] = refl
numbers-found type alone name (block ∷ others) =
    list_any-append (λ call. bytes_eq name call.name) (if same_type type (values_type block) then number_calls block else []) (numbers_on type others)
    ∙ (ap (λ b. list_any (λ call. bytes_eq name call.name) (if same_type type (values_type block) then number_calls block else []) || b) (numbers-found type alone name others)
    ∙ ap (λ b. b || list_any (λ block. same_type type (values_type block) && list_any (bytes_eq name) (value_names block)) others) (by (same_type type (values_type block)) (alone block)))
  where
    by : (b : Bool) → (b ≡ true → truth_calls block ≡ []) → list_any (λ call. bytes_eq name call.name) (if b then number_calls block else []) ≡ (b && list_any (bytes_eq name) (value_names block))
    by true none =
        ap (λ calls. list_any (λ call. bytes_eq name call.name) calls || list_any (λ call. bytes_eq name call.name) (number_calls block)) (sym (none refl)) ∙ any_value block name
    by false none = refl

bit-reader-alone : (marker : List ℕ) (block : Values) → same_type (bit_reader marker) (values_type block) ≡ true → number_calls block ≡ []
bit-reader-alone marker (values.BitReading one calls) h = refl
bit-reader-alone marker (values.FieldReading one width calls) h = absurd (false≢true h)
bit-reader-alone marker (values.BitWriting kind one calls) h = refl
bit-reader-alone marker (values.FieldWriting one width bits calls) h = absurd (false≢true h)

bit-writer-alone : (kind : BitKind) (marker : List ℕ) (block : Values) → same_type (bit_writer kind marker) (values_type block) ≡ true → number_calls block ≡ []
bit-writer-alone kind marker (values.BitReading one calls) h = refl
bit-writer-alone kind marker (values.FieldReading one width calls) h = absurd (false≢true h)
bit-writer-alone kind marker (values.BitWriting also one calls) h = refl
bit-writer-alone kind marker (values.FieldWriting one width bits calls) h = absurd (false≢true h)

field-reader-alone : (marker : List ℕ) (width : Width) (block : Values) → same_type (field_reader marker width) (values_type block) ≡ true → truth_calls block ≡ []
field-reader-alone marker width (values.BitReading one calls) h = absurd (false≢true h)
field-reader-alone marker width (values.FieldReading one also calls) h = refl
field-reader-alone marker width (values.BitWriting kind one calls) h = absurd (false≢true h)
field-reader-alone marker width (values.FieldWriting one also bits calls) h = refl

field-writer-alone : (marker : List ℕ) (width : Width) (wide : ℕ) (block : Values) → same_type (field_writer marker width wide) (values_type block) ≡ true → truth_calls block ≡ []
field-writer-alone marker width wide (values.BitReading one calls) h = absurd (false≢true h)
field-writer-alone marker width wide (values.FieldReading one also calls) h = refl
field-writer-alone marker width wide (values.BitWriting kind one calls) h = absurd (false≢true h)
field-writer-alone marker width wide (values.FieldWriting one also bits calls) h = refl

-- which calls of names a list has that test or write
tests : {A : Type 0} (name_of : A → List ℕ) (calls : List A) (name : List ℕ)
    → option_map (λ (call : ReadCall). call.gives) (find (λ call. bytes_eq name call.name) (map (λ call. test_call (name_of call)) calls)) ≡ (if list_any (λ call. bytes_eq name (name_of call)) calls then Some truth else None)
tests name_of [] name = refl
tests name_of (call ∷ calls) name = by (bytes_eq name (name_of call)) (tests name_of calls name)
  where
    by : (b : Bool) → option_map (λ (call : ReadCall). call.gives) (find (λ call. bytes_eq name call.name) (map (λ call. test_call (name_of call)) calls)) ≡ (if list_any (λ call. bytes_eq name (name_of call)) calls then Some truth else None)
        → option_map (λ (call : ReadCall). call.gives) (if b then Some (test_call (name_of call)) else find (λ call. bytes_eq name call.name) (map (λ call. test_call (name_of call)) calls)) ≡ (if (b || list_any (λ call. bytes_eq name (name_of call)) calls) then Some truth else None)
    by true more = refl
    by false more = more

plains : {A : Type 0} (name_of : A → List ℕ) (calls : List A) (name : List ℕ)
    → option_map (λ (call : WriteCall). call.takes) (find (λ call. bytes_eq name call.name) (map (λ call. plain_call (name_of call)) calls)) ≡ (if list_any (λ call. bytes_eq name (name_of call)) calls then Some None else None)
plains name_of [] name = refl
plains name_of (call ∷ calls) name = by (bytes_eq name (name_of call)) (plains name_of calls name)
  where
    by : (b : Bool) → option_map (λ (call : WriteCall). call.takes) (find (λ call. bytes_eq name call.name) (map (λ call. plain_call (name_of call)) calls)) ≡ (if list_any (λ call. bytes_eq name (name_of call)) calls then Some None else None)
        → option_map (λ (call : WriteCall). call.takes) (if b then Some (plain_call (name_of call)) else find (λ call. bytes_eq name call.name) (map (λ call. plain_call (name_of call)) calls)) ≡ (if (b || list_any (λ call. bytes_eq name (name_of call)) calls) then Some None else None)
    by true more = refl
    by false more = more

first-gives : (b : Bool) (first : ReadCall) (o : Option ReadCall) → option_map (λ (call : ReadCall). call.gives) (if b then Some first else o) ≡ (if b then Some first.gives else option_map (λ (call : ReadCall). call.gives) o)
first-gives true first o = refl
first-gives false first o = refl

first-takes : (b : Bool) (first : WriteCall) (o : Option WriteCall) → option_map (λ (call : WriteCall). call.takes) (if b then Some first else o) ≡ (if b then Some first.takes else option_map (λ (call : WriteCall). call.takes) o)
first-takes true first o = refl
first-takes false first o = refl

whole-or : (a b : Bool) → (if a then Some truth else (if b then Some truth else None)) ≡ given_as (a || b) truth false
whole-or true b = refl
whole-or false true = refl
whole-or false false = refl

pub given_bit : (unit : RegisterModule) (reader : Reader) (spot : Spot) (mask : ℕ) (method : List ℕ) → reader.form ≡ read.Bit spot mask
    → given_as (tests_bit reader unit.values method) truth false ≡ given unit reader method
unfolding given
given_bit unit reader spot mask method is = rw is (sym
    (first-gives (bytes_eq method (codes "bit")) _ _
    ∙ (ap (λ o. if bytes_eq method (codes "bit") then Some truth else o)
    (tests (λ call. call.name) (bit_tests ++ truths_on (bit_reader reader.marker) unit.values) method
    ∙ ap (λ b. if b then Some truth else None)
    (list_any-append (λ call. bytes_eq method call.name) bit_tests (truths_on (bit_reader reader.marker) unit.values)
    ∙ ap (λ b. list_any (λ call. bytes_eq method call.name) bit_tests || b) (truths-found (bit_reader reader.marker) (bit-reader-alone reader.marker) method unit.values)))
    ∙ whole-or (bytes_eq method (codes "bit")) (list_any (λ call. bytes_eq method call.name) bit_tests || on_type (bit_reader reader.marker) method unit.values))))

pub given_field : (unit : RegisterModule) (reader : Reader) (width : Width) (spot : Spot) (mask : ℕ) (method : List ℕ) → reader.form ≡ read.Field width spot mask
    → given_as (bytes_eq method (codes "bits")) (number width) (on_type (reader_type reader) method unit.values) ≡ given unit reader method
unfolding given
given_field unit reader width spot mask method is = rw is (sym
    (first-gives (bytes_eq method (codes "bits")) _ _
    ∙ ap (λ o. if bytes_eq method (codes "bits") then Some (number width) else o)
    (tests (λ call. call.name) (numbers_on (field_reader reader.marker width) unit.values) method
    ∙ ap (λ b. if b then Some truth else None) (numbers-found (field_reader reader.marker width) (field-reader-alone reader.marker width) method unit.values))))

pub taken_bit : (unit : RegisterModule) (writer : Writer) (kind : BitKind) (spot : Spot) (method : List ℕ) → writer.form ≡ write.Bit kind spot
    → taken_as (bytes_eq method (codes "bit")) truth (writes_bit kind writer unit.values method) ≡ taken unit writer method
unfolding taken
taken_bit unit writer kind spot method is = rw is (sym
    (first-takes (bytes_eq method (codes "bit")) _ _
    ∙ ap (λ o. if bytes_eq method (codes "bit") then Some (Some truth) else o)
    (plains (λ call. call.name) (bit_writes kind ++ truths_on (bit_writer kind writer.marker) unit.values) method
    ∙ ap (λ b. if b then Some None else None)
    (list_any-append (λ call. bytes_eq method call.name) (bit_writes kind) (truths_on (bit_writer kind writer.marker) unit.values)
    ∙ ap (λ b. list_any (λ call. bytes_eq method call.name) (bit_writes kind) || b) (truths-found (bit_writer kind writer.marker) (bit-writer-alone kind writer.marker) method unit.values)))))

pub taken_field : (unit : RegisterModule) (writer : Writer) (width : Width) (wide : ℕ) (spot : Spot) (method : List ℕ) → writer.form ≡ write.Field width wide spot
    → taken_as (bytes_eq method (codes "bits")) (number width) (on_type (writer_type writer) method unit.values) ≡ taken unit writer method
unfolding taken
taken_field unit writer width wide spot method is = rw is (sym
    (first-takes (bytes_eq method (codes "bits")) _ _
    ∙ ap (λ o. if bytes_eq method (codes "bits") then Some (Some (number width)) else o)
    (plains (λ call. call.name) (numbers_on (field_writer writer.marker width wide) unit.values) method
    ∙ ap (λ b. if b then Some None else None) (numbers-found (field_writer writer.marker width wide) (field-writer-alone writer.marker width wide) method unit.values))))
