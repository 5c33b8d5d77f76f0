-- The steps of typing, one word after the other.
use Rattle.std.proofs.Common.{◌≡◌, ℕ, Bool, true, false, ◌||◌, List, [], ◌∷◌, map, find, is_some, length, arith, Option, Some, None, Ok, Err, option_map, refl, sym, ap, ◌∙◌, if◌then◌else◌}
use Rattle.std.specs.Prelude.{ok_or}
use Rattle.std.specs.List.{list_any}
use Rattle.std.specs.Str.{bytes_eq}
use Rattle.frag_sem.specs.Modules.{top_block}
use Rattle.frag_sem.specs.CallPlaces.{slot_named}
use Rattle.frag_sem.specs.PlaceTyping.{inner_named, slot_module, steps_lead}
use Rattle.frag_sem.specs.ProxyTypes.{readers_of, writers_of}
use Rattle.frag_sem.specs.ScriptTyping.{Names, ScriptKind, Typed, ◌>>=◌, argument_types, chain_types, index_types, just, link_types, name_of, no_such_call, read_call, source_type, value_types, write_call}
use Rattle.frag_sem.specs.Surfaces.{ReadCall, ReadField, RegisterCalls, ValueType, WriteCall, WriteField, number}
use Rattle.frag_sem.specs.TextSurface.{read_calls, read_field, register_calls, write_calls, write_field}
use Rattle.frag_tree.specs.declared.krate.Slot.{Slot}
use Rattle.frag_tree.specs.declared.register.Reader.{Reader}
use Rattle.frag_tree.specs.declared.register.RegisterModule.{RegisterModule}
use Rattle.frag_tree.specs.declared.register.Writer.{Writer}
use Rattle.frag_tree.specs.declared.statement.Call.{Call}
use Rattle.frag_tree.specs.declared.statement.Link.{Link}
use Rattle.frag_tree.specs.declared.statement.Link.TheVariants as link
use Rattle.frag_tree.specs.declared.statement.Source.TheVariants as source
use Rattle.frag_tree.specs.declared.statement.Value.{Value}
use Rattle.frag_tree.specs.Trees.{CrateTree, ModuleTree, one_block}
use Rattle.frag_types.specs.Fields.{given, read_count, read_type, taken, write_count, write_type}
use Rattle.frag_types.specs.Telling.{step_leads}

-- ---- names

-- a name is found among items just where one of them has it
pub is-found : {A : Type 0} (name_of : A → List ℕ) (items : List A) (name : List ℕ) → is_some (find (λ x. bytes_eq name (name_of x)) items) ≡ list_any (bytes_eq name) (map name_of items)
is-found name_of [] name = refl
is-found {A} name_of (x ∷ xs) name = by (bytes_eq name (name_of x)) (is-found name_of xs name)
  where
    by : (b : Bool) → is_some (find (λ x. bytes_eq name (name_of x)) xs) ≡ list_any (bytes_eq name) (map name_of xs) → is_some (if b then Some x else find (λ x. bytes_eq name (name_of x)) xs) ≡ (b || list_any (bytes_eq name) (map name_of xs))
    by true more = refl
    by false more = more

pub none-left : {A : Type 0} (xs : List A) → length xs ≡ 0 → xs ≡ []
none-left [] h = refl
none-left (x ∷ xs) h = absurd (omega arith)

is-mapped : {A B : Type 0} (f : A → B) (o : Option A) → is_some (option_map f o) ≡ is_some o
is-mapped f None = refl
is-mapped f (Some x) = refl

pub is-there : {A B : Type 0} (f : A → B) (o : Option A) (p : Option B) → option_map f o ≡ p → is_some o ≡ is_some p
is-there f o p same = sym (is-mapped f o) ∙ ap is_some same

pub slot-leads : (krate : CrateTree) (name : List ℕ) (slot : Slot) (found : Option ModuleTree) → slot_named name krate.slots ≡ Some slot → found ≡ option_map one_block (top_block slot.block krate.blocks) → found ≡ slot_module krate name
slot-leads krate name slot found is top = rw is top

pub slot-missing : (krate : CrateTree) (name : List ℕ) → slot_named name krate.slots ≡ None → None ≡ slot_module krate name
slot-missing krate name is = rw is refl

-- ---- places

-- one word behind the other, and then what stands behind both
then-then : {A B C : Type 0} (first : Typed A) (second : A → Typed (Unit {0})) (f : A → B) (last : B → Typed C)
    → ((first >>= λ x. (second x >>= λ _. Ok (f x))) >>= last) ≡ (first >>= λ x. (second x >>= λ _. last (f x)))
then-then (Ok x) second f last = by (second x)
  where
    by : (t : Typed (Unit {0})) → ((t >>= λ _. Ok (f x)) >>= last) ≡ (t >>= λ _. last (f x))
    by (Ok done) = refl
    by (Err kind) = refl
then-then (Err kind) second f last = refl

steps-first : (unit : ModuleTree) (step : Call) (others : List Call) → steps_lead unit (step ∷ others) ≡ (step_leads unit step >>= λ inner. steps_lead inner others)
unfolding step_leads steps_lead
steps-first unit step others = sym (then-then (ok_or (inner_named unit step.name) no_such_call) (λ inner. index_types inner.count step.index) (λ inner. inner.tree) (λ inner. steps_lead inner others))

pub steps-more : (unit inner : ModuleTree) (all others : List Call) (step : Call) → all ≡ step ∷ others → step_leads unit step ≡ Ok inner → steps_lead inner others ≡ steps_lead unit all
steps-more unit inner all others step is leads = sym (ap (steps_lead unit) is ∙ (steps-first unit step others ∙ ap (λ (t : Typed ModuleTree). t >>= λ inner. steps_lead inner others) leads))

pub steps-fail : (unit : ModuleTree) (kind : ScriptKind) (all others : List Call) (step : Call) → all ≡ step ∷ others → step_leads unit step ≡ Err kind → Err kind ≡ steps_lead unit all
steps-fail unit kind all others step is fails = sym (ap (steps_lead unit) is ∙ (steps-first unit step others ∙ ap (λ (t : Typed ModuleTree). t >>= λ inner. steps_lead inner others) fails))

pub steps-done : (unit : ModuleTree) (all : List Call) → length all ≡ 0 → Ok unit ≡ steps_lead unit all
unfolding steps_lead
steps-done unit all is = rw (none-left all is) refl

-- ---- fields

-- what a field of a register answers: a `find` among what its readers come to, against one among the readers
read-found : (unit : RegisterModule) (readers : List Reader) (name : List ℕ) → find (λ reader. bytes_eq name reader.name) (map (read_field unit) readers) ≡ option_map (read_field unit) (find (λ reader. bytes_eq name reader.name) readers)
read-found unit [] name = refl
read-found unit (reader ∷ readers) name = by (bytes_eq name reader.name) (read-found unit readers name)
  where
    by : (b : Bool) → find (λ reader. bytes_eq name reader.name) (map (read_field unit) readers) ≡ option_map (read_field unit) (find (λ reader. bytes_eq name reader.name) readers)
        → (if b then Some (read_field unit reader) else find (λ reader. bytes_eq name reader.name) (map (read_field unit) readers)) ≡ option_map (read_field unit) (if b then Some reader else find (λ reader. bytes_eq name reader.name) readers)
    by true more = refl
    by false more = more

write-found : (unit : RegisterModule) (writers : List Writer) (name : List ℕ) → find (λ writer. bytes_eq name writer.name) (map (write_field unit) writers) ≡ option_map (write_field unit) (find (λ writer. bytes_eq name writer.name) writers)
write-found unit [] name = refl
write-found unit (writer ∷ writers) name = by (bytes_eq name writer.name) (write-found unit writers name)
  where
    by : (b : Bool) → find (λ writer. bytes_eq name writer.name) (map (write_field unit) writers) ≡ option_map (write_field unit) (find (λ writer. bytes_eq name writer.name) writers)
        → (if b then Some (write_field unit writer) else find (λ writer. bytes_eq name writer.name) (map (write_field unit) writers)) ≡ option_map (write_field unit) (if b then Some writer else find (λ writer. bytes_eq name writer.name) writers)
    by true more = refl
    by false more = more

-- what a word tells of what it comes to
ok-mapped : {A B : Type 0} (f : A → B) (kind : ScriptKind) (o : Option A) → (ok_or o kind >>= λ x. Ok (f x)) ≡ ok_or (option_map f o) kind
ok-mapped f kind (Some x) = refl
ok-mapped f kind None = refl

-- what a read call of the surface gives is what the register's reader gives
pub read-type : (unit : RegisterModule) (field : Call) (method : List ℕ) → (read_call (register_calls unit) field method >>= λ call. Ok call.gives) ≡ read_type unit field method
unfolding register_calls read_type given
read-type unit field method =
    ap (λ (o : Option ReadField). (ok_or o no_such_call >>= λ found. (index_types found.count field.index >>= λ _. ok_or (find (λ call. bytes_eq method call.name) found.calls) no_such_call)) >>= λ call. Ok call.gives) (read-found unit (readers_of unit) field.name)
    ∙ by (find (λ reader. bytes_eq field.name reader.name) (readers_of unit))
  where
    within : (reader : Reader) (t : Typed (Unit {0})) → ((t >>= λ _. ok_or (find (λ call. bytes_eq method call.name) (read_calls unit reader reader.form)) no_such_call) >>= λ call. Ok call.gives)
        ≡ (t >>= λ _. ok_or (option_map (λ call. call.gives) (find (λ call. bytes_eq method call.name) (read_calls unit reader reader.form))) no_such_call)
    within reader (Ok done) = ok-mapped (λ (call : ReadCall). call.gives) no_such_call (find (λ call. bytes_eq method call.name) (read_calls unit reader reader.form))
    within reader (Err kind) = refl

    by : (o : Option Reader) → ((ok_or (option_map (read_field unit) o) no_such_call >>= λ found. (index_types found.count field.index >>= λ _. ok_or (find (λ call. bytes_eq method call.name) found.calls) no_such_call)) >>= λ call. Ok call.gives)
        ≡ (ok_or o no_such_call >>= λ reader. (index_types (read_count reader.form) field.index >>= λ _. ok_or (option_map (λ call. call.gives) (find (λ call. bytes_eq method call.name) (read_calls unit reader reader.form))) no_such_call))
    by None = refl
    by (Some reader) = within reader (index_types (read_count reader.form) field.index)

pub write-type : (unit : RegisterModule) (field : Call) (method : List ℕ) → (write_call (register_calls unit) field method >>= λ call. Ok call.takes) ≡ write_type unit field method
unfolding register_calls write_type taken
write-type unit field method =
    ap (λ (o : Option WriteField). (ok_or o no_such_call >>= λ found. (index_types found.count field.index >>= λ _. ok_or (find (λ call. bytes_eq method call.name) found.calls) no_such_call)) >>= λ call. Ok call.takes) (write-found unit (writers_of unit) field.name)
    ∙ by (find (λ writer. bytes_eq field.name writer.name) (writers_of unit))
  where
    within : (writer : Writer) (t : Typed (Unit {0})) → ((t >>= λ _. ok_or (find (λ call. bytes_eq method call.name) (write_calls unit writer writer.form)) no_such_call) >>= λ call. Ok call.takes)
        ≡ (t >>= λ _. ok_or (option_map (λ call. call.takes) (find (λ call. bytes_eq method call.name) (write_calls unit writer writer.form))) no_such_call)
    within writer (Ok done) = ok-mapped (λ (call : WriteCall). call.takes) no_such_call (find (λ call. bytes_eq method call.name) (write_calls unit writer writer.form))
    within writer (Err kind) = refl

    by : (o : Option Writer) → ((ok_or (option_map (write_field unit) o) no_such_call >>= λ found. (index_types found.count field.index >>= λ _. ok_or (find (λ call. bytes_eq method call.name) found.calls) no_such_call)) >>= λ call. Ok call.takes)
        ≡ (ok_or o no_such_call >>= λ writer. (index_types (write_count writer.form) field.index >>= λ _. ok_or (option_map (λ call. call.takes) (find (λ call. bytes_eq method call.name) (write_calls unit writer writer.form))) no_such_call))
    by None = refl
    by (Some writer) = within writer (index_types (write_count writer.form) field.index)

-- the two words of a method, one after the other
pub read-fails : (unit : RegisterModule) (field : Call) (method : List ℕ) (reader : Reader) (kind : ScriptKind)
    → find (λ reader. bytes_eq field.name reader.name) (readers_of unit) ≡ Some reader → index_types (read_count reader.form) field.index ≡ Err kind → Err kind ≡ read_type unit field method
unfolding read_type
read-fails unit field method reader kind is fails = rw is (rw fails refl)

pub read-gives : (unit : RegisterModule) (field : Call) (method : List ℕ) (reader : Reader) (o : Option ValueType)
    → find (λ reader. bytes_eq field.name reader.name) (readers_of unit) ≡ Some reader → index_types (read_count reader.form) field.index ≡ Ok tt → given unit reader method ≡ o → ok_or o no_such_call ≡ read_type unit field method
unfolding read_type
read-gives unit field method reader o is fits gives = rw is (rw (fits, gives) refl)

pub read-none : (unit : RegisterModule) (field : Call) (method : List ℕ)
    → find (λ reader. bytes_eq field.name reader.name) (readers_of unit) ≡ None → Err no_such_call ≡ read_type unit field method
unfolding read_type
read-none unit field method is = rw is refl

pub write-fails : (unit : RegisterModule) (field : Call) (method : List ℕ) (writer : Writer) (kind : ScriptKind)
    → find (λ writer. bytes_eq field.name writer.name) (writers_of unit) ≡ Some writer → index_types (write_count writer.form) field.index ≡ Err kind → Err kind ≡ write_type unit field method
unfolding write_type
write-fails unit field method writer kind is fails = rw is (rw fails refl)

pub write-takes : (unit : RegisterModule) (field : Call) (method : List ℕ) (writer : Writer) (o : Option (Option ValueType))
    → find (λ writer. bytes_eq field.name writer.name) (writers_of unit) ≡ Some writer → index_types (write_count writer.form) field.index ≡ Ok tt → taken unit writer method ≡ o → ok_or o no_such_call ≡ write_type unit field method
unfolding write_type
write-takes unit field method writer o is fits takes = rw is (rw (fits, takes) refl)

pub write-none : (unit : RegisterModule) (field : Call) (method : List ℕ)
    → find (λ writer. bytes_eq field.name writer.name) (writers_of unit) ≡ None → Err no_such_call ≡ write_type unit field method
unfolding write_type
write-none unit field method is = rw is refl

-- ---- sources and links

pub source-bits : (names : Names) (reader : List ℕ) (unit : RegisterModule) → name_of names reader ≡ Some (register_calls unit) → Ok (number unit.word) ≡ source_type names (source.Bits reader)
unfolding register_calls
source-bits names reader unit is = rw is refl

pub source-field : (names : Names) (reader : List ℕ) (field : Call) (method : List ℕ) (unit : RegisterModule) → name_of names reader ≡ Some (register_calls unit) → read_type unit field method ≡ source_type names (source.Field reader field method)
source-field names reader field method unit is = rw is (sym (read-type unit field method))

pub link-bits : (names : Names) (unit : RegisterModule) (value : Value) → value_types names (just (number unit.word)) value ≡ link_types names (register_calls unit) (link.Bits value)
unfolding register_calls
link-bits names unit value = refl

pub link-field : (names : Names) (unit : RegisterModule) (field : Call) (method : List ℕ) (value : Option Value) (takes : Option ValueType)
    → write_type unit field method ≡ Ok takes → argument_types names takes value ≡ link_types names (register_calls unit) (link.Field field method value)
link-field names unit field method value takes is =
    ap (λ (t : Typed (Option ValueType)). t >>= λ takes. argument_types names takes value) (sym is ∙ sym (write-type unit field method)) ∙ by (write_call (register_calls unit) field method)
  where
    by : (t : Typed WriteCall) → ((t >>= λ call. Ok call.takes) >>= λ takes. argument_types names takes value) ≡ (t >>= λ call. argument_types names call.takes value)
    by (Ok call) = refl
    by (Err kind) = refl

pub link-fails : (names : Names) (unit : RegisterModule) (field : Call) (method : List ℕ) (value : Option Value) (kind : ScriptKind)
    → write_type unit field method ≡ Err kind → Err kind ≡ link_types names (register_calls unit) (link.Field field method value)
link-fails names unit field method value kind is =
    ap (λ (t : Typed (Option ValueType)). t >>= λ takes. argument_types names takes value) (sym is ∙ sym (write-type unit field method)) ∙ by (write_call (register_calls unit) field method)
  where
    by : (t : Typed WriteCall) → ((t >>= λ call. Ok call.takes) >>= λ takes. argument_types names takes value) ≡ (t >>= λ call. argument_types names call.takes value)
    by (Ok call) = refl
    by (Err kind) = refl

pub chain-more : (names : Names) (register : RegisterCalls) (all others : List Link) (first : Link) → all ≡ first ∷ others → link_types names register first ≡ Ok tt → chain_types names register others ≡ chain_types names register all
unfolding chain_types
chain-more names register all others first is types = rw is (rw types refl)

pub chain-fails : (names : Names) (register : RegisterCalls) (all others : List Link) (first : Link) (kind : ScriptKind) → all ≡ first ∷ others → link_types names register first ≡ Err kind → Err kind ≡ chain_types names register all
unfolding chain_types
chain-fails names register all others first kind is fails = rw is (rw fails refl)

pub chain-done : (names : Names) (register : RegisterCalls) (all : List Link) → length all ≡ 0 → Ok tt ≡ chain_types names register all
unfolding chain_types
chain-done names register all is = rw (none-left all is) refl
