-- Which scripts fit a surface, and the first fault of one that doesn't (this project's own rule, after what Rust asks of such calls). The words of a statement are gone through from left to right, and the first at which a rule fails decides.
use Rattle.std.specs.Prelude.{ℕ, ◌^◌, Bool, true, false, not, ◌&&◌, ◌||◌, ◌==◌, nat_lt, List, [], ◌∷◌, codes, filter_map, find, Option, Some, None, Result, Ok, Err, ok_or, option_map, if◌then◌else◌}
use Rattle.std.specs.List.{list_any}
use Rattle.std.specs.Str.{bytes_eq}
use Rattle.pac_base.specs.declared.width.Width.{Width}
use Rattle.pac_base.specs.declared.width.Width.TheVariants.{W64}
use Rattle.pac_base.specs.Widths.{bits_of}
use Rattle.frag_tree.specs.declared.script.Script.{Script}
use Rattle.frag_tree.specs.declared.script.ScriptLine.{ScriptLine}
use Rattle.frag_tree.specs.declared.statement.Atom.{Atom}
use Rattle.frag_tree.specs.declared.statement.Atom.TheVariants as atom
use Rattle.frag_tree.specs.declared.statement.Link.{Link}
use Rattle.frag_tree.specs.declared.statement.Link.TheVariants as link
use Rattle.frag_tree.specs.declared.statement.Place.{Place}
use Rattle.frag_tree.specs.declared.statement.Call.{Call}
use Rattle.frag_tree.specs.declared.statement.Source.{Source}
use Rattle.frag_tree.specs.declared.statement.Source.TheVariants as source
use Rattle.frag_tree.specs.declared.statement.Statement.{Statement}
use Rattle.frag_tree.specs.declared.statement.Statement.TheVariants as statement
use Rattle.frag_tree.specs.declared.statement.Value.{Value}
use Rattle.frag_sem.specs.ProxyTypes.{same_width}
use Rattle.frag_sem.specs.Surfaces.{Below, Entry, ReadCall, RegisterCalls, Step, Surface, ValueType, number, truth, WriteCall}

-- Why a statement doesn't fit.
pub data ScriptKind : Type 0 where
  no_such_name : ScriptKind
  no_such_call : ScriptKind
  wrong_type : ScriptKind
  index_range : ScriptKind
  literal_range : ScriptKind
  rebound : ScriptKind

-- what words come to, or the first fault in them
abbrev pub Typed : Type 0 → Type 0
Typed A = Result A ScriptKind

-- words, and then those behind them
infixl 10 ◌>>=◌
abbrev pub ◌>>=◌ : {A B : Type 0} → Typed A → (A → Typed B) → Typed B
(Ok x) >>= others = others x
(Err kind) >>= others = Err kind

-- a word at which this rule has to hold
abbrev pub holds_or : ScriptKind → Bool → Typed (Unit {0})
holds_or kind true = Ok tt
holds_or kind false = Err kind

-- the names that are bound, each with its register
abbrev pub Names : Type 0
Names = List (List ℕ × RegisterCalls)

abbrev pub name_of : Names → List ℕ → Option RegisterCalls
name_of names name = option_map (λ bound. bound.1) (find (λ bound. bytes_eq name bound.0) names)

-- ---- places

-- what stands in a slot
abbrev pub in_slot : List ℕ → Entry → Option Below
in_slot slot entry = if bytes_eq slot entry.slot then Some entry.below else None

abbrev pub below_slot : Surface → List ℕ → List Below
below_slot surface slot = filter_map (in_slot slot) surface

-- the first accessor of an entry
abbrev pub first_step : List Step → Option Step
first_step [] = None
first_step (step ∷ others) = Some step

-- the accessor that has the name, among the first ones
abbrev pub step_named : List ℕ → List Below → Option Step
step_named name entries = find (λ step. bytes_eq name step.name) (filter_map (λ below. first_step below.steps) entries)

-- what stands behind the accessor that has the name, seen from there
abbrev pub without_step : List ℕ → Option RegisterCalls → List Step → Option Below
without_step name register [] = None
without_step name register (step ∷ others) = if bytes_eq name step.name then Some (record { steps = others; register = register }) else None

abbrev pub behind : List ℕ → List Below → List Below
behind name entries = filter_map (λ below. without_step name below.register below.steps) entries

-- An accessor or a field takes an index just where it has a count; and the index, which stands behind its name, is below that.
abbrev pub index_types : Option ℕ → Option ℕ → Typed (Unit {0})
index_types None None = Ok tt
index_types None (Some index) = Err wrong_type
index_types (Some count) None = Err wrong_type
index_types (Some count) (Some index) = holds_or index_range (nat_lt index count)

-- what stands at the end of accessors
unfoldable pub steps_type : List Below → List Call → Typed (List Below)
steps_type entries [] = Ok entries
steps_type entries (step ∷ steps) = do
  found ← ok_or (step_named step.name entries) no_such_call
  _ ← index_types found.count step.index
  steps_type (behind step.name entries) steps

abbrev pub is_slot : Surface → List ℕ → Bool
is_slot surface name = list_any (λ entry. bytes_eq name entry.slot) surface

-- a place begins with a slot
abbrev pub place_types : Surface → Place → Typed (List Below)
place_types surface place = do
  _ ← holds_or no_such_name (is_slot surface place.slot)
  steps_type (below_slot surface place.slot) place.steps

-- the entry itself, if it is a register
abbrev pub itself : Option RegisterCalls → List Step → Option RegisterCalls
itself register [] = register
itself register (step ∷ others) = None

abbrev pub registers_here : List Below → List RegisterCalls
registers_here entries = filter_map (λ below. itself below.register below.steps) entries

-- a register call stands at the end of a place, and the register has it
unfoldable pub call_types : (RegisterCalls → Bool) → Surface → Place → Typed RegisterCalls
call_types has_call surface place = do
  entries ← place_types surface place
  ok_or (find has_call (registers_here entries)) no_such_call

-- ---- values

-- what is wanted of a value: anything, in `say`, where a number has the type u64; or a type
pub data Wanted : Type 0 where
  anything : Wanted
  just : ValueType → Wanted

abbrev pub same_value_type : ValueType → ValueType → Bool
same_value_type (number one) (number other) = same_width one other
same_value_type (number one) truth = false
same_value_type truth (number other) = false
same_value_type truth truth = true

-- a value of this type stands where that is wanted
abbrev pub type_fits : Wanted → ValueType → Typed (Unit {0})
type_fits anything type = Ok tt
type_fits (just wanted) type = holds_or wrong_type (same_value_type wanted type)

abbrev pub literal_fits : Width → ℕ → Typed (Unit {0})
literal_fits width value = holds_or literal_range (nat_lt value (2 ^ bits_of width))

-- a literal has the type that is wanted
abbrev pub literal_types : Wanted → ℕ → Typed (Unit {0})
literal_types anything value = literal_fits W64 value
literal_types (just (number width)) value = literal_fits width value
literal_types (just truth) value = Err wrong_type

-- a method of a field that can be read
abbrev pub read_call : RegisterCalls → Call → List ℕ → Typed ReadCall
read_call register field method = do
  found ← ok_or (find (λ reader. bytes_eq field.name reader.name) register.readers) no_such_call
  _ ← index_types found.count field.index
  ok_or (find (λ call. bytes_eq method call.name) found.calls) no_such_call

-- the type of what a bound name gives
abbrev pub source_type : Names → Source → Typed ValueType
source_type names (source.Bits reader) = do
  register ← ok_or (name_of names reader) no_such_name
  Ok (number register.width)
source_type names (source.Field reader field method) = do
  register ← ok_or (name_of names reader) no_such_name
  call ← read_call register field method
  Ok call.gives

abbrev pub is_number : ValueType → Bool
is_number (number width) = true
is_number truth = false

abbrev pub atom_types : Names → Wanted → Atom → Typed (Unit {0})
atom_types names wanted (atom.Number value) = literal_types wanted value
atom_types names wanted (atom.Truth value) = type_fits wanted truth
atom_types names wanted (atom.Source read) = do
  type ← source_type names read
  type_fits wanted type
atom_types names wanted (atom.Cast read width) = do
  type ← source_type names read
  _ ← holds_or wrong_type (is_number type)
  type_fits wanted (number width)

-- behind `!` a truth is wanted, and gives one
unfoldable pub value_types : Names → Wanted → Value → Typed (Unit {0})
value_types names wanted value =
    if value.negations == 0 then atom_types names wanted value.atom
    else (atom_types names (just truth) value.atom >>= λ _. type_fits wanted truth)

-- ---- chains

-- a method has a value just where it takes one
abbrev pub argument_types : Names → Option ValueType → Option Value → Typed (Unit {0})
argument_types names None None = Ok tt
argument_types names None (Some value) = Err wrong_type
argument_types names (Some type) None = Err wrong_type
argument_types names (Some type) (Some value) = value_types names (just type) value

-- a method of a field that can be written
abbrev pub write_call : RegisterCalls → Call → List ℕ → Typed WriteCall
write_call register field method = do
  found ← ok_or (find (λ writer. bytes_eq field.name writer.name) register.writers) no_such_call
  _ ← index_types found.count field.index
  ok_or (find (λ call. bytes_eq method call.name) found.calls) no_such_call

-- the whole word is a number of the register's width
abbrev pub link_types : Names → RegisterCalls → Link → Typed (Unit {0})
link_types names register (link.Bits value) = value_types names (just (number register.width)) value
link_types names register (link.Field field method value) = do
  call ← write_call register field method
  argument_types names call.takes value

unfoldable pub chain_types : Names → RegisterCalls → List Link → Typed (Unit {0})
chain_types names register [] = Ok tt
chain_types names register (first ∷ others) = do
  _ ← link_types names register first
  chain_types names register others

-- ---- scopes

-- What a script may call: which names are slots; and of which register a call is that stands at the end of a place, or the first fault of the place.
pub record Scope : Type 0 where
  pub is_slot : List ℕ → Bool
  pub call : (RegisterCalls → Bool) → Place → Typed RegisterCalls

abbrev pub surface_scope : Surface → Scope
surface_scope surface = record { is_slot = is_slot surface; call = λ has_call place. call_types has_call surface place }

-- ---- statements

-- the reader of `modify`, and the writer
abbrev pub reader_name : List ℕ
reader_name = codes "r"

abbrev pub writer_name : List ℕ
writer_name = codes "w"

-- a name that a `let` may bind: none that is bound, no slot, neither `r` nor `w`
abbrev pub is_new : Scope → Names → List ℕ → Bool
is_new scope names name = not (list_any (λ bound. bytes_eq name bound.0) names || (scope.is_slot name || (bytes_eq name reader_name || bytes_eq name writer_name)))

-- the names within the chain of a `modify`, which may name what it read
abbrev pub names_within : Names → RegisterCalls → Bool → Names
names_within names register true = (reader_name, register) ∷ names
names_within names register false = names

abbrev pub can_read : RegisterCalls → Bool
can_read register = register.readable

abbrev pub can_write : RegisterCalls → Bool
can_write register = register.writable

abbrev pub can_modify : RegisterCalls → Bool
can_modify register = register.readable && register.writable

-- a statement, and the names that are bound behind it
unfoldable pub statement_types : Scope → Names → Statement → Typed Names
statement_types scope names (statement.Let name place) = do
  _ ← holds_or rebound (is_new scope names name)
  register ← scope.call can_read place
  Ok ((name, register) ∷ names)
statement_types scope names (statement.Write place chain) = do
  register ← scope.call can_write place
  _ ← chain_types names register chain
  Ok names
statement_types scope names (statement.WriteWithZero place chain) = do
  register ← scope.call can_write place
  _ ← chain_types names register chain
  Ok names
statement_types scope names (statement.Modify place names_reader chain) = do
  register ← scope.call can_modify place
  _ ← chain_types (names_within names register names_reader) register chain
  Ok names
statement_types scope names (statement.Reset place) = do
  _ ← scope.call can_write place
  Ok names
statement_types scope names (statement.Say value) = do
  _ ← value_types names anything value
  Ok names

-- ---- scripts

-- the first line that doesn't fit, and why
pub record LineFault : Type 0 where
  pub line : ℕ
  pub kind : ScriptKind

-- a line, and then those behind it with the names that are bound there
abbrev pub line_fault : ℕ → Typed Names → (Names → Option LineFault) → Option LineFault
line_fault line (Ok names) others = others names
line_fault line (Err kind) others = Some (record { line = line; kind = kind })

unfoldable pub lines_fault : Scope → List ScriptLine → Names → Option LineFault
lines_fault scope [] names = None
lines_fault scope (first ∷ others) names = line_fault first.line (statement_types scope names first.statement) (lines_fault scope others)

-- the first fault of a script against a surface; none where it fits
unfoldable pub script_fault : Surface → Script → Option LineFault
script_fault surface script = lines_fault (surface_scope surface) script.lines []
