-- What the functions of script typing answer, as the definitions of frag_sem have it.
use Rattle.std.specs.Prelude.{ℕ, ◌≡◌, Bool, not, ◌||◌, List, ◌∷◌, map, Option, Some, None, Result, Ok, Err, ok_or}
use Rattle.std.specs.Borrow.{Bor}
use Rattle.std.specs.List.{list_any}
use Rattle.std.specs.Str.{bytes_eq}
use Rattle.frag_script.specs.declared.fault.ScriptTyping.{ScriptTyping}
use Rattle.frag_sem.specs.PlaceTyping.{call_leads, inner_named, module_scope}
use Rattle.frag_sem.specs.ScriptTyping.{Names, Scope, Typed, ◌>>=◌, Wanted, anything, just, can_modify, can_read, can_write, chain_types, holds_or, index_types, name_of, names_within, no_such_call, reader_name, rebound, writer_name}
use Rattle.frag_sem.specs.Surfaces.{RegisterCalls, number, truth}
use Rattle.frag_sem.specs.Surfaces.{ValueType as SurfaceType}
use Rattle.frag_sem.specs.TextSurface.{register_calls}
use Rattle.frag_tree.specs.declared.register.RegisterModule.{RegisterModule}
use Rattle.frag_tree.specs.declared.statement.Call.{Call}
use Rattle.frag_tree.specs.declared.statement.Link.{Link}
use Rattle.frag_tree.specs.declared.statement.Place.{Place}
use Rattle.frag_tree.specs.declared.statement.Statement.{Statement}
use Rattle.frag_tree.specs.declared.statement.Statement.TheVariants as statement
use Rattle.frag_tree.specs.Trees.{CrateTree, ModuleTree}
use Rattle.frag_types.specs.Refusals.{script_kind}
use Rattle.frag_types.specs.declared.names.Names.{Names as NamesHeld}
use Rattle.frag_types.specs.declared.place.Use.{Use}
use Rattle.frag_types.specs.declared.place.Use.TheVariants as used
use Rattle.frag_types.specs.declared.value_type.ValueType.{ValueType}
use Rattle.frag_types.specs.declared.value_type.ValueType.TheVariants as value_type
use Rattle.frag_types.specs.declared.value_type.Wanted.{Wanted as WantedType}
use Rattle.frag_types.specs.declared.value_type.Wanted.TheVariants as wanted

-- an answer, its value seen so, as what words come to
abbrev pub told : {T A : Type 0} → (T → A) → Result T ScriptTyping → Typed A
told seen (Ok x) = Ok (seen x)
told seen (Err kind) = Err (script_kind kind)

-- an answer without a value
abbrev pub told_held : Result (Unit {0}) ScriptTyping → Typed (Unit {0})
told_held (Ok done) = Ok tt
told_held (Err kind) = Err (script_kind kind)

-- a type of values as surfaces have it
abbrev pub type_seen : ValueType → SurfaceType
type_seen (value_type.Number width) = number width
type_seen value_type.Truth = truth

abbrev pub wanted_seen : WantedType → Wanted
wanted_seen wanted.Anything = anything
wanted_seen (wanted.Just type) = just (type_seen type)

-- what a register that is used so must offer
abbrev pub allowed : Use → RegisterCalls → Bool
allowed used.Read = can_read
allowed used.Write = can_write
allowed used.Modify = can_modify

-- one accessor of a place
unfoldable pub step_leads : ModuleTree → Call → Typed ModuleTree
step_leads unit step = do
  inner ← ok_or (inner_named unit step.name) no_such_call
  _ ← index_types inner.count step.index
  Ok inner.tree

-- the names that are bound, in the order of the script
abbrev pub names_in : List (List ℕ × Bor RegisterModule) → Names
names_in bound = map (λ entry. (entry.0, register_calls entry.1.now)) bound

-- with what a `modify` read, where it has a name
abbrev pub names_and : Option (Bor RegisterModule) → List (List ℕ × Bor RegisterModule) → Names
names_and None bound = names_in bound
names_and (Some read) bound = (reader_name, register_calls read.now) ∷ names_in bound

-- the names that a value may use
abbrev pub names_of : NamesHeld → Names
names_of names = names_and names.read names.bound.now

-- a chain on the register at the end of a place
unfoldable pub chain_leads : CrateTree → Names → (RegisterCalls → Bool) → Place → Bool → List Link → Typed (Unit {0})
chain_leads krate names has_call place names_reader chain = do
  unit ← call_leads has_call krate place
  chain_types (names_within names (register_calls unit) names_reader) (register_calls unit) chain

-- the names that are bound behind a statement: a `let` binds its name to what it reads
abbrev pub bound_behind : Names → Statement → Option (Bor RegisterModule) → Names
bound_behind names statement None = names
bound_behind names (statement.Let name place) (Some unit) = (name, register_calls unit.now) ∷ names
bound_behind names (statement.Write place chain) (Some unit) = names
bound_behind names (statement.WriteWithZero place chain) (Some unit) = names
bound_behind names (statement.Modify place names_reader chain) (Some unit) = names
bound_behind names (statement.Reset place) (Some unit) = names
bound_behind names (statement.Say value) (Some unit) = names

-- each name is bound to the same in both
abbrev pub HaveSame : Names → Names → Type 0
HaveSame one other = (name : List ℕ) → name_of one name ≡ name_of other name

-- a name is bound, a slot, `r` or `w`
abbrev pub is_taken : Scope → Names → List ℕ → Bool
is_taken scope names name = list_any (λ bound. bytes_eq name bound.0) names || (scope.is_slot name || (bytes_eq name reader_name || bytes_eq name writer_name))

-- the register that a `let` reads, if it may bind the name
unfoldable pub let_leads : CrateTree → Names → List ℕ → Place → Typed RegisterModule
let_leads krate names name place = do
  _ ← holds_or rebound (not (is_taken (module_scope krate) names name))
  call_leads can_read krate place

abbrev pub let_of : List ℕ → Place → Statement
let_of name place = statement.Let name place

-- words, whatever they come to
abbrev pub alone : {A : Type 0} → Typed A → Typed (Unit {0})
alone typed = typed >>= λ _. Ok tt

-- words, and then the names as they are
abbrev pub with_names : Names → Typed (Unit {0}) → Typed Names
with_names names typed = typed >>= λ _. Ok names

-- a register, and then the names with one more that is bound to it
abbrev pub with_bound : Names → List ℕ → Typed RegisterModule → Typed Names
with_bound names name typed = typed >>= λ unit. Ok ((name, register_calls unit) ∷ names)
