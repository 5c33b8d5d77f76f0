-- What a script does, whatever stands at its places (this project's own rule). A register counts by what it does with words alone: so the same events come of a crate text and of a table of registers where both do alike.
use Rattle.std.specs.Prelude.{ℕ, ◌%◌, ◌^◌, Bool, true, false, ◌==◌, List, [], ◌∷◌, ◌++◌, drop, find, fold, Option, Some, None}
use Rattle.std.specs.Str.{bytes_eq}
use Rattle.pac_base.specs.declared.width.Width.{Width}
use Rattle.pac_base.specs.Widths.{bits_of}
use Rattle.frag_tree.specs.declared.event.Event.{Event}
use Rattle.frag_tree.specs.declared.event.Event.TheVariants as event
use Rattle.frag_tree.specs.declared.event.Said.{Said}
use Rattle.frag_tree.specs.declared.event.Said.TheVariants.{Number, Truth}
use Rattle.frag_tree.specs.declared.script.Script.{Script}
use Rattle.frag_tree.specs.declared.script.ScriptLine.{ScriptLine}
use Rattle.frag_tree.specs.declared.statement.Atom.{Atom}
use Rattle.frag_tree.specs.declared.statement.Atom.TheVariants as atom
use Rattle.frag_tree.specs.declared.statement.Call.{Call}
use Rattle.frag_tree.specs.declared.statement.Link.{Link}
use Rattle.frag_tree.specs.declared.statement.Link.TheVariants as link
use Rattle.frag_tree.specs.declared.statement.Place.{Place}
use Rattle.frag_tree.specs.declared.statement.Source.{Source}
use Rattle.frag_tree.specs.declared.statement.Source.TheVariants as source
use Rattle.frag_tree.specs.declared.statement.Statement.{Statement}
use Rattle.frag_tree.specs.declared.statement.Statement.TheVariants as statement
use Rattle.frag_tree.specs.declared.statement.Value.{Value}
use Rattle.frag_sem.specs.PreludeWords.{as_bits, bit_of, same_truth}
use Rattle.frag_sem.specs.ScriptTyping.{reader_name}

-- ---- registers

-- What a register does with words of its width: from which word a write starts that is based on a word; what a method of a field gives of a word; and what a method of a field makes of a word, with a value, where it takes one. A field is named with its index, where it has one.
pub record Acts : Type 0 where
  pub width : Width
  pub reset : ℕ
  pub start : ℕ → ℕ
  pub given : List ℕ → Option ℕ → List ℕ → ℕ → Said
  pub put : List ℕ → Option ℕ → List ℕ → ℕ → ℕ → ℕ

-- a register at its address
pub record ActsAt : Type 0 where
  pub address : ℕ
  pub acts : Acts

-- what stands at each place, if anything
abbrev pub Places : Type 0
Places = Place → Option ActsAt

-- Where something isn't there, nothing is done, and it gives 0. Against a crate text that fits, no script that fits comes to that.

-- a name that is bound: its register, and the word that was read
pub record Bound : Type 0 where
  pub name : List ℕ
  pub acts : Acts
  pub word : ℕ

abbrev pub bound_as : List ℕ → List Bound → Option Bound
bound_as name names = find (λ bound. bytes_eq name bound.name) names

-- ---- values

abbrev pub bits_of_bound : Option Bound → Said
bits_of_bound None = Number 0
bits_of_bound (Some bound) = Number bound.word

abbrev pub field_of_bound : Call → List ℕ → Option Bound → Said
field_of_bound field method None = Number 0
field_of_bound field method (Some bound) = bound.acts.given field.name field.index method bound.word

abbrev pub source_value : List Bound → Source → Said
source_value names (source.Bits reader) = bits_of_bound (bound_as reader names)
source_value names (source.Field reader field method) = field_of_bound field method (bound_as reader names)

-- a number or a truth as a number
abbrev pub number_said : Said → ℕ
number_said (Number value) = value
number_said (Truth value) = bit_of value

-- an odd number of `!` turns a truth around
abbrev pub negated : ℕ → Said → Said
negated negations (Number value) = Number value
negated negations (Truth value) = Truth (same_truth (negations % 2 == 0) value)

abbrev pub atom_value : List Bound → Atom → Said
atom_value names (atom.Number value) = Number value
atom_value names (atom.Truth value) = Truth value
atom_value names (atom.Source read) = source_value names read
atom_value names (atom.Cast read width) = Number (as_bits (bits_of width) (number_said (source_value names read)))

unfoldable pub value_of : List Bound → Value → Said
value_of names value = negated value.negations (atom_value names value.atom)

-- ---- chains

-- what stands in the brackets of a call
abbrev pub argument : List Bound → Option Value → ℕ
argument names None = 0
argument names (Some value) = number_said (value_of names value)

-- one link of a chain: `bits` of the writer makes the word its value
abbrev pub link_written : Acts → List Bound → ℕ → Link → ℕ
link_written acts names word (link.Bits value) = as_bits (bits_of acts.width) (number_said (value_of names value))
link_written acts names word (link.Field field method value) = acts.put field.name field.index method (argument names value) word

-- a chain, link by link
abbrev pub chain_written : Acts → List Bound → ℕ → List Link → ℕ
chain_written acts names word chain = fold (link_written acts names) word chain

-- ---- statements

-- what a statement finds: the answers of the bus that are left, and the names that are bound
pub record Standing : Type 0 where
  pub answers : List ℕ
  pub names : List Bound

-- the events of a statement, and what the next one finds
pub record Outcome : Type 0 where
  pub events : List Event
  pub after : Standing

-- the next answer modulo 2^width, or 0 where there is none
abbrev pub next_answer : ℕ → List ℕ → ℕ
next_answer bits [] = 0
next_answer bits (first ∷ others) = first % 2 ^ bits

abbrev pub answer_for : ActsAt → Standing → ℕ
answer_for found standing = next_answer (bits_of found.acts.width) standing.answers

abbrev pub read_event : ActsAt → ℕ → Event
read_event found value = event.Read found.address found.acts.width value

abbrev pub write_event : ActsAt → ℕ → Event
write_event found value = event.Write found.address found.acts.width value

-- one more name for what was read
abbrev pub binding : List ℕ → ActsAt → ℕ → List Bound → List Bound
binding name found word names = record { name = name; acts = found.acts; word = word } ∷ names

-- one read, whose word is bound
abbrev pub let_outcome : List ℕ → Standing → ActsAt → Outcome
let_outcome name standing found = record {
  events = read_event found (answer_for found standing) ∷ [];
  after = record { answers = drop 1 standing.answers; names = binding name found (answer_for found standing) standing.names };
}

-- one write of the chain, applied to this word
abbrev pub write_outcome : List Link → Standing → ActsAt → ℕ → Outcome
write_outcome chain standing found word = record {
  events = write_event found (chain_written found.acts standing.names word chain) ∷ [];
  after = standing;
}

-- the names within the chain of a `modify`, which may name what it read
abbrev pub names_within : Bool → ActsAt → ℕ → List Bound → List Bound
names_within true found word names = binding reader_name found word names
names_within false found word names = names

-- one read, and one write of the chain applied to the word that starts from what was read
abbrev pub modify_outcome : Bool → List Link → Standing → ActsAt → Outcome
modify_outcome names_reader chain standing found = record {
  events =
      read_event found (answer_for found standing) ∷
      write_event found (chain_written found.acts (names_within names_reader found (answer_for found standing) standing.names) (found.acts.start (answer_for found standing)) chain) ∷ [];
  after = record { answers = drop 1 standing.answers; names = standing.names };
}

-- one write of the reset word
abbrev pub reset_outcome : Standing → ActsAt → Outcome
reset_outcome standing found = record { events = write_event found found.acts.reset ∷ []; after = standing }

abbrev pub say_outcome : Value → Standing → Outcome
say_outcome value standing = record { events = event.Say (value_of standing.names value) ∷ []; after = standing }

-- what is done at a place
abbrev pub at_place : Option ActsAt → Standing → (ActsAt → Outcome) → Outcome
at_place None standing outcome = record { events = []; after = standing }
at_place (Some found) standing outcome = outcome found

unfoldable pub outcome_of : Places → Standing → Statement → Outcome
outcome_of places standing (statement.Let name place) = at_place (places place) standing (let_outcome name standing)
outcome_of places standing (statement.Write place chain) = at_place (places place) standing (λ found. write_outcome chain standing found (found.acts.start found.acts.reset))
outcome_of places standing (statement.WriteWithZero place chain) = at_place (places place) standing (λ found. write_outcome chain standing found 0)
outcome_of places standing (statement.Modify place names_reader chain) = at_place (places place) standing (modify_outcome names_reader chain standing)
outcome_of places standing (statement.Reset place) = at_place (places place) standing (reset_outcome standing)
outcome_of places standing (statement.Say value) = say_outcome value standing

-- ---- scripts

-- the events of a statement, and then those of the lines behind it
abbrev pub events_then : Outcome → (Standing → List Event) → List Event
events_then outcome others = outcome.events ++ others outcome.after

unfoldable pub lines_meaning : Places → List ScriptLine → Standing → List Event
lines_meaning places [] standing = []
lines_meaning places (first ∷ others) standing = events_then (outcome_of places standing first.statement) (lines_meaning places others)

-- The events of a script, where the k-th read gives the k-th answer.
unfoldable pub meaning : Places → Script → List ℕ → List Event
meaning places script answers = lines_meaning places script.lines (record { answers = answers; names = [] })
