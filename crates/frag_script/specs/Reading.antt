-- Reading the tokens of a statement from left to right: what each function of the reader gives, on lists.
use Rattle.std.specs.Prelude.{ℕ, zero, suc, ◌≡◌, ◌+◌, nat_le, Bool, true, false, ◌==◌, List, [], ◌∷◌, ◌++◌, length, Option, Some, None, Result, Ok, Err, if◌then◌else◌}
use Rattle.std.specs.Str.{bytes_eq}
use Rattle.text_scan.specs.Steps.{◌>>=◌}
use Rattle.frag_words.specs.Words.{Word}
use Rattle.rust_names.specs.Identifiers.{is_identifier}
use Rattle.frag_tree.specs.declared.script.ScriptLine.{ScriptLine}
use Rattle.frag_tree.specs.declared.statement.Atom.{Atom}
use Rattle.frag_tree.specs.declared.statement.Atom.TheVariants as atom
use Rattle.frag_tree.specs.declared.statement.Link.{Link}
use Rattle.frag_tree.specs.declared.statement.Link.TheVariants as link
use Rattle.frag_tree.specs.declared.statement.Place.{Place}
use Rattle.frag_tree.specs.declared.statement.Call.{Call}
use Rattle.frag_tree.specs.declared.statement.Source.{Source}
use Rattle.frag_tree.specs.declared.statement.Source.TheVariants as source
use Rattle.frag_tree.specs.declared.statement.Statement.{Statement}
use Rattle.frag_tree.specs.declared.statement.Statement.TheVariants as statement
use Rattle.frag_tree.specs.declared.statement.Value.{Value}
use Rattle.pac_base.specs.declared.width.Width.{Width}
use Rattle.pac_base.specs.declared.width.Width.TheVariants.{W8, W16, W32, W64}
use Rattle.frag_script.specs.declared.closure.Parameters.{Parameters}
use Rattle.frag_script.specs.declared.closure.Parameters.TheVariants.{Writer, ReaderAndWriter}
use Rattle.frag_script.specs.declared.fault.LineFault.{LineFault}
use Rattle.frag_script.specs.declared.fault.LineFault.TheVariants.{NotAStatement, Memory}
use Rattle.frag_script.specs.declared.fixed.Fixed.{Fixed}
use Rattle.frag_script.specs.declared.fixed.Fixed.TheVariants.{Let, Say, Read, Write, WriteWithZero, Modify, Reset, Bits, As, ReaderName, WriterName, NoName, Truth, NumberType, Equals, Dot, Comma, Bar, Negation, Opener, Closer, Semicolon}
use Rattle.frag_script.specs.declared.part.Part.{Part}
use Rattle.frag_script.specs.declared.part.Part.TheVariants.{Item, End}
use Rattle.frag_script.specs.declared.place.Ending.{Ending}
use Rattle.frag_script.specs.declared.place.Ending.TheVariants.{Plain, Closure}
use Rattle.frag_script.specs.FixedWords.{text_of}
use Rattle.frag_script.specs.ScriptLines.{line_tokens, lines_of, put_at}
use Rattle.frag_script.specs.Tokens.{Token, number, plain}

-- Reading gives nothing, or memory ran out.
abbrev pub Fails : {Y : Type 0} → LineFault → Option Y → Type 0
Fails NotAStatement read = read ≡ None
Fails Memory read = Unit {0}

-- What a function returned, seen by `view`, is what reading gives, unless memory ran out.
abbrev pub Gives : {X Y : Type 0} → (X → Y) → Result X LineFault → Option Y → Type 0
Gives view (Ok x) read = read ≡ Some (view x)
Gives view (Err fault) read = Fails fault read

-- what was read at the front of a text, and what follows it
abbrev pub Found : Type 0 → Type 0
Found A = Option (A × List Token)

-- ---- one token

abbrev pub is_fixed : Fixed → Token → Bool
is_fixed word (number value) = false
is_fixed word (plain text) = bytes_eq text (text_of word)

unfoldable pub expects : Fixed → List Token → Option (List Token)
expects word [] = None
expects word (token ∷ rest) = if is_fixed word token then Some rest else None

abbrev pub name_of : Token → List Token → Found Word
name_of (number value) rest = None
name_of (plain word) rest = if is_identifier word then Some (word, rest) else None

unfoldable pub name_at : List Token → Found Word
name_at [] = None
name_at (token ∷ rest) = name_of token rest

abbrev pub value_of : Token → List Token → Found ℕ
value_of (number value) rest = Some (value, rest)
value_of (plain word) rest = None

unfoldable pub number_at : List Token → Found ℕ
number_at [] = None
number_at (token ∷ rest) = value_of token rest

-- `( )`
unfoldable pub empty_at : List Token → Option (List Token)
empty_at text = do
  inside ← expects Opener text
  expects Closer inside

-- ---- runs: items, and what ends them

abbrev pub gone_on : {X E : Type 0} → Part X E → List Token → (List Token → Found (List X × E)) → Found (List X × E)
gone_on (End end) rest others = Some (([], end), rest)
gone_on (Item item) rest others = others rest >>= λ more. Some ((item ∷ more.0.0, more.0.1), more.1)

-- a run of at most so many parts
unfoldable pub run_up_to : {X E : Type 0} → (List Token → Found (Part X E)) → ℕ → List Token → Found (List X × E)
run_up_to part_at zero text = None
run_up_to part_at (suc most) text = part_at text >>= λ part. gone_on part.0 part.1 (run_up_to part_at most)

-- a run: no part is empty, so a text has no more than tokens
unfoldable pub run_at : {X E : Type 0} → (List Token → Found (Part X E)) → List Token → Found (List X × E)
run_at part_at text = run_up_to part_at (length text) text

-- ---- places

-- `NUMBER )`
unfoldable pub index_at : List Token → Found ℕ
index_at text = do
  index ← number_at text
  rest ← expects Closer index.1
  Some (index.0, rest)

-- behind `. ID ( )`: with `;` it ends the place
abbrev pub closed_call : Word → Option (List Token) → List Token → Found (Part Call Ending)
closed_call name (Some rest) text = Some (End (Plain name), rest)
closed_call name None text = Some (Item (record { name = name; index = None }), text)

-- behind `. ID (`
abbrev pub opened_call : Word → Option (List Token) → List Token → Found (Part Call Ending)
opened_call name (Some rest) text = closed_call name (expects Semicolon rest) rest
opened_call name None text = do
  index ← index_at text
  Some (Item (record { name = name; index = Some index.0 }), index.1)

-- behind `. ID (`: with `|` it ends the place
abbrev pub any_call : Word → Option (List Token) → List Token → Found (Part Call Ending)
any_call name (Some rest) text = Some (End (Closure name), rest)
any_call name None text = opened_call name (expects Closer text) text

unfoldable pub call_at : List Token → Found (Part Call Ending)
call_at text = do
  rest ← expects Dot text
  name ← name_at rest
  inside ← expects Opener name.1
  any_call name.0 (expects Bar inside) inside

-- a place, and the call that ends it
unfoldable pub place_at : List Token → Found (Place × Ending)
place_at text = do
  slot ← name_at text
  run ← run_at call_at slot.1
  if length run.0.0 == 0 then None else Some ((record { slot = slot.0; steps = run.0.0 }, run.0.1), run.1)

-- ---- fields

-- behind `ID (`, which no `)` follows
unfoldable pub indexed_field_at : Word → List Token → Found Call
indexed_field_at name inside =
    if bytes_eq name (text_of Bits) then None else (index_at inside >>= λ index. Some (record { name = name; index = Some index.0 }, index.1))

-- behind `ID (`
abbrev pub opened_field : Word → Option (List Token) → List Token → Found Call
opened_field name (Some rest) inside = Some (record { name = name; index = None }, rest)
opened_field name None inside = indexed_field_at name inside

-- `ID ( )` or `ID ( NUMBER )`
unfoldable pub field_at : List Token → Found Call
field_at text = do
  name ← name_at text
  inside ← expects Opener name.1
  opened_field name.0 (expects Closer inside) inside

-- ---- values

abbrev pub source_of : Word → Call → Option (List Token) → List Token → Found Source
source_of reader field (Some behind) rest = do
  method ← name_at behind
  end ← empty_at method.1
  Some (source.Field reader field method.0, end)
source_of reader field None rest = if bytes_eq field.name (text_of Bits) then Some (source.Bits reader, rest) else None

unfoldable pub source_at : List Token → Found Source
source_at text = do
  reader ← name_at text
  behind ← expects Dot reader.1
  field ← field_at behind
  source_of reader.0 field.0 (expects Dot field.1) field.1

abbrev pub tried : {A : Type 0} → A → Option (List Token) → Found A → Found A
tried value (Some rest) other = Some (value, rest)
tried value None other = other

unfoldable pub truth_at : List Token → Found Bool
truth_at text = tried true (expects (Truth true) text) (tried false (expects (Truth false) text) None)

unfoldable pub width_at : List Token → Found Width
width_at text =
    tried W8 (expects (NumberType W8) text) (tried W16 (expects (NumberType W16) text) (tried W32 (expects (NumberType W32) text) (tried W64 (expects (NumberType W64) text) None)))

abbrev pub cast_of : Source → Option (List Token) → List Token → Found Atom
cast_of read (Some behind) rest = do
  width ← width_at behind
  Some (atom.Cast read width.0, width.1)
cast_of read None rest = Some (atom.Source read, rest)

unfoldable pub source_atom_at : List Token → Found Atom
source_atom_at text = do
  read ← source_at text
  cast_of read.0 (expects As read.1) read.1

abbrev pub truth_or_source : Found Bool → List Token → Found Atom
truth_or_source (Some found) text = Some (atom.Truth found.0, found.1)
truth_or_source None text = source_atom_at text

abbrev pub number_or_other : Found ℕ → List Token → Found Atom
number_or_other (Some found) text = Some (atom.Number found.0, found.1)
number_or_other None text = truth_or_source (truth_at text) text

unfoldable pub atom_at : List Token → Found Atom
atom_at text = number_or_other (number_at text) text

-- how many `!` stand in front
unfoldable pub negations : List Token → ℕ
negations [] = 0
negations (token ∷ rest) = if is_fixed Negation token then suc (negations rest) else 0

unfoldable pub after_negations : List Token → List Token
after_negations [] = []
after_negations (token ∷ rest) = if is_fixed Negation token then after_negations rest else token ∷ rest

abbrev pub negations_at : List Token → Found ℕ
negations_at text = Some (negations text, after_negations text)

unfoldable pub value_at : List Token → Found Value
value_at text = do
  count ← negations_at text
  found ← atom_at count.1
  Some (record { negations = count.0; atom = found.0 }, found.1)

-- ---- chains

-- `VALUE )`
unfoldable pub closed_value_at : List Token → Found Value
closed_value_at text = do
  value ← value_at text
  rest ← expects Closer value.1
  Some (value.0, rest)

abbrev pub argument_of : Option (List Token) → List Token → Found (Option Value)
argument_of (Some rest) inside = Some (None, rest)
argument_of None inside = do
  value ← closed_value_at inside
  Some (Some value.0, value.1)

unfoldable pub argument_at : List Token → Found (Option Value)
argument_at text = do
  inside ← expects Opener text
  argument_of (expects Closer inside) inside

-- behind `. ID ( )` or `. ID ( NUMBER )`
unfoldable pub field_link_at : Call → List Token → Found Link
field_link_at field text = do
  behind ← expects Dot text
  method ← name_at behind
  value ← argument_at method.1
  Some (link.Field field method.0 value.0, value.1)

-- behind `. ID (`, which no `)` follows
unfoldable pub filled_link_at : Word → List Token → Found Link
filled_link_at name text =
    if bytes_eq name (text_of Bits) then (closed_value_at text >>= λ value. Some (link.Bits value.0, value.1)) else (indexed_field_at name text >>= λ field. field_link_at field.0 field.1)

abbrev pub link_of : Word → Option (List Token) → List Token → Found Link
link_of name (Some rest) inside = field_link_at (record { name = name; index = None }) rest
link_of name None inside = filled_link_at name inside

unfoldable pub link_at : List Token → Found Link
link_at text = do
  behind ← expects Dot text
  name ← name_at behind
  inside ← expects Opener name.1
  link_of name.0 (expects Closer inside) inside

abbrev pub chain_part_of : Option (List Token) → List Token → Found (Part Link (Unit {0}))
chain_part_of (Some rest) text = Some (End tt, rest)
chain_part_of None text = do
  found ← link_at text
  Some (Item found.0, found.1)

-- a link, or the `)` that ends the chain
unfoldable pub chain_part_at : List Token → Found (Part Link (Unit {0}))
chain_part_at text = chain_part_of (expects Closer text) text

-- `CHAIN )`
unfoldable pub chain_at : List Token → Found (List Link)
chain_at text = do
  behind ← expects WriterName text
  run ← run_at chain_part_at behind
  Some (run.0.0, run.1)

-- ---- closures

-- behind the name of the reader
unfoldable pub both_at : Bool → List Token → Found Parameters
both_at names_reader text = do
  behind ← expects Comma text
  rest ← expects WriterName behind
  Some (ReaderAndWriter names_reader, rest)

abbrev pub reader_of : Option (List Token) → List Token → Found Parameters
reader_of (Some rest) text = both_at true rest
reader_of None text = expects NoName text >>= both_at false

abbrev pub writer_of : Option (List Token) → List Token → Found Parameters
writer_of (Some rest) text = Some (Writer, rest)
writer_of None text = reader_of (expects ReaderName text) text

unfoldable pub parameters_at : List Token → Found Parameters
parameters_at text = writer_of (expects WriterName text) text

-- `PARAMETERS | CHAIN ) ;`
unfoldable pub closure_at : List Token → Found (Parameters × List Link)
closure_at text = do
  parameters ← parameters_at text
  behind ← expects Bar parameters.1
  chain ← chain_at behind
  rest ← expects Semicolon chain.1
  Some ((parameters.0, chain.0), rest)

-- ---- statements

abbrev pub written : Place → Word → Parameters → List Link → Option Statement
written place call Writer chain =
    if bytes_eq call (text_of Write) then Some (statement.Write place chain) else (if bytes_eq call (text_of WriteWithZero) then Some (statement.WriteWithZero place chain) else None)
written place call (ReaderAndWriter names_reader) chain =
    if bytes_eq call (text_of Modify) then Some (statement.Modify place names_reader chain) else None

-- what ends a place makes of it a statement
abbrev pub operation_of : Place → Ending → List Token → Found Statement
operation_of place (Plain call) text = if bytes_eq call (text_of Reset) then Some (statement.Reset place, text) else None
operation_of place (Closure call) text = do
  closure ← closure_at text
  found ← written place call closure.0.0 closure.0.1
  Some (found, closure.1)

unfoldable pub operation_at : List Token → Found Statement
operation_at text = do
  place ← place_at text
  operation_of place.0.0 place.0.1 place.1

abbrev pub bound : Word → Place → Ending → Option Statement
bound name place (Plain call) = if bytes_eq call (text_of Read) then Some (statement.Let name place) else None
bound name place (Closure call) = None

-- behind `let`
unfoldable pub let_at : List Token → Found Statement
let_at text = do
  name ← name_at text
  behind ← expects Equals name.1
  place ← place_at behind
  found ← bound name.0 place.0.0 place.0.1
  Some (found, place.1)

-- behind `say (`
unfoldable pub say_at : List Token → Found Statement
say_at text = do
  value ← closed_value_at text
  rest ← expects Semicolon value.1
  Some (statement.Say value.0, rest)

-- `say (`
unfoldable pub say_begun : List Token → Option (List Token)
say_begun text = do
  behind ← expects Say text
  expects Opener behind

abbrev pub say_or_operation : Option (List Token) → List Token → Found Statement
say_or_operation (Some inside) text = say_at inside
say_or_operation None text = operation_at text

abbrev pub let_or_other : Option (List Token) → List Token → Found Statement
let_or_other (Some rest) text = let_at rest
let_or_other None text = say_or_operation (say_begun text) text

unfoldable pub statement_at : List Token → Found Statement
statement_at text = let_or_other (expects Let text) text

abbrev pub is_end : List Token → Bool
is_end [] = true
is_end (token ∷ rest) = false

abbrev pub ended : Statement → List Token → Option Statement
ended found rest = if is_end rest then Some found else None

-- the statement whose tokens these are
unfoldable pub whole_statement : List Token → Option Statement
whole_statement text = do
  found ← statement_at text
  ended found.0 found.1

-- ---- lines

unfoldable pub held_of : List Token → Option (Option Statement)
held_of text = if is_end text then Some None else (whole_statement text >>= λ found. Some (Some found))

-- what a line holds: no statement, or one
unfoldable pub held_at : List ℕ → Option (Option Statement)
held_at line = line_tokens line >>= held_of

abbrev pub behind_line : ℕ → Option (Option Statement) → Result (List ScriptLine) ℕ → Result (List ScriptLine) ℕ
behind_line line_number None others = Err line_number
behind_line line_number (Some held) (Ok script) = Ok (put_at line_number held script)
behind_line line_number (Some held) (Err bad) = Err bad

-- the script of lines, of which the first has this line_number; or the line_number of the first that is wrong
unfoldable pub lines_at : ℕ → List (List ℕ) → Result (List ScriptLine) ℕ
lines_at line_number [] = Ok []
lines_at line_number (line ∷ lines) = behind_line line_number (held_at line) (lines_at (line_number + 1) lines)

-- the lines of what is left of a text
abbrev pub lines_left : Option (List ℕ) → List (List ℕ)
lines_left None = []
lines_left (Some text) = lines_of text

-- what reading a script comes to: its statements, the first wrong line, or too many statements
pub data Outcome : Type 0 where
  fine : List ScriptLine → Outcome
  faulty : ℕ → Outcome
  too_long : ℕ → Outcome

-- what it comes to where statements are kept already, and so many were met
abbrev pub outcome : List ScriptLine → ℕ → Result (List ScriptLine) ℕ → Outcome
outcome kept count (Ok script) = if nat_le (count + length script) 65536 then fine (kept ++ script) else too_long (count + length script)
outcome kept count (Err bad) = faulty bad

-- what reading a text comes to
unfoldable pub script_at : List ℕ → Outcome
script_at bytes = outcome [] 0 (lines_at 1 (lines_of bytes))
