-- The tokens of each production of the grammar of scripts (this project's own rule, after calls of svd2rust's register API): those of a tree, and then a rest.
use Rattle.std.specs.Prelude.{ℕ, List, [], ◌∷◌, ◌++◌, Bool, true, false, ◌&&◌, Option, Some, None, not, replicate}
use Rattle.std.specs.List.{list_all}
use Rattle.std.specs.Str.{bytes_eq}
use Rattle.frag_words.specs.Words.{Word}
use Rattle.rust_names.specs.Identifiers.{is_identifier}
use Rattle.frag_tree.specs.declared.statement.Atom.{Atom}
use Rattle.frag_tree.specs.declared.statement.Atom.TheVariants as atom
use Rattle.frag_tree.specs.declared.statement.Link.{Link}
use Rattle.frag_tree.specs.declared.statement.Link.TheVariants as link
use Rattle.frag_tree.specs.declared.statement.Place.{Place}
use Rattle.frag_tree.specs.declared.statement.Call.{Call}
use Rattle.frag_tree.specs.declared.statement.Source.{Source}
use Rattle.frag_tree.specs.declared.statement.Source.TheVariants as source
use Rattle.frag_tree.specs.declared.statement.Statement.{Statement}
use Rattle.frag_tree.specs.declared.statement.Statement.TheVariants as statement
use Rattle.frag_tree.specs.declared.statement.Value.{Value}
use Rattle.frag_script.specs.declared.fixed.Fixed.{Fixed}
use Rattle.frag_script.specs.declared.fixed.Fixed.TheVariants.{Let, Say, Read, Write, WriteWithZero, Modify, Reset, Bits, As, ReaderName, WriterName, NoName, Truth, NumberType, Equals, Dot, Comma, Bar, Negation, Opener, Closer, Semicolon}
use Rattle.frag_script.specs.FixedWords.{text_of}
use Rattle.frag_script.specs.Tokens.{Token, number, plain}

abbrev pub fixed : Fixed → Token
fixed word = plain (text_of word)

-- one after another, and then a rest
abbrev pub each_then : {X : Type 0} → (X → List Token → List Token) → List X → List Token → List Token
each_then item_then [] rest = rest
each_then item_then (item ∷ items) rest = item_then item (each_then item_then items rest)

-- ---- places

-- `( )` or `( NUMBER )`
abbrev pub index_then : Option ℕ → List Token → List Token
index_then None rest = fixed Opener ∷ fixed Closer ∷ rest
index_then (Some index) rest = fixed Opener ∷ number index ∷ fixed Closer ∷ rest

-- `. ID ( )` or `. ID ( NUMBER )`
abbrev pub step_then : Call → List Token → List Token
step_then step rest = fixed Dot ∷ plain step.name ∷ index_then step.index rest

abbrev pub steps_then : List Call → List Token → List Token
steps_then steps rest = each_then step_then steps rest

-- `ID`, and the steps
abbrev pub place_then : Place → List Token → List Token
place_then place rest = plain place.slot ∷ steps_then place.steps rest

-- ---- values

-- `ID . bits ( )` or `ID . CALL . ID ( )`
abbrev pub source_then : Source → List Token → List Token
source_then (source.Bits reader) rest = plain reader ∷ fixed Dot ∷ fixed Bits ∷ fixed Opener ∷ fixed Closer ∷ rest
source_then (source.Field reader field method) rest =
    plain reader ∷ step_then field (fixed Dot ∷ plain method ∷ fixed Opener ∷ fixed Closer ∷ rest)

-- `NUMBER`, `true`, `false`, `SOURCE` or `SOURCE as TYPE`
abbrev pub atom_then : Atom → List Token → List Token
atom_then (atom.Number value) rest = number value ∷ rest
atom_then (atom.Truth truth) rest = fixed (Truth truth) ∷ rest
atom_then (atom.Source read) rest = source_then read rest
atom_then (atom.Cast read width) rest = source_then read (fixed As ∷ fixed (NumberType width) ∷ rest)

-- any number of `!`, and an atom
abbrev pub value_then : Value → List Token → List Token
value_then value rest = replicate value.negations (fixed Negation) ++ atom_then value.atom rest

-- ---- chains

-- `( )` or `( VALUE )`
abbrev pub argument_then : Option Value → List Token → List Token
argument_then None rest = fixed Opener ∷ fixed Closer ∷ rest
argument_then (Some value) rest = fixed Opener ∷ value_then value (fixed Closer ∷ rest)

-- `. bits ( VALUE )`, `. CALL . ID ( )` or `. CALL . ID ( VALUE )`
abbrev pub link_then : Link → List Token → List Token
link_then (link.Bits value) rest = fixed Dot ∷ fixed Bits ∷ argument_then (Some value) rest
link_then (link.Field field method value) rest =
    step_then field (fixed Dot ∷ plain method ∷ argument_then value rest)

abbrev pub links_then : List Link → List Token → List Token
links_then links rest = each_then link_then links rest

-- `w`, and the links
abbrev pub chain_then : List Link → List Token → List Token
chain_then links rest = fixed WriterName ∷ links_then links rest

-- ---- statements

-- `. CALL ( ) ;`
abbrev pub plain_call : Fixed → List Token → List Token
plain_call call rest = fixed Dot ∷ fixed call ∷ fixed Opener ∷ fixed Closer ∷ fixed Semicolon ∷ rest

-- `| CHAIN ) ;`
abbrev pub body_then : List Link → List Token → List Token
body_then chain rest = fixed Bar ∷ chain_then chain (fixed Closer ∷ fixed Semicolon ∷ rest)

-- `. CALL ( | w | CHAIN ) ;`
abbrev pub writer_call : Fixed → List Link → List Token → List Token
writer_call call chain rest = fixed Dot ∷ fixed call ∷ fixed Opener ∷ fixed Bar ∷ fixed WriterName ∷ body_then chain rest

-- `r`, or `_`
abbrev pub reader_word : Bool → Fixed
reader_word true = ReaderName
reader_word false = NoName

-- `. modify ( | r, w | CHAIN ) ;`, or `. modify ( | _, w | CHAIN ) ;`
abbrev pub modify_call : Bool → List Link → List Token → List Token
modify_call names_reader chain rest =
    fixed Dot ∷ fixed Modify ∷ fixed Opener ∷ fixed Bar ∷ fixed (reader_word names_reader) ∷ fixed Comma ∷ fixed WriterName ∷ body_then chain rest

abbrev pub statement_then : Statement → List Token → List Token
statement_then (statement.Let name place) rest = fixed Let ∷ plain name ∷ fixed Equals ∷ place_then place (plain_call Read rest)
statement_then (statement.Write place chain) rest = place_then place (writer_call Write chain rest)
statement_then (statement.WriteWithZero place chain) rest = place_then place (writer_call WriteWithZero chain rest)
statement_then (statement.Modify place names_reader chain) rest = place_then place (modify_call names_reader chain rest)
statement_then (statement.Reset place) rest = place_then place (plain_call Reset rest)
statement_then (statement.Say value) rest = fixed Say ∷ fixed Opener ∷ value_then value (fixed Closer ∷ fixed Semicolon ∷ rest)

-- the tokens of a statement
abbrev pub statement_tokens : Statement → List Token
statement_tokens statement = statement_then statement []

-- ---- which trees are valid: each name is an identifier, a place has a step, and no field `bits` has an index; what code builds is

abbrev pub is_step : List Call → Bool
is_step [] = false
is_step (step ∷ steps) = true

abbrev pub valid_step : Call → Bool
valid_step step = is_identifier step.name

abbrev pub valid_place : Place → Bool
valid_place place = is_identifier place.slot && (is_step place.steps && list_all valid_step place.steps)

-- `. bits ( NUMBER )` is the link of a whole word and no call of a field
abbrev pub may_index : Word → Option ℕ → Bool
may_index name None = true
may_index name (Some index) = not (bytes_eq name (text_of Bits))

abbrev pub valid_field : Call → Bool
valid_field call = is_identifier call.name && may_index call.name call.index

abbrev pub valid_source : Source → Bool
valid_source (source.Bits reader) = is_identifier reader
valid_source (source.Field reader field method) = is_identifier reader && (valid_field field && is_identifier method)

abbrev pub valid_atom : Atom → Bool
valid_atom (atom.Number value) = true
valid_atom (atom.Truth truth) = true
valid_atom (atom.Source read) = valid_source read
valid_atom (atom.Cast read width) = valid_source read

abbrev pub valid_value : Value → Bool
valid_value value = valid_atom value.atom

abbrev pub valid_argument : Option Value → Bool
valid_argument None = true
valid_argument (Some value) = valid_value value

abbrev pub valid_link : Link → Bool
valid_link (link.Bits value) = valid_value value
valid_link (link.Field field method value) = valid_field field && (is_identifier method && valid_argument value)

abbrev pub valid_chain : List Link → Bool
valid_chain chain = list_all valid_link chain

abbrev pub is_valid : Statement → Bool
is_valid (statement.Let name place) = is_identifier name && valid_place place
is_valid (statement.Write place chain) = valid_place place && valid_chain chain
is_valid (statement.WriteWithZero place chain) = valid_place place && valid_chain chain
is_valid (statement.Modify place names_reader chain) = valid_place place && valid_chain chain
is_valid (statement.Reset place) = valid_place place
is_valid (statement.Say value) = valid_value value
