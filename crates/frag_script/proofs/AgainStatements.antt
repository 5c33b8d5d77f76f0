-- What stands at the front of a text is read again: chains, places and statements.
use Rattle.std.proofs.Common.{◌≡◌, arith, List, [], ◌∷◌, length, Bool, true, false, None, refl, ◌∙◌, inl, inr}
use Rattle.std.specs.Prelude.{◌&&◌, ◌==◌}
use Rattle.std.specs.List.{list_all}
use Rattle.std.specs.Str.{bytes_eq}
use Rattle.std.proofs.lemmas.Bool.{cases_Bool, and_parts}
use Rattle.std.proofs.lemmas.Bool.Decides.{nat_tests}
use Rattle.frag_words.specs.Words.{Word}
use Rattle.rust_names.specs.Identifiers.{is_identifier}
use Rattle.rust_names.specs.Keywords.{is_keyword}
use Rattle.frag_tree.specs.declared.statement.Link.{Link}
use Rattle.frag_tree.specs.declared.statement.Place.{Place}
use Rattle.frag_tree.specs.declared.statement.Call.{Call}
use Rattle.frag_tree.specs.declared.statement.Statement.{Statement}
use Rattle.frag_tree.specs.declared.statement.Statement.TheVariants as statement
use Rattle.frag_script.specs.declared.closure.Parameters.{Parameters}
use Rattle.frag_script.specs.declared.closure.Parameters.TheVariants.{Writer, ReaderAndWriter}
use Rattle.frag_script.specs.declared.fixed.Fixed.TheVariants.{Let, Say, Read, Write, WriteWithZero, Modify, Reset, ReaderName, WriterName, NoName, Equals, Dot, Comma, Bar, Opener, Closer, Semicolon}
use Rattle.frag_script.specs.declared.part.Part.{Part}
use Rattle.frag_script.specs.declared.part.Part.TheVariants.{Item, End}
use Rattle.frag_script.specs.declared.place.Ending.{Ending}
use Rattle.frag_script.specs.declared.place.Ending.TheVariants.{Plain, Closure}
use Rattle.frag_script.specs.FixedWords.{text_of}
use Rattle.frag_script.specs.Reading.{expects, call_at, place_at, chain_part_at, chain_at, both_at, parameters_at, closure_at, operation_of, operation_at, let_at, say_at, say_begun, statement_at, is_end, whole_statement}
use Rattle.frag_script.specs.Statements.{fixed, each_then, step_then, place_then, value_then, links_then, chain_then, body_then, reader_word, statement_then, statement_tokens, is_step, valid_step, valid_place, valid_chain, is_valid}
use Rattle.frag_script.specs.Tokens.{Token, plain}
use Rattle.frag_script.proofs.Taking.{given, call_then, valid_call, call_shrinks}
use Rattle.frag_script.proofs.TakenValues.{part_then, valid_part, chain_part_shrinks}
use Rattle.frag_script.proofs.Again.{same_word, expects-again, other_fixed, not_name, name-again, run-again, step-again, ending-again, closed_value-again, link_part-again, closer-again}

-- ---- closures

chain-again : (chain : List Link) (rest : List Token) → valid_chain chain ≡ true → chain_at (chain_then chain (fixed Closer ∷ rest)) ≡ given (chain, rest)
unfolding chain_at
chain-again chain rest valid =
    rw (
      expects-again WriterName (links_then chain (fixed Closer ∷ rest)),
      run-again chain_part_at part_then valid_part (λ t. Unit {0}) chain_part_shrinks (λ item tail good free. link_part-again item tail good) (λ end tail good. closer-again end tail) (λ part tail. tt) chain tt rest valid refl,
    ) refl

parameters-writer : (rest : List Token) → parameters_at (fixed WriterName ∷ rest) ≡ given (Writer, rest)
unfolding parameters_at
parameters-writer rest = rw (expects-again WriterName rest) refl

parameters-both : (names_reader : Bool) (rest : List Token) → parameters_at (fixed (reader_word names_reader) ∷ fixed Comma ∷ fixed WriterName ∷ rest) ≡ given (ReaderAndWriter names_reader, rest)
unfolding parameters_at both_at text_of
parameters-both true rest =
    rw (other_fixed WriterName ReaderName (fixed Comma ∷ fixed WriterName ∷ rest) refl, expects-again ReaderName (fixed Comma ∷ fixed WriterName ∷ rest), expects-again Comma (fixed WriterName ∷ rest), expects-again WriterName rest) refl
parameters-both false rest =
    rw (other_fixed WriterName NoName (fixed Comma ∷ fixed WriterName ∷ rest) refl, other_fixed ReaderName NoName (fixed Comma ∷ fixed WriterName ∷ rest) refl, expects-again NoName (fixed Comma ∷ fixed WriterName ∷ rest), expects-again Comma (fixed WriterName ∷ rest), expects-again WriterName rest) refl

-- behind the parameters
closure_body : (text : List Token) (parameters : Parameters) (chain : List Link) (rest : List Token) → parameters_at text ≡ given (parameters, body_then chain rest) → valid_chain chain ≡ true → closure_at text ≡ given ((parameters, chain), rest)
unfolding closure_at
closure_body text parameters chain rest e valid =
    rw (e, expects-again Bar (chain_then chain (fixed Closer ∷ fixed Semicolon ∷ rest)), chain-again chain (fixed Semicolon ∷ rest) valid, expects-again Semicolon rest) refl

-- ---- places

call_free : (part : Part Call Ending) (rest : List Token) → expects Semicolon (call_then part rest) ≡ None
unfolding text_of
call_free (Item step) rest = other_fixed Semicolon Dot _ refl
call_free (End (Plain call)) rest = other_fixed Semicolon Dot _ refl
call_free (End (Closure call)) rest = other_fixed Semicolon Dot _ refl

counted : (steps : List Call) → is_step steps ≡ true → (length steps == 0) ≡ false
counted [] e = absurd cc
counted (step ∷ steps) e = grind (arith, nat_tests)

abbrev ended_then : Place → Ending → List Token → List Token
ended_then place ending rest = place_then place (call_then (End ending) rest)

place-again : (place : Place) (ending : Ending) (rest : List Token) → valid_place place ≡ true → valid_call (End ending) ≡ true → place_at (ended_then place ending rest) ≡ given ((place, ending), rest)
unfolding place_at
place-again place ending rest valid ends =
    let parts = and_parts (is_identifier place.slot) (is_step place.steps && list_all valid_step place.steps) valid in
    let others = and_parts (is_step place.steps) (list_all valid_step place.steps) parts.1 in
    rw (
      name-again place.slot (each_then step_then place.steps (call_then (End ending) rest)) parts.0,
      run-again call_at call_then valid_call (λ t. expects Semicolon t ≡ None) call_shrinks step-again ending-again call_free place.steps ending rest others.1 ends,
      counted place.steps others.0,
    ) refl

-- a place is no `let` and no `say (`
no_opener : (steps : List Call) (ending : Ending) (rest : List Token) → expects Opener (each_then step_then steps (call_then (End ending) rest)) ≡ None
unfolding text_of
no_opener [] (Plain call) rest = other_fixed Opener Dot _ refl
no_opener [] (Closure call) rest = other_fixed Opener Dot _ refl
no_opener (step ∷ steps) ending rest = other_fixed Opener Dot _ refl

say_no_more : (word : Word) (rest : List Token) → expects Opener rest ≡ None → say_begun (plain word ∷ rest) ≡ None
unfolding say_begun expects
say_no_more word rest free =
    elim (cases_Bool (bytes_eq word (text_of Say))) [
      | inl hit ↦ rw (hit) free
      | inr other ↦ rw (other) refl
    ]

let_no_name : is_identifier (text_of Let) ≡ false
unfolding text_of is_keyword
let_no_name = refl

placed : (place : Place) (ending : Ending) (rest : List Token) → valid_place place ≡ true → statement_at (ended_then place ending rest) ≡ operation_at (ended_then place ending rest)
unfolding statement_at
placed place ending rest valid =
    let parts = and_parts (is_identifier place.slot) (is_step place.steps && list_all valid_step place.steps) valid in
    let tail = each_then step_then place.steps (call_then (End ending) rest) in
    rw (not_name Let place.slot tail let_no_name parts.0, say_no_more place.slot tail (no_opener place.steps ending rest)) refl

-- ---- statements

operation-again : (place : Place) (ending : Ending) (rest : List Token) (found : Statement) (left : List Token) → valid_place place ≡ true → valid_call (End ending) ≡ true → operation_of place ending rest ≡ given (found, left) → statement_at (ended_then place ending rest) ≡ given (found, left)
unfolding operation_at
operation-again place ending rest found left valid ends e =
    placed place ending rest valid ∙ rw (place-again place ending rest valid ends) e

reset_name : is_identifier (text_of Reset) ≡ true
unfolding text_of is_keyword
reset_name = refl

read_name : is_identifier (text_of Read) ≡ true
unfolding text_of is_keyword
read_name = refl

write_name : is_identifier (text_of Write) ≡ true
unfolding text_of is_keyword
write_name = refl

write_with_zero_name : is_identifier (text_of WriteWithZero) ≡ true
unfolding text_of is_keyword
write_with_zero_name = refl

modify_name : is_identifier (text_of Modify) ≡ true
unfolding text_of is_keyword
modify_name = refl

write_is_another : bytes_eq (text_of WriteWithZero) (text_of Write) ≡ false
unfolding text_of
write_is_another = refl

say_no_let : (rest : List Token) → expects Let (fixed Say ∷ rest) ≡ None
unfolding text_of
say_no_let rest = other_fixed Let Say rest refl

pub statement-again : (found : Statement) (rest : List Token) → is_valid found ≡ true → statement_at (statement_then found rest) ≡ given (found, rest)
unfolding statement_at let_at say_at say_begun
statement-again (statement.Let name place) rest valid =
    let parts = and_parts (is_identifier name) (valid_place place) valid in
    rw (expects-again Let (plain name ∷ fixed Equals ∷ ended_then place (Plain (text_of Read)) rest), name-again name (fixed Equals ∷ ended_then place (Plain (text_of Read)) rest) parts.0, expects-again Equals (ended_then place (Plain (text_of Read)) rest), place-again place (Plain (text_of Read)) rest parts.1 read_name, same_word (text_of Read)) refl
statement-again (statement.Write place chain) rest valid =
    let parts = and_parts (valid_place place) (valid_chain chain) valid in
    operation-again place (Closure (text_of Write)) (fixed WriterName ∷ body_then chain rest) (statement.Write place chain) rest parts.0 write_name
    (rw (closure_body (fixed WriterName ∷ body_then chain rest) Writer chain rest (parameters-writer (body_then chain rest)) parts.1, same_word (text_of Write)) refl)
statement-again (statement.WriteWithZero place chain) rest valid =
    let parts = and_parts (valid_place place) (valid_chain chain) valid in
    operation-again place (Closure (text_of WriteWithZero)) (fixed WriterName ∷ body_then chain rest) (statement.WriteWithZero place chain) rest parts.0 write_with_zero_name
    (rw (closure_body (fixed WriterName ∷ body_then chain rest) Writer chain rest (parameters-writer (body_then chain rest)) parts.1, write_is_another, same_word (text_of WriteWithZero)) refl)
statement-again (statement.Modify place names_reader chain) rest valid =
    let parts = and_parts (valid_place place) (valid_chain chain) valid in
    let text = fixed (reader_word names_reader) ∷ fixed Comma ∷ fixed WriterName ∷ body_then chain rest in
    operation-again place (Closure (text_of Modify)) text (statement.Modify place names_reader chain) rest parts.0 modify_name
    (rw (closure_body text (ReaderAndWriter names_reader) chain rest (parameters-both names_reader (body_then chain rest)) parts.1, same_word (text_of Modify)) refl)
statement-again (statement.Reset place) rest valid =
    operation-again place (Plain (text_of Reset)) rest (statement.Reset place) rest valid reset_name (rw (same_word (text_of Reset)) refl)
statement-again (statement.Say value) rest valid =
    let tail = value_then value (fixed Closer ∷ fixed Semicolon ∷ rest) in
    rw (say_no_let (fixed Opener ∷ tail), expects-again Say (fixed Opener ∷ tail), expects-again Opener tail, closed_value-again value (fixed Semicolon ∷ rest) valid, expects-again Semicolon rest) refl

pub whole-again : (found : Statement) → is_valid found ≡ true → whole_statement (statement_tokens found) ≡ given found
unfolding whole_statement
whole-again found valid = rw (statement-again found [] valid) refl

-- a statement has tokens
pub some_tokens : (found : Statement) → is_end (statement_tokens found) ≡ false
some_tokens (statement.Let name place) = refl
some_tokens (statement.Write place chain) = refl
some_tokens (statement.WriteWithZero place chain) = refl
some_tokens (statement.Modify place names_reader chain) = refl
some_tokens (statement.Reset place) = refl
some_tokens (statement.Say value) = refl
