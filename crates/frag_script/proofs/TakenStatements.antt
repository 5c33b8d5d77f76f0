-- What reading gives of statements stands at the front of the text.
use Rattle.std.proofs.Common.{ℕ, zero, suc, ◌≡◌, List, [], ◌∷◌, length, Bool, true, false, Option, Some, None, refl, sym, ap, ◌∙◌, inl, inr, subst}
use Rattle.std.specs.Prelude.{◌==◌, if◌then◌else◌}
use Rattle.std.specs.List.{list_all}
use Rattle.std.specs.Str.{bytes_eq}
use Rattle.std.proofs.lemmas.Bool.{cases_Bool}
use Rattle.std.proofs.lemmas.Slice.Eq.{bytes_eq-Decides}
use Rattle.text_scan.proofs.Steps.{bind_some}
use Rattle.frag_words.specs.Words.{Word}
use Rattle.rust_names.specs.Identifiers.{is_identifier}
use Rattle.frag_tree.specs.declared.statement.Link.{Link}
use Rattle.frag_tree.specs.declared.statement.Place.{Place}
use Rattle.frag_tree.specs.declared.statement.Call.{Call}
use Rattle.frag_tree.specs.declared.statement.Statement.{Statement}
use Rattle.frag_tree.specs.declared.statement.Statement.TheVariants as statement
use Rattle.frag_script.specs.declared.closure.Parameters.{Parameters}
use Rattle.frag_script.specs.declared.closure.Parameters.TheVariants.{Writer, ReaderAndWriter}
use Rattle.frag_script.specs.declared.fixed.Fixed.TheVariants.{Let, Say, Read, Write, WriteWithZero, Modify, Reset, ReaderName, WriterName, NoName, Equals, Dot, Comma, Bar, Opener, Closer, Semicolon}
use Rattle.frag_script.specs.declared.part.Part.{Part}
use Rattle.frag_script.specs.declared.part.Part.TheVariants.{Item, End}
use Rattle.frag_script.specs.declared.place.Ending.{Ending}
use Rattle.frag_script.specs.declared.place.Ending.TheVariants.{Plain, Closure}
use Rattle.frag_script.specs.FixedWords.{text_of}
use Rattle.frag_script.specs.Reading.{Found, expects, name_at, gone_on, run_up_to, run_at, call_at, place_at, closed_value_at, chain_part_at, chain_at, both_at, reader_of, writer_of, parameters_at, closure_at, written, operation_of, operation_at, bound, let_at, say_at, say_begun, say_or_operation, let_or_other, statement_at, is_end, whole_statement}
use Rattle.frag_script.specs.Statements.{fixed, each_then, place_then, value_then, chain_then, body_then, reader_word, statement_then, statement_tokens, is_step, valid_place, valid_chain, is_valid}
use Rattle.frag_script.specs.Tokens.{Token, plain}
use Rattle.frag_script.proofs.Taking.{given, passed_on, both, if_some, Took, expects-takes, name-takes, call-takes, call_then, valid_call}
use Rattle.frag_script.proofs.TakenValues.{closed_value-takes, chain_part-takes, part_then, valid_part}

-- ---- runs

-- The text is the items, and then what ends them; all are valid.
abbrev pub RunTook : {X E : Type 0} → (Part X E → List Token → List Token) → (Part X E → Bool) → List Token → (List X × E) × List Token → Type 0
RunTook {X} {E} part_then is_valid text found =
    (text ≡ each_then (λ item. part_then (Item item)) found.0.0 (part_then (End found.0.1) found.1))
    × (list_all (λ item. is_valid (Item item)) found.0.0 ≡ true)
    × (is_valid (End found.0.1) ≡ true)

gone_on-takes : {X E : Type 0} (part_then : Part X E → List Token → List Token) (is_valid : Part X E → Bool) (text : List Token) (part : Part X E) (rest : List Token) (others : List Token → Found (List X × E)) (found : (List X × E) × List Token) → (text ≡ part_then part rest) × (is_valid part ≡ true) → ((more : (List X × E) × List Token) → others rest ≡ given more → RunTook part_then is_valid rest more) → gone_on part rest others ≡ given found → RunTook part_then is_valid text found
gone_on-takes {X} {E} part_then is_valid text (End end) rest others found taken next e =
    passed_on (([], end), rest) found (RunTook part_then is_valid text) e (taken.0, refl, taken.1)
gone_on-takes {X} {E} part_then is_valid text (Item item) rest others found taken next e =
    let more = bind_some (others rest) _ found e in
    let so_far = next more.0 more.1 in
    passed_on ((item ∷ more.0.0.0, more.0.0.1), more.0.1) found (RunTook part_then is_valid text) more.2
    (taken.0 ∙ ap (part_then (Item item)) so_far.0, both _ _ taken.1 so_far.1, so_far.2)

run_up_to-takes : {X E : Type 0} (part_at : List Token → Found (Part X E)) (part_then : Part X E → List Token → List Token) (is_valid : Part X E → Bool) → ((text : List Token) (found : Part X E × List Token) → part_at text ≡ given found → Took part_then is_valid text found) → (most : ℕ) (text : List Token) (found : (List X × E) × List Token) → run_up_to part_at most text ≡ given found → RunTook part_then is_valid text found
unfolding run_up_to
run_up_to-takes part_at part_then is_valid takes zero text found e = absurd cc
run_up_to-takes part_at part_then is_valid takes (suc most) text found e =
    let part = bind_some (part_at text) _ found e in
    gone_on-takes part_then is_valid text part.0.0 part.0.1 (run_up_to part_at most) found (takes text part.0 part.1) (λ more e2. run_up_to-takes part_at part_then is_valid takes most part.0.1 more e2) part.2

pub run-takes : {X E : Type 0} (part_at : List Token → Found (Part X E)) (part_then : Part X E → List Token → List Token) (is_valid : Part X E → Bool) → ((text : List Token) (found : Part X E × List Token) → part_at text ≡ given found → Took part_then is_valid text found) → (text : List Token) (found : (List X × E) × List Token) → run_at part_at text ≡ given found → RunTook part_then is_valid text found
unfolding run_at
run-takes part_at part_then is_valid takes text found e = run_up_to-takes part_at part_then is_valid takes (length text) text found e

-- ---- places and what ends them

abbrev nothing : {A : Type 0} → Option A
nothing = None

if_none : {A : Type 0} (test : Bool) (found : Option A) (y : A) → (if test then None else found) ≡ given y → (test ≡ false) × (found ≡ given y)
if_none true found y e = absurd cc
if_none false found y e = (refl, e)

some_step : (steps : List Call) → (length steps == 0) ≡ false → is_step steps ≡ true
some_step [] e = absurd cc
some_step (step ∷ steps) e = refl

abbrev ended_then : Place × Ending → List Token → List Token
ended_then found rest = place_then found.0 (call_then (End found.1) rest)

place-takes : (text : List Token) (found : (Place × Ending) × List Token) → place_at text ≡ given found → Took ended_then (λ p. valid_place p.0) text found
unfolding place_at
place-takes text found e =
    let slot = bind_some (name_at text) _ found e in
    let run = bind_some (run_at call_at slot.0.1) _ found slot.2 in
    let some = if_none (length run.0.0.0 == 0) _ found run.2 in
    let named = name-takes text slot.0 slot.1 in
    let taken = run-takes call_at call_then valid_call call-takes slot.0.1 run.0 run.1 in
    passed_on ((record { slot = slot.0.0; steps = run.0.0.0 }, run.0.0.1), run.0.1) found (Took ended_then (λ p. valid_place p.0) text) some.1
    (named.0 ∙ ap (λ (t : List Token). plain slot.0.0 ∷ t) taken.0, both _ _ named.1 (both _ _ (some_step run.0.0.0 some.0) taken.1))

-- ---- closures

chain-takes : (text : List Token) (found : List Link × List Token) → chain_at text ≡ given found → Took (λ chain rest. chain_then chain (fixed Closer ∷ rest)) valid_chain text found
unfolding chain_at
chain-takes text found e =
    let writer = bind_some (expects WriterName text) _ found e in
    let run = bind_some (run_at chain_part_at writer.0) _ found writer.2 in
    let taken = run-takes chain_part_at part_then valid_part chain_part-takes writer.0 run.0 run.1 in
    passed_on (run.0.0.0, run.0.1) found (Took (λ chain rest. chain_then chain (fixed Closer ∷ rest)) valid_chain text) run.2
    (expects-takes WriterName text writer.0 writer.1 ∙ ap (λ (t : List Token). fixed WriterName ∷ t) taken.0, taken.1)

abbrev parameters_then : Parameters → List Token → List Token
parameters_then Writer rest = fixed WriterName ∷ rest
parameters_then (ReaderAndWriter names_reader) rest = fixed (reader_word names_reader) ∷ fixed Comma ∷ fixed WriterName ∷ rest

abbrev Begun : List Token → Parameters × List Token → Type 0
Begun text found = text ≡ parameters_then found.0 found.1

both-takes : (names_reader : Bool) (text whole : List Token) (found : Parameters × List Token) → whole ≡ fixed (reader_word names_reader) ∷ text → both_at names_reader text ≡ given found → Begun whole found
unfolding both_at
both-takes names_reader text whole found e_whole e =
    let comma = bind_some (expects Comma text) _ found e in
    let writer = bind_some (expects WriterName comma.0) _ found comma.2 in
    passed_on (ReaderAndWriter names_reader, writer.0) found (Begun whole) writer.2
    (e_whole ∙ (ap (λ (t : List Token). fixed (reader_word names_reader) ∷ t) (expects-takes Comma text comma.0 comma.1)
    ∙ ap (λ (t : List Token). fixed (reader_word names_reader) ∷ fixed Comma ∷ t) (expects-takes WriterName comma.0 writer.0 writer.1)))

reader_of-takes : (text : List Token) (hit : Option (List Token)) (found : Parameters × List Token) → expects ReaderName text ≡ hit → reader_of hit text ≡ given found → Begun text found
reader_of-takes text (Some rest) found hit e = both-takes true rest text found (expects-takes ReaderName text rest hit) e
reader_of-takes text None found hit e =
    let none = bind_some (expects NoName text) (both_at false) found e in
    both-takes false none.0 text found (expects-takes NoName text none.0 none.1) none.2

writer_of-takes : (text : List Token) (hit : Option (List Token)) (found : Parameters × List Token) → expects WriterName text ≡ hit → writer_of hit text ≡ given found → Begun text found
writer_of-takes text (Some rest) found hit e = passed_on (Writer, rest) found (Begun text) e (expects-takes WriterName text rest hit)
writer_of-takes text None found hit e = reader_of-takes text (expects ReaderName text) found refl e

parameters-takes : (text : List Token) (found : Parameters × List Token) → parameters_at text ≡ given found → Begun text found
unfolding parameters_at
parameters-takes text found e = writer_of-takes text (expects WriterName text) found refl e

abbrev closure_then : Parameters × List Link → List Token → List Token
closure_then found rest = parameters_then found.0 (body_then found.1 rest)

closure-takes : (text : List Token) (found : (Parameters × List Link) × List Token) → closure_at text ≡ given found → Took closure_then (λ p. valid_chain p.1) text found
unfolding closure_at
closure-takes text found e =
    let parameters = bind_some (parameters_at text) _ found e in
    let bar = bind_some (expects Bar parameters.0.1) _ found parameters.2 in
    let chain = bind_some (chain_at bar.0) _ found bar.2 in
    let end = bind_some (expects Semicolon chain.0.1) _ found chain.2 in
    let taken = chain-takes bar.0 chain.0 chain.1 in
    passed_on ((parameters.0.0, chain.0.0), end.0) found (Took closure_then (λ p. valid_chain p.1) text) end.2 (
      parameters-takes text parameters.0 parameters.1
          ∙ (ap (parameters_then parameters.0.0) (expects-takes Bar parameters.0.1 bar.0 bar.1)
          ∙ (ap (λ (t : List Token). parameters_then parameters.0.0 (fixed Bar ∷ t)) taken.0
          ∙ ap (λ (t : List Token). parameters_then parameters.0.0 (fixed Bar ∷ chain_then chain.0.0 (fixed Closer ∷ t))) (expects-takes Semicolon chain.0.1 end.0 end.1))),
      taken.1,
    )

-- ---- statements

-- the statement stands at the front, and is valid
abbrev pub StatementTook : List Token → Statement × List Token → Type 0
StatementTook text found = (text ≡ statement_then found.0 found.1) × (is_valid found.0 ≡ true)

-- a place, a call of this name, and a closure
abbrev placed_closure : Place → Word → Parameters → List Link → List Token → List Token
placed_closure place call parameters chain rest = place_then place (fixed Dot ∷ plain call ∷ fixed Opener ∷ fixed Bar ∷ parameters_then parameters (body_then chain rest))

written-takes : (place : Place) (call : Word) (parameters : Parameters) (chain : List Link) (rest : List Token) (found : Statement) → valid_place place ≡ true → valid_chain chain ≡ true → written place call parameters chain ≡ given found → (placed_closure place call parameters chain rest ≡ statement_then found rest) × (is_valid found ≡ true)
written-takes place call Writer chain rest found good_place good_chain e =
    elim (cases_Bool (bytes_eq call (text_of Write))) [
      | inl hit ↦
          let e2 : given (statement.Write place chain) ≡ given found = rw (hit) at e in
          let same : call ≡ text_of Write = (bytes_eq-Decides call (text_of Write)).0 hit in
          passed_on (statement.Write place chain) found (λ s. (placed_closure place call Writer chain rest ≡ statement_then s rest) × (is_valid s ≡ true)) e2
          (ap (λ (word : Word). placed_closure place word Writer chain rest) same, both _ _ good_place good_chain)
      | inr other ↦
          let e2 : (if bytes_eq call (text_of WriteWithZero) then given (statement.WriteWithZero place chain) else None) ≡ given found = rw (other) at e in
          let hit = if_some (bytes_eq call (text_of WriteWithZero)) (given (statement.WriteWithZero place chain)) found e2 in
          let same : call ≡ text_of WriteWithZero = (bytes_eq-Decides call (text_of WriteWithZero)).0 hit.0 in
          passed_on (statement.WriteWithZero place chain) found (λ s. (placed_closure place call Writer chain rest ≡ statement_then s rest) × (is_valid s ≡ true)) hit.1
          (ap (λ (word : Word). placed_closure place word Writer chain rest) same, both _ _ good_place good_chain)
    ]
written-takes place call (ReaderAndWriter names_reader) chain rest found good_place good_chain e =
    let hit = if_some (bytes_eq call (text_of Modify)) (given (statement.Modify place names_reader chain)) found e in
    let same : call ≡ text_of Modify = (bytes_eq-Decides call (text_of Modify)).0 hit.0 in
    passed_on (statement.Modify place names_reader chain) found (λ s. (placed_closure place call (ReaderAndWriter names_reader) chain rest ≡ statement_then s rest) × (is_valid s ≡ true)) hit.1
    (ap (λ (word : Word). placed_closure place word (ReaderAndWriter names_reader) chain rest) same, both _ _ good_place good_chain)

operation_of-takes : (place : Place) (ending : Ending) (rest : List Token) (found : Statement × List Token) → valid_place place ≡ true → operation_of place ending rest ≡ given found → StatementTook (ended_then (place, ending) rest) found
operation_of-takes place (Plain call) rest found good e =
    let hit = if_some (bytes_eq call (text_of Reset)) (given (statement.Reset place, rest)) found e in
    let same : call ≡ text_of Reset = (bytes_eq-Decides call (text_of Reset)).0 hit.0 in
    passed_on (statement.Reset place, rest) found (StatementTook (ended_then (place, Plain call) rest)) hit.1
    (ap (λ (word : Word). ended_then (place, Plain word) rest) same, good)
operation_of-takes place (Closure call) rest found good e =
    let closure = bind_some (closure_at rest) _ found e in
    let made = bind_some (written place call closure.0.0.0 closure.0.0.1) _ found closure.2 in
    let taken = closure-takes rest closure.0 closure.1 in
    let whole = written-takes place call closure.0.0.0 closure.0.0.1 closure.0.1 made.0 good taken.1 made.1 in
    passed_on (made.0, closure.0.1) found (StatementTook (ended_then (place, Closure call) rest)) made.2
    (ap (λ (t : List Token). ended_then (place, Closure call) t) taken.0 ∙ whole.0, whole.1)

operation-takes : (text : List Token) (found : Statement × List Token) → operation_at text ≡ given found → StatementTook text found
unfolding operation_at
operation-takes text found e =
    let place = bind_some (place_at text) _ found e in
    let taken = place-takes text place.0 place.1 in
    let P : List Token → Type 0 = λ t. StatementTook t found in
    subst P (sym taken.0) (operation_of-takes place.0.0.0 place.0.0.1 place.0.1 found taken.1 place.2)

bound-takes : (name : Word) (place : Place) (ending : Ending) (rest : List Token) (found : Statement) → is_identifier name ≡ true → valid_place place ≡ true → bound name place ending ≡ given found → (fixed Let ∷ plain name ∷ fixed Equals ∷ ended_then (place, ending) rest ≡ statement_then found rest) × (is_valid found ≡ true)
bound-takes name place (Plain call) rest found good_name good e =
    let hit = if_some (bytes_eq call (text_of Read)) (given (statement.Let name place)) found e in
    let same : call ≡ text_of Read = (bytes_eq-Decides call (text_of Read)).0 hit.0 in
    passed_on (statement.Let name place) found (λ s. (fixed Let ∷ plain name ∷ fixed Equals ∷ ended_then (place, Plain call) rest ≡ statement_then s rest) × (is_valid s ≡ true)) hit.1
    (ap (λ (word : Word). fixed Let ∷ plain name ∷ fixed Equals ∷ ended_then (place, Plain word) rest) same, both _ _ good_name good)
bound-takes name place (Closure call) rest found good_name good e = absurd cc

let-takes : (text : List Token) (found : Statement × List Token) → let_at text ≡ given found → StatementTook (fixed Let ∷ text) found
unfolding let_at
let-takes text found e =
    let name = bind_some (name_at text) _ found e in
    let equals = bind_some (expects Equals name.0.1) _ found name.2 in
    let place = bind_some (place_at equals.0) _ found equals.2 in
    let made = bind_some (bound name.0.0 place.0.0.0 place.0.0.1) _ found place.2 in
    let named = name-takes text name.0 name.1 in
    let taken = place-takes equals.0 place.0 place.1 in
    let whole = bound-takes name.0.0 place.0.0.0 place.0.0.1 place.0.1 made.0 named.1 taken.1 made.1 in
    passed_on (made.0, place.0.1) found (StatementTook (fixed Let ∷ text)) made.2 (
      ap (λ (t : List Token). fixed Let ∷ t) named.0
          ∙ (ap (λ (t : List Token). fixed Let ∷ plain name.0.0 ∷ t) (expects-takes Equals name.0.1 equals.0 equals.1)
          ∙ (ap (λ (t : List Token). fixed Let ∷ plain name.0.0 ∷ fixed Equals ∷ t) taken.0 ∙ whole.0)),
      whole.1,
    )

say-takes : (text : List Token) (found : Statement × List Token) → say_at text ≡ given found → StatementTook (fixed Say ∷ fixed Opener ∷ text) found
unfolding say_at
say-takes text found e =
    let value = bind_some (closed_value_at text) _ found e in
    let end = bind_some (expects Semicolon value.0.1) _ found value.2 in
    let taken = closed_value-takes text value.0 value.1 in
    passed_on (statement.Say value.0.0, end.0) found (StatementTook (fixed Say ∷ fixed Opener ∷ text)) end.2 (
      ap (λ (t : List Token). fixed Say ∷ fixed Opener ∷ t) taken.0
          ∙ ap (λ (t : List Token). fixed Say ∷ fixed Opener ∷ value_then value.0.0 (fixed Closer ∷ t)) (expects-takes Semicolon value.0.1 end.0 end.1),
      taken.1,
    )

say_begun-takes : (text inside : List Token) → say_begun text ≡ given inside → text ≡ fixed Say ∷ fixed Opener ∷ inside
unfolding say_begun
say_begun-takes text inside e =
    let say = bind_some (expects Say text) (expects Opener) inside e in
    expects-takes Say text say.0 say.1 ∙ ap (λ (t : List Token). fixed Say ∷ t) (expects-takes Opener say.0 inside say.2)

say_or_operation-takes : (text : List Token) (hit : Option (List Token)) (found : Statement × List Token) → say_begun text ≡ hit → say_or_operation hit text ≡ given found → StatementTook text found
say_or_operation-takes text (Some inside) found hit e =
    let P : List Token → Type 0 = λ t. StatementTook t found in
    subst P (sym (say_begun-takes text inside hit)) (say-takes inside found e)
say_or_operation-takes text None found hit e = operation-takes text found e

let_or_other-takes : (text : List Token) (hit : Option (List Token)) (found : Statement × List Token) → expects Let text ≡ hit → let_or_other hit text ≡ given found → StatementTook text found
let_or_other-takes text (Some rest) found hit e =
    let P : List Token → Type 0 = λ t. StatementTook t found in
    subst P (sym (expects-takes Let text rest hit)) (let-takes rest found e)
let_or_other-takes text None found hit e = say_or_operation-takes text (say_begun text) found refl e

statement-takes : (text : List Token) (found : Statement × List Token) → statement_at text ≡ given found → StatementTook text found
unfolding statement_at
statement-takes text found e = let_or_other-takes text (expects Let text) found refl e

pub at_end : (rest : List Token) → is_end rest ≡ true → rest ≡ []
at_end [] e = refl
at_end (token ∷ rest) e = absurd cc

-- the tokens are those of the statement, and no more
pub whole-takes : (text : List Token) (found : Statement) → whole_statement text ≡ given found → (text ≡ statement_tokens found) × (is_valid found ≡ true)
unfolding whole_statement
whole-takes text found e =
    let read = bind_some (statement_at text) _ found e in
    let hit = if_some (is_end read.0.1) (given read.0.0) found read.2 in
    let taken = statement-takes text read.0 read.1 in
    passed_on read.0.0 found (λ s. (text ≡ statement_tokens s) × (is_valid s ≡ true)) hit.1
    (taken.0 ∙ ap (statement_then read.0.0) (at_end read.0.1 hit.0), taken.1)
