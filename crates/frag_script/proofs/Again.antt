-- What stands at the front of a text is read again: tokens, places and values.
use Rattle.std.proofs.Common.{ℕ, zero, suc, ◌≡◌, List, [], ◌∷◌, ◌++◌, Bool, true, false, Option, Some, None, refl, sym, ap, ◌∙◌, inl, inr}
use Rattle.std.specs.Prelude.{◌&&◌, not, replicate}
use Rattle.std.specs.List.{list_all}
use Rattle.std.specs.Str.{bytes_eq}
use Rattle.std.proofs.lemmas.Bool.{cases_Bool, and_parts}
use Rattle.std.proofs.lemmas.Slice.Eq.{bytes_eq-Decides}
use Rattle.text_scan.specs.Steps.{◌>>=◌}
use Rattle.frag_words.specs.Words.{Word}
use Rattle.rust_names.specs.Identifiers.{is_identifier}
use Rattle.rust_names.specs.Keywords.{is_keyword}
use Rattle.frag_tree.specs.declared.statement.Atom.{Atom}
use Rattle.frag_tree.specs.declared.statement.Atom.TheVariants as atom
use Rattle.frag_tree.specs.declared.statement.Link.{Link}
use Rattle.frag_tree.specs.declared.statement.Link.TheVariants as link
use Rattle.frag_tree.specs.declared.statement.Call.{Call}
use Rattle.frag_tree.specs.declared.statement.Source.{Source}
use Rattle.frag_tree.specs.declared.statement.Source.TheVariants as source
use Rattle.frag_tree.specs.declared.statement.Value.{Value}
use Rattle.pac_base.specs.declared.width.Width.{Width}
use Rattle.pac_base.specs.declared.width.Width.TheVariants.{W8, W16, W32, W64}
use Rattle.frag_script.specs.declared.fixed.Fixed.{Fixed}
use Rattle.frag_script.specs.declared.fixed.Fixed.TheVariants.{Bits, As, Truth, NumberType, Dot, Bar, Negation, Opener, Closer, Semicolon}
use Rattle.frag_script.specs.declared.part.Part.{Part}
use Rattle.frag_script.specs.declared.part.Part.TheVariants.{Item, End}
use Rattle.frag_script.specs.declared.place.Ending.{Ending}
use Rattle.frag_script.specs.declared.place.Ending.TheVariants.{Plain, Closure}
use Rattle.frag_script.specs.FixedWords.{text_of}
use Rattle.frag_script.specs.Reading.{Found, expects, name_at, number_at, empty_at, index_at, field_at, indexed_field_at, call_at, source_at, truth_at, width_at, source_atom_at, atom_at, negations, after_negations, value_at, closed_value_at, argument_at, field_link_at, filled_link_at, link_at, chain_part_at, run_at, gone_on}
use Rattle.frag_script.specs.Statements.{fixed, each_then, index_then, step_then, source_then, atom_then, value_then, argument_then, link_then, may_index, valid_field, valid_step, valid_source, valid_atom, valid_value, valid_argument, valid_link}
use Rattle.frag_script.specs.Tokens.{Token, number, plain}
use Rattle.frag_script.proofs.Negations.{negation_passed, negations_end}
use Rattle.frag_script.proofs.Runs.{Shrinks, run-some}
use Rattle.frag_script.proofs.Taking.{given, call_then, valid_call}
use Rattle.frag_script.proofs.TakenValues.{part_then, valid_part}

-- ---- one token

pub same_word : (word : Word) → bytes_eq word word ≡ true
same_word word = (bytes_eq-Decides word word).1 refl

pub expects-again : (word : Fixed) (rest : List Token) → expects word (fixed word ∷ rest) ≡ given rest
unfolding expects
expects-again word rest = rw (same_word (text_of word)) refl

-- a fixed word that is no identifier isn't a name
pub not_name : (word : Fixed) (name : Word) (rest : List Token) → is_identifier (text_of word) ≡ false → is_identifier name ≡ true → expects word (plain name ∷ rest) ≡ None
unfolding expects
not_name word name rest keyword valid =
    elim (cases_Bool (bytes_eq name (text_of word))) [
      | inl hit ↦ absurd (let both_ways : true ≡ false = sym valid ∙ (ap is_identifier ((bytes_eq-Decides name (text_of word)).0 hit) ∙ keyword) in cc)
      | inr other ↦ rw (other) refl
    ]

pub name-again : (name : Word) (rest : List Token) → is_identifier name ≡ true → name_at (plain name ∷ rest) ≡ given (name, rest)
unfolding name_at
name-again name rest valid = rw (valid) refl

pub number-again : (value : ℕ) (rest : List Token) → number_at (number value ∷ rest) ≡ given (value, rest)
unfolding number_at
number-again value rest = refl

pub no_number : (word : Word) (rest : List Token) → number_at (plain word ∷ rest) ≡ None
unfolding number_at
no_number word rest = refl

pub empty-again : (rest : List Token) → empty_at (fixed Opener ∷ fixed Closer ∷ rest) ≡ given rest
unfolding empty_at
empty-again rest = rw (expects-again Opener (fixed Closer ∷ rest)) (expects-again Closer rest)

pub not_fixed_number : (word : Fixed) (value : ℕ) (rest : List Token) → expects word (number value ∷ rest) ≡ None
unfolding expects
not_fixed_number word value rest = refl

pub other_fixed : (word other : Fixed) (rest : List Token) → bytes_eq (text_of other) (text_of word) ≡ false → expects word (fixed other ∷ rest) ≡ None
unfolding expects
other_fixed word other rest differ = rw (differ) refl

pub bits_name : is_identifier (text_of Bits) ≡ true
unfolding text_of is_keyword
bits_name = refl

bang_no_name : is_identifier (text_of Negation) ≡ false
unfolding text_of
bang_no_name = refl

bang_no_truth : (truth : Bool) → bytes_eq (text_of (Truth truth)) (text_of Negation) ≡ false
unfolding text_of
bang_no_truth true = refl
bang_no_truth false = refl

closer_no_name : is_identifier (text_of Closer) ≡ false
unfolding text_of
closer_no_name = refl

closer_no_truth : (truth : Bool) → bytes_eq (text_of (Truth truth)) (text_of Closer) ≡ false
unfolding text_of
closer_no_truth true = refl
closer_no_truth false = refl

as_no_dot : (rest : List Token) → expects Dot (fixed As ∷ rest) ≡ None
unfolding text_of
as_no_dot rest = other_fixed Dot As rest refl

-- ---- places

step_index-again : (name : Word) (index : Option ℕ) (rest : List Token) → is_identifier name ≡ true → expects Semicolon rest ≡ None → call_at (step_then (record { name = name; index = index }) rest) ≡ given (Item (record { name = name; index = index }), rest)
unfolding call_at index_at text_of
step_index-again name None rest valid free =
    rw (expects-again Dot (plain name ∷ fixed Opener ∷ fixed Closer ∷ rest), name-again name (fixed Opener ∷ fixed Closer ∷ rest) valid, expects-again Opener (fixed Closer ∷ rest), other_fixed Bar Closer rest refl, expects-again Closer rest, free) refl
step_index-again name (Some index) rest valid free =
    rw (expects-again Dot (plain name ∷ fixed Opener ∷ number index ∷ fixed Closer ∷ rest), name-again name (fixed Opener ∷ number index ∷ fixed Closer ∷ rest) valid, expects-again Opener (number index ∷ fixed Closer ∷ rest), not_fixed_number Bar index (fixed Closer ∷ rest), not_fixed_number Closer index (fixed Closer ∷ rest), number-again index (fixed Closer ∷ rest), expects-again Closer rest) refl

pub step-again : (step : Call) (rest : List Token) → valid_step step ≡ true → expects Semicolon rest ≡ None → call_at (call_then (Item step) rest) ≡ given (Item step, rest)
step-again step rest valid free = step_index-again step.name step.index rest valid free

pub ending-again : (ending : Ending) (rest : List Token) → valid_call (End ending) ≡ true → call_at (call_then (End ending) rest) ≡ given (End ending, rest)
unfolding call_at text_of
ending-again (Plain call) rest valid =
    rw (expects-again Dot (plain call ∷ fixed Opener ∷ fixed Closer ∷ fixed Semicolon ∷ rest), name-again call (fixed Opener ∷ fixed Closer ∷ fixed Semicolon ∷ rest) valid, expects-again Opener (fixed Closer ∷ fixed Semicolon ∷ rest), other_fixed Bar Closer (fixed Semicolon ∷ rest) refl, expects-again Closer (fixed Semicolon ∷ rest), expects-again Semicolon rest) refl
ending-again (Closure call) rest valid =
    rw (expects-again Dot (plain call ∷ fixed Opener ∷ fixed Bar ∷ rest), name-again call (fixed Opener ∷ fixed Bar ∷ rest) valid, expects-again Opener (fixed Bar ∷ rest), expects-again Bar rest) refl

-- ---- runs

run_on : {X E : Type 0} (item : X) (rest : List Token) (others : List Token → Found (List X × E)) (items : List X) (end : E) (left : List Token) → others rest ≡ given ((items, end), left) → gone_on (Item item) rest others ≡ given ((item ∷ items, end), left)
run_on {X} {E} item rest others items end left e = ap (λ (o : Found (List X × E)). o >>= λ more. Some ((item ∷ more.0.0, more.0.1), more.1)) e

pub run-again : {X E : Type 0} (part_at : List Token → Found (Part X E)) (tokens_of : Part X E → List Token → List Token) (is_valid : Part X E → Bool) (Free : List Token → Type 0) → Shrinks part_at → ((item : X) (tail : List Token) → is_valid (Item item) ≡ true → Free tail → part_at (tokens_of (Item item) tail) ≡ given (Item item, tail)) → ((end : E) (tail : List Token) → is_valid (End end) ≡ true → part_at (tokens_of (End end) tail) ≡ given (End end, tail)) → ((part : Part X E) (tail : List Token) → Free (tokens_of part tail)) → (items : List X) (end : E) (rest : List Token) → list_all (λ item. is_valid (Item item)) items ≡ true → is_valid (End end) ≡ true → run_at part_at (each_then (λ item. tokens_of (Item item)) items (tokens_of (End end) rest)) ≡ given ((items, end), rest)
run-again part_at tokens_of is_valid Free shrinks item_again end_again free [] end rest valid ends = run-some part_at shrinks (tokens_of (End end) rest) (End end) rest (end_again end rest ends)
run-again part_at tokens_of is_valid Free shrinks item_again end_again free (item ∷ []) end rest valid ends =
    let parts = and_parts (is_valid (Item item)) _ valid in
    run-some part_at shrinks (tokens_of (Item item) (tokens_of (End end) rest)) (Item item) (tokens_of (End end) rest) (item_again item (tokens_of (End end) rest) parts.0 (free (End end) rest))
    ∙ run_on item (tokens_of (End end) rest) (run_at part_at) [] end rest (run-again part_at tokens_of is_valid Free shrinks item_again end_again free [] end rest refl ends)
run-again part_at tokens_of is_valid Free shrinks item_again end_again free (item ∷ (second ∷ items)) end rest valid ends =
    let parts = and_parts (is_valid (Item item)) _ valid in
    let tail = each_then (λ x. tokens_of (Item x)) (second ∷ items) (tokens_of (End end) rest) in
    run-some part_at shrinks (tokens_of (Item item) tail) (Item item) tail (item_again item tail parts.0 (free (Item second) (each_then (λ x. tokens_of (Item x)) items (tokens_of (End end) rest))))
    ∙ run_on item tail (run_at part_at) (second ∷ items) end rest (run-again part_at tokens_of is_valid Free shrinks item_again end_again free (second ∷ items) end rest parts.1 ends)

-- ---- values

not_bits : (hit : Bool) → not hit ≡ true → hit ≡ false
not_bits true h = absurd cc
not_bits false h = refl

field_index-again : (name : Word) (index : Option ℕ) (rest : List Token) → is_identifier name ≡ true → may_index name index ≡ true → field_at (plain name ∷ index_then index rest) ≡ given (record { name = name; index = index }, rest)
unfolding field_at indexed_field_at index_at
field_index-again name None rest valid may =
    rw (name-again name (fixed Opener ∷ fixed Closer ∷ rest) valid, expects-again Opener (fixed Closer ∷ rest), expects-again Closer rest) refl
field_index-again name (Some index) rest valid may =
    rw (name-again name (fixed Opener ∷ number index ∷ fixed Closer ∷ rest) valid, expects-again Opener (number index ∷ fixed Closer ∷ rest), not_fixed_number Closer index (fixed Closer ∷ rest), not_bits (bytes_eq name (text_of Bits)) may, number-again index (fixed Closer ∷ rest), expects-again Closer rest) refl

field-again : (field : Call) (rest : List Token) → valid_field field ≡ true → field_at (plain field.name ∷ index_then field.index rest) ≡ given (field, rest)
field-again field rest valid =
    let parts = and_parts (is_identifier field.name) (may_index field.name field.index) valid in
    field_index-again field.name field.index rest parts.0 parts.1

pub source-again : (read : Source) (rest : List Token) → valid_source read ≡ true → expects Dot rest ≡ None → source_at (source_then read rest) ≡ given (read, rest)
unfolding source_at
source-again (source.Bits reader) rest valid free =
    rw (name-again reader (fixed Dot ∷ fixed Bits ∷ fixed Opener ∷ fixed Closer ∷ rest) valid, expects-again Dot (fixed Bits ∷ fixed Opener ∷ fixed Closer ∷ rest), field_index-again (text_of Bits) None rest bits_name refl, free, same_word (text_of Bits)) refl
source-again (source.Field reader field method) rest valid free =
    let parts = and_parts (is_identifier reader) (valid_field field && is_identifier method) valid in
    let others = and_parts (valid_field field) (is_identifier method) parts.1 in
    let tail = fixed Dot ∷ plain method ∷ fixed Opener ∷ fixed Closer ∷ rest in
    rw (
      name-again reader (step_then field tail) parts.0,
      expects-again Dot (plain field.name ∷ index_then field.index tail),
      field-again field tail others.0,
      expects-again Dot (plain method ∷ fixed Opener ∷ fixed Closer ∷ rest),
      name-again method (fixed Opener ∷ fixed Closer ∷ rest) others.1,
      empty-again rest,
    ) refl

truth-again : (truth : Bool) (rest : List Token) → truth_at (fixed (Truth truth) ∷ rest) ≡ given (truth, rest)
unfolding truth_at text_of
truth-again true rest = rw (expects-again (Truth true) rest) refl
truth-again false rest = rw (other_fixed (Truth true) (Truth false) rest refl, expects-again (Truth false) rest) refl

width-again : (width : Width) (rest : List Token) → width_at (fixed (NumberType width) ∷ rest) ≡ given (width, rest)
unfolding width_at text_of
width-again W8 rest = rw (expects-again (NumberType W8) rest) refl
width-again W16 rest = rw (other_fixed (NumberType W8) (NumberType W16) rest refl, expects-again (NumberType W16) rest) refl
width-again W32 rest = rw (other_fixed (NumberType W8) (NumberType W32) rest refl, other_fixed (NumberType W16) (NumberType W32) rest refl, expects-again (NumberType W32) rest) refl
width-again W64 rest = rw (other_fixed (NumberType W8) (NumberType W64) rest refl, other_fixed (NumberType W16) (NumberType W64) rest refl, other_fixed (NumberType W32) (NumberType W64) rest refl, expects-again (NumberType W64) rest) refl

truth_word_is : (truth : Bool) → is_identifier (text_of (Truth truth)) ≡ false
unfolding text_of is_keyword
truth_word_is true = refl
truth_word_is false = refl

-- a fixed word that no atom begins with
source-not : (word : Fixed) (read : Source) (rest : List Token) → is_identifier (text_of word) ≡ false → valid_source read ≡ true → expects word (source_then read rest) ≡ None
source-not word (source.Bits reader) rest keyword valid = not_name word reader (fixed Dot ∷ fixed Bits ∷ fixed Opener ∷ fixed Closer ∷ rest) keyword valid
source-not word (source.Field reader field method) rest keyword valid =
    not_name word reader (step_then field (fixed Dot ∷ plain method ∷ fixed Opener ∷ fixed Closer ∷ rest)) keyword (and_parts (is_identifier reader) (valid_field field && is_identifier method) valid).0

source_no_number : (read : Source) (rest : List Token) → number_at (source_then read rest) ≡ None
unfolding number_at
source_no_number (source.Bits reader) rest = refl
source_no_number (source.Field reader field method) rest = refl

source_no_truth : (read : Source) (rest : List Token) → valid_source read ≡ true → truth_at (source_then read rest) ≡ None
unfolding truth_at
source_no_truth read rest valid = rw (source-not (Truth true) read rest (truth_word_is true) valid, source-not (Truth false) read rest (truth_word_is false) valid) refl

atom-not : (word : Fixed) (read : Atom) (rest : List Token) → is_identifier (text_of word) ≡ false → ((truth : Bool) → bytes_eq (text_of (Truth truth)) (text_of word) ≡ false) → valid_atom read ≡ true → expects word (atom_then read rest) ≡ None
atom-not word (atom.Number value) rest keyword differ valid = not_fixed_number word value rest
atom-not word (atom.Truth truth) rest keyword differ valid = other_fixed word (Truth truth) rest (differ truth)
atom-not word (atom.Source read) rest keyword differ valid = source-not word read rest keyword valid
atom-not word (atom.Cast read width) rest keyword differ valid = source-not word read (fixed As ∷ fixed (NumberType width) ∷ rest) keyword valid

source_atom-again : (read : Source) (rest : List Token) → valid_source read ≡ true → atom_at (source_then read (fixed Closer ∷ rest)) ≡ given (atom.Source read, fixed Closer ∷ rest)
unfolding atom_at source_atom_at text_of
source_atom-again read rest valid =
    rw (source_no_number read (fixed Closer ∷ rest), source_no_truth read (fixed Closer ∷ rest) valid, source-again read (fixed Closer ∷ rest) valid (other_fixed Dot Closer rest refl), other_fixed As Closer rest refl) refl

cast-again : (read : Source) (width : Width) (rest : List Token) → valid_source read ≡ true → atom_at (source_then read (fixed As ∷ fixed (NumberType width) ∷ rest)) ≡ given (atom.Cast read width, rest)
unfolding atom_at source_atom_at
cast-again read width rest valid =
    let tail = fixed As ∷ fixed (NumberType width) ∷ rest in
    rw (source_no_number read tail, source_no_truth read tail valid, source-again read tail valid (as_no_dot (fixed (NumberType width) ∷ rest)), expects-again As (fixed (NumberType width) ∷ rest), width-again width rest) refl

atom-again : (read : Atom) (rest : List Token) → valid_atom read ≡ true → atom_at (atom_then read (fixed Closer ∷ rest)) ≡ given (read, fixed Closer ∷ rest)
unfolding atom_at
atom-again (atom.Number value) rest valid = rw (number-again value (fixed Closer ∷ rest)) refl
atom-again (atom.Truth truth) rest valid = rw (no_number (text_of (Truth truth)) (fixed Closer ∷ rest), truth-again truth (fixed Closer ∷ rest)) refl
atom-again (atom.Source read) rest valid = source_atom-again read rest valid
atom-again (atom.Cast read width) rest valid = cast-again read width (fixed Closer ∷ rest) valid

-- the `!` in front of a text that begins with none
pub record Negated (count : ℕ) (text rest : List Token) : Type 0 where
  pub counted : negations text ≡ count
  pub passed : after_negations text ≡ rest

negated : (count : ℕ) (rest : List Token) → expects Negation rest ≡ None → Negated count (replicate count (fixed Negation) ++ rest) rest
negated zero rest free = let end = negations_end rest (sym free) in record { counted = end.0; passed = end.1 }
negated (suc count) rest free =
    let more = negated count rest free in
    let one = negation_passed (fixed Negation ∷ (replicate count (fixed Negation) ++ rest)) (replicate count (fixed Negation) ++ rest) (sym (expects-again Negation _)) in
    record { counted = one.counted ∙ ap suc more.counted; passed = one.passed ∙ more.passed }

no_bang : (read : Atom) (rest : List Token) → valid_atom read ≡ true → expects Negation (atom_then read rest) ≡ None
no_bang read rest valid = atom-not Negation read rest bang_no_name bang_no_truth valid

pub closed_value-again : (value : Value) (rest : List Token) → valid_value value ≡ true → closed_value_at (value_then value (fixed Closer ∷ rest)) ≡ given (value, rest)
unfolding closed_value_at value_at
closed_value-again value rest valid =
    let front = negated value.negations (atom_then value.atom (fixed Closer ∷ rest)) (no_bang value.atom (fixed Closer ∷ rest) valid) in
    rw (front.passed, atom-again value.atom rest valid, front.counted, expects-again Closer rest) refl

-- a value doesn't begin with `)`
count_not : (count : ℕ) (read : Atom) (rest : List Token) → valid_atom read ≡ true → expects Closer (replicate count (fixed Negation) ++ atom_then read rest) ≡ None
unfolding text_of
count_not zero read rest valid = atom-not Closer read rest closer_no_name closer_no_truth valid
count_not (suc count) read rest valid = other_fixed Closer Negation (replicate count (fixed Negation) ++ atom_then read rest) refl

value-not : (value : Value) (rest : List Token) → valid_value value ≡ true → expects Closer (value_then value rest) ≡ None
value-not value rest valid = count_not value.negations value.atom rest valid

-- ---- chains

pub argument-again : (value : Option Value) (rest : List Token) → valid_argument value ≡ true → argument_at (argument_then value rest) ≡ given (value, rest)
unfolding argument_at
argument-again None rest valid = rw (expects-again Opener (fixed Closer ∷ rest), expects-again Closer rest) refl
argument-again (Some value) rest valid =
    rw (expects-again Opener (value_then value (fixed Closer ∷ rest)), value-not value (fixed Closer ∷ rest) valid, closed_value-again value rest valid) refl

field_link-again : (name : Word) (index : Option ℕ) (method : Word) (value : Option Value) (rest : List Token) → is_identifier name ≡ true → may_index name index ≡ true → is_identifier method ≡ true → valid_argument value ≡ true → link_at (step_then (record { name = name; index = index }) (fixed Dot ∷ plain method ∷ argument_then value rest)) ≡ given (link.Field (record { name = name; index = index }) method value, rest)
unfolding link_at field_link_at filled_link_at indexed_field_at index_at
field_link-again name None method value rest valid may of_method of_value =
    let tail = fixed Dot ∷ plain method ∷ argument_then value rest in
    rw (expects-again Dot (plain name ∷ fixed Opener ∷ fixed Closer ∷ tail), name-again name (fixed Opener ∷ fixed Closer ∷ tail) valid, expects-again Opener (fixed Closer ∷ tail), expects-again Closer tail, expects-again Dot (plain method ∷ argument_then value rest), name-again method (argument_then value rest) of_method, argument-again value rest of_value) refl
field_link-again name (Some index) method value rest valid may of_method of_value =
    let tail = fixed Dot ∷ plain method ∷ argument_then value rest in
    rw (expects-again Dot (plain name ∷ fixed Opener ∷ number index ∷ fixed Closer ∷ tail), name-again name (fixed Opener ∷ number index ∷ fixed Closer ∷ tail) valid, expects-again Opener (number index ∷ fixed Closer ∷ tail), not_fixed_number Closer index (fixed Closer ∷ tail), not_bits (bytes_eq name (text_of Bits)) may, number-again index (fixed Closer ∷ tail), expects-again Closer tail, expects-again Dot (plain method ∷ argument_then value rest), name-again method (argument_then value rest) of_method, argument-again value rest of_value) refl

link-again : (read : Link) (rest : List Token) → valid_link read ≡ true → link_at (link_then read rest) ≡ given (read, rest)
unfolding link_at filled_link_at
link-again (link.Bits value) rest valid =
    rw (expects-again Dot (fixed Bits ∷ argument_then (Some value) rest), name-again (text_of Bits) (argument_then (Some value) rest) bits_name, expects-again Opener (value_then value (fixed Closer ∷ rest)), value-not value (fixed Closer ∷ rest) valid, same_word (text_of Bits), closed_value-again value rest valid) refl
link-again (link.Field field method value) rest valid =
    let parts = and_parts (valid_field field) (is_identifier method && valid_argument value) valid in
    let others = and_parts (is_identifier method) (valid_argument value) parts.1 in
    let named = and_parts (is_identifier field.name) (may_index field.name field.index) parts.0 in
    field_link-again field.name field.index method value rest named.0 named.1 others.0 others.1

link_no_closer : (read : Link) (rest : List Token) → expects Closer (link_then read rest) ≡ None
unfolding text_of
link_no_closer (link.Bits value) rest = other_fixed Closer Dot (fixed Bits ∷ argument_then (Some value) rest) refl
link_no_closer (link.Field field method value) rest = other_fixed Closer Dot (plain field.name ∷ index_then field.index (fixed Dot ∷ plain method ∷ argument_then value rest)) refl

pub link_part-again : (read : Link) (rest : List Token) → valid_part (Item read) ≡ true → chain_part_at (part_then (Item read) rest) ≡ given (Item read, rest)
unfolding chain_part_at
link_part-again read rest valid = rw (link_no_closer read rest, link-again read rest valid) refl

pub closer-again : (end : Unit {0}) (rest : List Token) → chain_part_at (part_then (End end) rest) ≡ given (End end, rest)
unfolding chain_part_at
closer-again end rest = rw (expects-again Closer rest) refl
