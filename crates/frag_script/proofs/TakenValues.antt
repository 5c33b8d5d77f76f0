-- What reading gives of values and chains stands at the front of the text.
use Rattle.std.proofs.Common.{ℕ, zero, suc, ◌≡◌, ◌<◌, ◌≤◌, arith, List, ◌∷◌, ◌++◌, length, Bool, true, false, Option, Some, None, refl, sym, ap, ◌∙◌, subst}
use Rattle.std.specs.Prelude.{not, replicate, if◌then◌else◌}
use Rattle.std.proofs.lemmas.Bool.{and_parts}
use Rattle.text_scan.specs.Steps.{◌>>=◌}
use Rattle.std.specs.Str.{bytes_eq}
use Rattle.std.proofs.lemmas.Slice.Eq.{bytes_eq-Decides}
use Rattle.text_scan.proofs.Steps.{bind_some}
use Rattle.frag_words.specs.Words.{Word}
use Rattle.rust_names.specs.Identifiers.{is_identifier}
use Rattle.frag_tree.specs.declared.statement.Atom.{Atom}
use Rattle.frag_tree.specs.declared.statement.Atom.TheVariants as atom
use Rattle.frag_tree.specs.declared.statement.Call.{Call}
use Rattle.frag_tree.specs.declared.statement.Link.{Link}
use Rattle.frag_tree.specs.declared.statement.Link.TheVariants as link
use Rattle.frag_tree.specs.declared.statement.Source.{Source}
use Rattle.frag_tree.specs.declared.statement.Source.TheVariants as source
use Rattle.frag_tree.specs.declared.statement.Value.{Value}
use Rattle.pac_base.specs.declared.width.Width.{Width}
use Rattle.pac_base.specs.declared.width.Width.TheVariants.{W8, W16, W32, W64}
use Rattle.frag_script.specs.declared.fixed.Fixed.{Fixed}
use Rattle.frag_script.specs.declared.fixed.Fixed.TheVariants.{Bits, As, Truth, NumberType, Dot, Negation, Opener, Closer}
use Rattle.frag_script.specs.declared.part.Part.{Part}
use Rattle.frag_script.specs.declared.part.Part.TheVariants.{Item, End}
use Rattle.frag_script.specs.FixedWords.{text_of}
use Rattle.frag_script.specs.Reading.{Found, expects, name_at, number_at, empty_at, field_at, indexed_field_at, source_of, source_at, tried, truth_at, width_at, cast_of, source_atom_at, truth_or_source, number_or_other, atom_at, negations, after_negations, value_at, closed_value_at, argument_of, argument_at, field_link_at, filled_link_at, link_of, link_at, chain_part_of, chain_part_at}
use Rattle.frag_script.specs.Statements.{fixed, index_then, step_then, source_then, atom_then, value_then, argument_then, link_then, may_index, valid_field, valid_source, valid_atom, valid_value, valid_argument, valid_link}
use Rattle.frag_script.specs.Tokens.{Token, plain}
use Rattle.frag_script.proofs.Negations.{negations-whole}
use Rattle.frag_script.proofs.Taking.{given, passed_on, both, if_some, Took, expects-takes, name-takes, number-takes, empty-takes, opened, shorter_index, field-takes, indexed_field-takes}

-- `READER . FIELD ( )` or `READER . FIELD ( NUMBER )`, and then a rest
abbrev reading : Word → Call → List Token → List Token
reading reader field rest = plain reader ∷ step_then field rest

-- a field `bits` has no index
no_index : (name : Word) (index : Option ℕ) → bytes_eq name (text_of Bits) ≡ true → may_index name index ≡ true → index ≡ None
no_index name None hit may = refl
no_index name (Some index) hit may = absurd (let both_ways : false ≡ true = sym (ap not hit) ∙ may in cc)

source_of-takes : (reader : Word) (field : Call) (text : List Token) (dot : Option (List Token)) (found : Source × List Token) → is_identifier reader ≡ true → valid_field field ≡ true → expects Dot text ≡ dot → source_of reader field dot text ≡ given found → Took source_then valid_source (reading reader field text) found
source_of-takes reader field text (Some behind) found valid_reader of_field dot e =
    let method = bind_some (name_at behind) _ found e in
    let end = bind_some (empty_at method.0.1) _ found method.2 in
    let named = name-takes behind method.0 method.1 in
    let whole : text ≡ fixed Dot ∷ plain method.0.0 ∷ fixed Opener ∷ fixed Closer ∷ end.0 =
    expects-takes Dot text behind dot ∙ (ap (λ (t : List Token). fixed Dot ∷ t) named.0 ∙ ap (λ (t : List Token). fixed Dot ∷ plain method.0.0 ∷ t) (empty-takes method.0.1 end.0 end.1)) in
    passed_on (source.Field reader field method.0.0, end.0) found (Took source_then valid_source (reading reader field text)) end.2
    (ap (reading reader field) whole, both _ _ valid_reader (both _ _ of_field named.1))
source_of-takes reader field text None found valid_reader of_field dot e =
    let hit = if_some (bytes_eq field.name (text_of Bits)) (given (source.Bits reader, text)) found e in
    let same : field.name ≡ text_of Bits = (bytes_eq-Decides field.name (text_of Bits)).0 hit.0 in
    let none = no_index field.name field.index hit.0 (and_parts (is_identifier field.name) (may_index field.name field.index) of_field).1 in
    passed_on (source.Bits reader, text) found (Took source_then valid_source (reading reader field text)) hit.1
    (ap (λ (word : Word). plain reader ∷ fixed Dot ∷ plain word ∷ index_then field.index text) same ∙ ap (λ (o : Option ℕ). plain reader ∷ fixed Dot ∷ fixed Bits ∷ index_then o text) none, valid_reader)

pub source-takes : (text : List Token) (found : Source × List Token) → source_at text ≡ given found → Took source_then valid_source text found
unfolding source_at
source-takes text found e =
    let reader = bind_some (name_at text) _ found e in
    let dot = bind_some (expects Dot reader.0.1) _ found reader.2 in
    let field = bind_some (field_at dot.0) _ found dot.2 in
    let first = name-takes text reader.0 reader.1 in
    let second = field-takes dot.0 field.0 field.1 in
    let whole : text ≡ reading reader.0.0 field.0.0 field.0.1 =
    first.0 ∙ ap (λ (t : List Token). plain reader.0.0 ∷ t) (expects-takes Dot reader.0.1 dot.0 dot.1 ∙ second.0) in
    let P : List Token → Type 0 = λ t. Took source_then valid_source t found in
    subst P (sym whole) (source_of-takes reader.0.0 field.0.0 field.0.1 (expects Dot field.0.1) found first.1 second.1 refl field.2)

-- one of several fixed words
abbrev Spelled : {A : Type 0} → (A → Fixed) → List Token → A × List Token → Type 0
Spelled spell text found = text ≡ fixed (spell found.0) ∷ found.1

tried-takes : {A : Type 0} (spell : A → Fixed) (value : A) (text : List Token) (hit : Option (List Token)) (other : Found A) (found : A × List Token) → expects (spell value) text ≡ hit → tried value hit other ≡ given found → (other ≡ given found → Spelled spell text found) → Spelled spell text found
tried-takes spell value text (Some rest) other found hit e next = passed_on (value, rest) found (Spelled spell text) e (expects-takes (spell value) text rest hit)
tried-takes spell value text None other found hit e next = next e

abbrev nothing : {A : Type 0} → Found A
nothing = None

no_more : {A : Type 0} (spell : A → Fixed) (text : List Token) (found : A × List Token) → nothing {A = A} ≡ given found → Spelled spell text found
no_more spell text found e = absurd cc

truth-takes : (text : List Token) (found : Bool × List Token) → truth_at text ≡ given found → Spelled Truth text found
unfolding truth_at
truth-takes text found e =
    tried-takes Truth true text (expects (Truth true) text) _ found refl e (λ e2.
    tried-takes Truth false text (expects (Truth false) text) _ found refl e2 (no_more Truth text found))

width-takes : (text : List Token) (found : Width × List Token) → width_at text ≡ given found → Spelled NumberType text found
unfolding width_at
width-takes text found e =
    tried-takes NumberType W8 text (expects (NumberType W8) text) _ found refl e (λ e2.
    tried-takes NumberType W16 text (expects (NumberType W16) text) _ found refl e2 (λ e3.
    tried-takes NumberType W32 text (expects (NumberType W32) text) _ found refl e3 (λ e4.
    tried-takes NumberType W64 text (expects (NumberType W64) text) _ found refl e4 (no_more NumberType text found))))

cast_of-takes : (read : Source) (text rest : List Token) (hit : Option (List Token)) (found : Atom × List Token) → text ≡ source_then read rest → valid_source read ≡ true → expects As rest ≡ hit → cast_of read hit rest ≡ given found → Took atom_then valid_atom text found
cast_of-takes read text rest (Some behind) found whole valid hit e =
    let width = bind_some (width_at behind) _ found e in
    passed_on (atom.Cast read width.0.0, width.0.1) found (Took atom_then valid_atom text) width.2
    (whole ∙ (ap (source_then read) (expects-takes As rest behind hit) ∙ ap (λ (t : List Token). source_then read (fixed As ∷ t)) (width-takes behind width.0 width.1)), valid)
cast_of-takes read text rest None found whole valid hit e =
    passed_on (atom.Source read, rest) found (Took atom_then valid_atom text) e (whole, valid)

source_atom-takes : (text : List Token) (found : Atom × List Token) → source_atom_at text ≡ given found → Took atom_then valid_atom text found
unfolding source_atom_at
source_atom-takes text found e =
    let read = bind_some (source_at text) _ found e in
    let taken = source-takes text read.0 read.1 in
    cast_of-takes read.0.0 text read.0.1 (expects As read.0.1) found taken.0 taken.1 refl read.2

truth_or_source-takes : (text : List Token) (hit : Found Bool) (found : Atom × List Token) → truth_at text ≡ hit → truth_or_source hit text ≡ given found → Took atom_then valid_atom text found
truth_or_source-takes text (Some truth) found hit e =
    passed_on (atom.Truth truth.0, truth.1) found (Took atom_then valid_atom text) e (truth-takes text truth hit, refl)
truth_or_source-takes text None found hit e = source_atom-takes text found e

number_or_other-takes : (text : List Token) (hit : Found ℕ) (found : Atom × List Token) → number_at text ≡ hit → number_or_other hit text ≡ given found → Took atom_then valid_atom text found
number_or_other-takes text (Some value) found hit e =
    passed_on (atom.Number value.0, value.1) found (Took atom_then valid_atom text) e (number-takes text value hit, refl)
number_or_other-takes text None found hit e = truth_or_source-takes text (truth_at text) found refl e

atom-takes : (text : List Token) (found : Atom × List Token) → atom_at text ≡ given found → Took atom_then valid_atom text found
unfolding atom_at
atom-takes text found e = number_or_other-takes text (number_at text) found refl e

pub value-takes : (text : List Token) (found : Value × List Token) → value_at text ≡ given found → Took value_then valid_value text found
unfolding value_at
value-takes text found e =
    let read = bind_some (atom_at (after_negations text)) _ found e in
    let taken = atom-takes (after_negations text) read.0 read.1 in
    let whole : text ≡ replicate (negations text) (fixed Negation) ++ atom_then read.0.0 read.0.1 =
    negations-whole text ∙ ap (λ (t : List Token). replicate (negations text) (fixed Negation) ++ t) taken.0 in
    passed_on (record { negations = negations text; atom = read.0.0 }, read.0.1) found (Took value_then valid_value text) read.2 (whole, taken.1)

-- ---- chains

-- a value, and then `)`
abbrev closed_then : Value → List Token → List Token
closed_then value rest = value_then value (fixed Closer ∷ rest)

pub closed_value-takes : (text : List Token) (found : Value × List Token) → closed_value_at text ≡ given found → Took closed_then valid_value text found
unfolding closed_value_at
closed_value-takes text found e =
    let value = bind_some (value_at text) _ found e in
    let closer = bind_some (expects Closer value.0.1) _ found value.2 in
    let taken = value-takes text value.0 value.1 in
    passed_on (value.0.0, closer.0) found (Took closed_then valid_value text) closer.2
    (taken.0 ∙ ap (value_then value.0.0) (expects-takes Closer value.0.1 closer.0 closer.1), taken.1)

argument_of-takes : (inside : List Token) (closer : Option (List Token)) (found : Option Value × List Token) → expects Closer inside ≡ closer → argument_of closer inside ≡ given found → Took argument_then valid_argument (fixed Opener ∷ inside) found
argument_of-takes inside (Some rest) found closer e =
    passed_on (None, rest) found (Took argument_then valid_argument (fixed Opener ∷ inside)) e (ap (λ (t : List Token). fixed Opener ∷ t) (expects-takes Closer inside rest closer), refl)
argument_of-takes inside None found closer e =
    let value = bind_some (closed_value_at inside) _ found e in
    let taken = closed_value-takes inside value.0 value.1 in
    passed_on (Some value.0.0, value.0.1) found (Took argument_then valid_argument (fixed Opener ∷ inside)) value.2 (ap (λ (t : List Token). fixed Opener ∷ t) taken.0, taken.1)

argument-takes : (text : List Token) (found : Option Value × List Token) → argument_at text ≡ given found → Took argument_then valid_argument text found
unfolding argument_at
argument-takes text found e =
    let opener = bind_some (expects Opener text) _ found e in
    let P : List Token → Type 0 = λ t. Took argument_then valid_argument t found in
    subst P (sym (expects-takes Opener text opener.0 opener.1)) (argument_of-takes opener.0 (expects Closer opener.0) found refl opener.2)

field_link-takes : (field : Call) (text : List Token) (found : Link × List Token) → valid_field field ≡ true → field_link_at field text ≡ given found → Took link_then valid_link (step_then field text) found
unfolding field_link_at
field_link-takes field text found valid e =
    let dot = bind_some (expects Dot text) _ found e in
    let method = bind_some (name_at dot.0) _ found dot.2 in
    let value = bind_some (argument_at method.0.1) _ found method.2 in
    let named = name-takes dot.0 method.0 method.1 in
    let taken = argument-takes method.0.1 value.0 value.1 in
    let whole : text ≡ fixed Dot ∷ plain method.0.0 ∷ argument_then value.0.0 value.0.1 =
    expects-takes Dot text dot.0 dot.1 ∙ (ap (λ (t : List Token). fixed Dot ∷ t) named.0 ∙ ap (λ (t : List Token). fixed Dot ∷ plain method.0.0 ∷ t) taken.0) in
    passed_on (link.Field field method.0.0 value.0.0, value.0.1) found (Took link_then valid_link (step_then field text)) value.2
    (ap (step_then field) whole, both _ _ valid (both _ _ named.1 taken.1))

filled_link-takes : (name : Word) (text : List Token) (found : Link × List Token) (hit : Bool) → is_identifier name ≡ true → bytes_eq name (text_of Bits) ≡ hit → (if hit then (closed_value_at text >>= λ value. Some (link.Bits value.0, value.1)) else (indexed_field_at name text >>= λ field. field_link_at field.0 field.1)) ≡ given found → Took link_then valid_link (opened name text) found
filled_link-takes name text found true valid hit e =
    let same : name ≡ text_of Bits = (bytes_eq-Decides name (text_of Bits)).0 hit in
    let value = bind_some (closed_value_at text) _ found e in
    let taken = closed_value-takes text value.0 value.1 in
    passed_on (link.Bits value.0.0, value.0.1) found (Took link_then valid_link (opened name text)) value.2
    (ap (λ (word : Word). opened word text) same ∙ ap (opened (text_of Bits)) taken.0, taken.1)
filled_link-takes name text found false valid hit e =
    let field = bind_some (indexed_field_at name text) _ found e in
    let taken = indexed_field-takes name text field.0 valid field.1 in
    let P : List Token → Type 0 = λ t. Took link_then valid_link t found in
    subst P (sym taken.0) (field_link-takes field.0.0 field.0.1 found taken.1 field.2)

link_of-takes : (name : Word) (inside : List Token) (closer : Option (List Token)) (found : Link × List Token) → is_identifier name ≡ true → expects Closer inside ≡ closer → link_of name closer inside ≡ given found → Took link_then valid_link (opened name inside) found
unfolding filled_link_at
link_of-takes name inside (Some rest) found valid closer e =
    let P : List Token → Type 0 = λ t. Took link_then valid_link (opened name t) found in
    subst P (sym (expects-takes Closer inside rest closer)) (field_link-takes (record { name = name; index = None }) rest found (both _ _ valid refl) e)
link_of-takes name inside None found valid closer e = filled_link-takes name inside found (bytes_eq name (text_of Bits)) valid refl e

pub link-takes : (text : List Token) (found : Link × List Token) → link_at text ≡ given found → Took link_then valid_link text found
unfolding link_at
link-takes text found e =
    let dot = bind_some (expects Dot text) _ found e in
    let name = bind_some (name_at dot.0) _ found dot.2 in
    let opener = bind_some (expects Opener name.0.1) _ found name.2 in
    let named = name-takes dot.0 name.0 name.1 in
    let whole : text ≡ opened name.0.0 opener.0 =
    expects-takes Dot text dot.0 dot.1 ∙ (ap (λ (t : List Token). fixed Dot ∷ t) named.0 ∙ ap (λ (t : List Token). fixed Dot ∷ plain name.0.0 ∷ t) (expects-takes Opener name.0.1 opener.0 opener.1)) in
    let P : List Token → Type 0 = λ t. Took link_then valid_link t found in
    subst P (sym whole) (link_of-takes name.0.0 opener.0 (expects Closer opener.0) found named.1 refl opener.2)

abbrev pub part_then : Part Link (Unit {0}) → List Token → List Token
part_then (Item link) rest = link_then link rest
part_then (End end) rest = fixed Closer ∷ rest

abbrev pub valid_part : Part Link (Unit {0}) → Bool
valid_part (Item link) = valid_link link
valid_part (End end) = true

chain_part_of-takes : (text : List Token) (closer : Option (List Token)) (found : Part Link (Unit {0}) × List Token) → expects Closer text ≡ closer → chain_part_of closer text ≡ given found → Took part_then valid_part text found
chain_part_of-takes text (Some rest) found closer e =
    passed_on (End tt, rest) found (Took part_then valid_part text) e (expects-takes Closer text rest closer, refl)
chain_part_of-takes text None found closer e =
    let taken = bind_some (link_at text) _ found e in
    passed_on (Item taken.0.0, taken.0.1) found (Took part_then valid_part text) taken.2 (link-takes text taken.0 taken.1)

pub chain_part-takes : (text : List Token) (found : Part Link (Unit {0}) × List Token) → chain_part_at text ≡ given found → Took part_then valid_part text found
unfolding chain_part_at
chain_part-takes text found e = chain_part_of-takes text (expects Closer text) found refl e

bangs_longer : (count : ℕ) (token : Token) (rest : List Token) → length rest ≤ length (replicate count token ++ rest)
bangs_longer zero token rest = omega arith
bangs_longer (suc count) token rest = omega (arith, bangs_longer count token rest)

source_longer : (read : Source) (rest : List Token) → length rest < length (source_then read rest)
source_longer (source.Bits reader) rest = omega arith
source_longer (source.Field reader field method) rest = omega (arith, shorter_index field.index (fixed Dot ∷ plain method ∷ fixed Opener ∷ fixed Closer ∷ rest))

atom_longer : (read : Atom) (rest : List Token) → length rest < length (atom_then read rest)
atom_longer (atom.Number value) rest = omega arith
atom_longer (atom.Truth truth) rest = omega arith
atom_longer (atom.Source read) rest = source_longer read rest
atom_longer (atom.Cast read width) rest = omega (arith, source_longer read (fixed As ∷ fixed (NumberType width) ∷ rest))

value_longer : (value : Value) (rest : List Token) → length rest < length (value_then value rest)
value_longer value rest = omega (arith, bangs_longer value.negations (fixed Negation) (atom_then value.atom rest), atom_longer value.atom rest)

argument_longer : (value : Option Value) (rest : List Token) → length rest < length (argument_then value rest)
argument_longer None rest = omega arith
argument_longer (Some value) rest = omega (arith, value_longer value (fixed Closer ∷ rest))

link_longer : (read : Link) (rest : List Token) → length rest < length (link_then read rest)
link_longer (link.Bits value) rest = omega (arith, argument_longer (Some value) rest)
link_longer (link.Field field method value) rest = omega (arith, shorter_index field.index (fixed Dot ∷ plain method ∷ argument_then value rest), argument_longer value rest)

part_longer : (part : Part Link (Unit {0})) (rest : List Token) → length rest < length (part_then part rest)
part_longer (Item read) rest = link_longer read rest
part_longer (End end) rest = omega arith

pub chain_part_shrinks : (text : List Token) (part : Part Link (Unit {0})) (rest : List Token) → chain_part_at text ≡ given (part, rest) → length rest < length text
chain_part_shrinks text part rest e = let taken = chain_part-takes text (part, rest) e in omega (arith, ap length taken.0, part_longer part rest)
