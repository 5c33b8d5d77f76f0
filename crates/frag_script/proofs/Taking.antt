-- What reading gives stands at the front of the text.
use Rattle.std.proofs.Common.{ℕ, ◌≡◌, ◌<◌, arith, List, [], ◌∷◌, length, Bool, true, false, Option, Some, None, refl, sym, ap, ◌∙◌, subst}
use Rattle.std.specs.Prelude.{◌&&◌, not, if◌then◌else◌}
use Rattle.std.specs.Str.{bytes_eq}
use Rattle.std.proofs.lemmas.Slice.Eq.{bytes_eq-Decides}
use Rattle.text_scan.specs.Steps.{◌>>=◌}
use Rattle.text_scan.proofs.Steps.{bind_some}
use Rattle.frag_words.specs.Words.{Word}
use Rattle.rust_names.specs.Identifiers.{is_identifier}
use Rattle.frag_tree.specs.declared.statement.Call.{Call}
use Rattle.frag_script.specs.declared.fixed.Fixed.{Fixed}
use Rattle.frag_script.specs.declared.fixed.Fixed.TheVariants.{Bits, Dot, Bar, Opener, Closer, Semicolon}
use Rattle.frag_script.specs.declared.part.Part.{Part}
use Rattle.frag_script.specs.declared.part.Part.TheVariants.{Item, End}
use Rattle.frag_script.specs.declared.place.Ending.{Ending}
use Rattle.frag_script.specs.declared.place.Ending.TheVariants.{Plain, Closure}
use Rattle.frag_script.specs.FixedWords.{text_of}
use Rattle.frag_script.specs.Reading.{expects, name_at, number_at, empty_at, index_at, field_at, indexed_field_at, opened_field, closed_call, opened_call, any_call, call_at}
use Rattle.frag_script.specs.Statements.{fixed, index_then, step_then, valid_field, valid_step}
use Rattle.frag_script.specs.Tokens.{Token, number, plain}

abbrev pub given : {A : Type 0} → A → Option A
given x = Some x

-- what holds of one holds of the other
pub passed_on : {A : Type 0} (x y : A) (P : A → Type 0) → given x ≡ given y → P x → P y
passed_on x y P e p = let same : x ≡ y = cc in subst P same p

pub both : (x y : Bool) → x ≡ true → y ≡ true → (x && y) ≡ true
both true true one other = refl
both true false one other = other
both false y one other = one

pub if_some : {A : Type 0} (test : Bool) (found : Option A) (y : A) → (if test then found else None) ≡ given y → (test ≡ true) × (found ≡ given y)
if_some true found y e = (refl, e)
if_some false found y e = absurd cc

-- The text is a valid tree, and then the rest.
abbrev pub Took : {A : Type 0} → (A → List Token → List Token) → (A → Bool) → List Token → A × List Token → Type 0
Took tokens_then is_valid text found = (text ≡ tokens_then found.0 found.1) × (is_valid found.0 ≡ true)

-- ---- one token

pub expects-takes : (word : Fixed) (text rest : List Token) → expects word text ≡ given rest → text ≡ fixed word ∷ rest
unfolding expects
expects-takes word [] rest e = absurd cc
expects-takes word (number value ∷ tokens) rest e = absurd cc
expects-takes word (plain spelled ∷ tokens) rest e =
    let hit = if_some (bytes_eq spelled (text_of word)) (given tokens) rest e in
    let same : spelled ≡ text_of word = (bytes_eq-Decides spelled (text_of word)).0 hit.0 in
    let left : tokens ≡ rest = let e2 : given tokens ≡ given rest = hit.1 in cc in
    cc

abbrev pub plain_then : Word → List Token → List Token
plain_then word rest = plain word ∷ rest

pub name-takes : (text : List Token) (found : Word × List Token) → name_at text ≡ given found → Took plain_then is_identifier text found
unfolding name_at
name-takes [] found e = absurd cc
name-takes (number value ∷ tokens) found e = absurd cc
name-takes (plain word ∷ tokens) found e =
    let hit = if_some (is_identifier word) (given (word, tokens)) found e in
    passed_on (word, tokens) found (Took plain_then is_identifier (plain word ∷ tokens)) hit.1 (refl, hit.0)

abbrev pub number_then : ℕ → List Token → List Token
number_then value rest = number value ∷ rest

abbrev pub always : {A : Type 0} → A → Bool
always x = true

pub number-takes : (text : List Token) (found : ℕ × List Token) → number_at text ≡ given found → text ≡ number_then found.0 found.1
unfolding number_at
number-takes [] found e = absurd cc
number-takes (number value ∷ tokens) found e = passed_on (value, tokens) found (λ p. number value ∷ tokens ≡ number_then p.0 p.1) e refl
number-takes (plain word ∷ tokens) found e = absurd cc

pub empty-takes : (text rest : List Token) → empty_at text ≡ given rest → text ≡ fixed Opener ∷ fixed Closer ∷ rest
unfolding empty_at
empty-takes text rest e =
    let opener = bind_some (expects Opener text) (expects Closer) rest e in
    expects-takes Opener text opener.0 opener.1 ∙ ap (λ (t : List Token). fixed Opener ∷ t) (expects-takes Closer opener.0 rest opener.2)

-- ---- places

pub index-takes : (text : List Token) (found : ℕ × List Token) → index_at text ≡ given found → text ≡ number found.0 ∷ fixed Closer ∷ found.1
unfolding index_at
index-takes text found e =
    let index = bind_some (number_at text) (λ index. expects Closer index.1 >>= λ rest. Some (index.0, rest)) found e in
    let closer = bind_some (expects Closer index.0.1) (λ rest. Some (index.0.0, rest)) found index.2 in
    let whole : text ≡ number index.0.0 ∷ fixed Closer ∷ closer.0 =
    number-takes text index.0 index.1 ∙ ap (λ (t : List Token). number index.0.0 ∷ t) (expects-takes Closer index.0.1 closer.0 closer.1) in
    passed_on (index.0.0, closer.0) found (λ p. text ≡ number p.0 ∷ fixed Closer ∷ p.1) closer.2 whole

abbrev pub call_then : Part Call Ending → List Token → List Token
call_then (Item step) rest = step_then step rest
call_then (End (Plain call)) rest = fixed Dot ∷ plain call ∷ fixed Opener ∷ fixed Closer ∷ fixed Semicolon ∷ rest
call_then (End (Closure call)) rest = fixed Dot ∷ plain call ∷ fixed Opener ∷ fixed Bar ∷ rest

abbrev pub valid_call : Part Call Ending → Bool
valid_call (Item step) = valid_step step
valid_call (End (Plain call)) = is_identifier call
valid_call (End (Closure call)) = is_identifier call

-- a call, of which the part up to `(` is read
abbrev pub opened : Word → List Token → List Token
opened name inside = fixed Dot ∷ plain name ∷ fixed Opener ∷ inside

closed_call-takes : (name : Word) (text : List Token) (ended : Option (List Token)) (found : Part Call Ending × List Token) → is_identifier name ≡ true → expects Semicolon text ≡ ended → closed_call name ended text ≡ given found → Took call_then valid_call (opened name (fixed Closer ∷ text)) found
closed_call-takes name text (Some rest) found valid ended e =
    passed_on (End (Plain name), rest) found (Took call_then valid_call (opened name (fixed Closer ∷ text))) e (ap (λ (t : List Token). opened name (fixed Closer ∷ t)) (expects-takes Semicolon text rest ended), valid)
closed_call-takes name text None found valid ended e =
    passed_on (Item (record { name = name; index = None }), text) found (Took call_then valid_call (opened name (fixed Closer ∷ text))) e (refl, valid)

opened_call-takes : (name : Word) (text : List Token) (closed : Option (List Token)) (found : Part Call Ending × List Token) → is_identifier name ≡ true → expects Closer text ≡ closed → opened_call name closed text ≡ given found → Took call_then valid_call (opened name text) found
opened_call-takes name text (Some rest) found valid closed e =
    let P : List Token → Type 0 = λ t. Took call_then valid_call (opened name t) found in
    subst P (sym (expects-takes Closer text rest closed)) (closed_call-takes name rest (expects Semicolon rest) found valid refl e)
opened_call-takes name text None found valid closed e =
    let index = bind_some (index_at text) _ found e in
    passed_on (Item (record { name = name; index = Some index.0.0 }), index.0.1) found (Took call_then valid_call (opened name text)) index.2
    (ap (opened name) (index-takes text index.0 index.1), valid)

any_call-takes : (name : Word) (text : List Token) (bar : Option (List Token)) (found : Part Call Ending × List Token) → is_identifier name ≡ true → expects Bar text ≡ bar → any_call name bar text ≡ given found → Took call_then valid_call (opened name text) found
any_call-takes name text (Some rest) found valid bar e =
    passed_on (End (Closure name), rest) found (Took call_then valid_call (opened name text)) e (ap (opened name) (expects-takes Bar text rest bar), valid)
any_call-takes name text None found valid bar e = opened_call-takes name text (expects Closer text) found valid refl e

pub shorter_index : (index : Option ℕ) (rest : List Token) → length rest < length (index_then index rest)
shorter_index None rest = omega arith
shorter_index (Some index) rest = omega arith

shorter_call : (part : Part Call Ending) (rest : List Token) → length rest < length (call_then part rest)
shorter_call (Item step) rest = omega (arith, shorter_index step.index rest)
shorter_call (End (Plain call)) rest = omega arith
shorter_call (End (Closure call)) rest = omega arith

pub call-takes : (text : List Token) (found : Part Call Ending × List Token) → call_at text ≡ given found → Took call_then valid_call text found
unfolding call_at
call-takes text found e =
    let dot = bind_some (expects Dot text) _ found e in
    let name = bind_some (name_at dot.0) _ found dot.2 in
    let opener = bind_some (expects Opener name.0.1) _ found name.2 in
    let named = name-takes dot.0 name.0 name.1 in
    let whole : text ≡ opened name.0.0 opener.0 =
    expects-takes Dot text dot.0 dot.1 ∙ (ap (λ (t : List Token). fixed Dot ∷ t) named.0 ∙ ap (λ (t : List Token). fixed Dot ∷ plain name.0.0 ∷ t) (expects-takes Opener name.0.1 opener.0 opener.1)) in
    let P : List Token → Type 0 = λ t. Took call_then valid_call t found in
    subst P (sym whole) (any_call-takes name.0.0 opener.0 (expects Bar opener.0) found named.1 refl opener.2)

pub call_shrinks : (text : List Token) (part : Part Call Ending) (rest : List Token) → call_at text ≡ given (part, rest) → length rest < length text
call_shrinks text part rest e = let taken = call-takes text (part, rest) e in let less = shorter_call part rest in omega (arith, ap length taken.0)

-- ---- fields

-- what the other branch of a test gave
else_some : {A : Type 0} (hit : Bool) (o : Option A) (y : A) → (if hit then None else o) ≡ given y → (hit ≡ false) × (o ≡ given y)
else_some true o y h = absurd cc
else_some false o y h = (refl, h)

pub indexed_field-takes : (name : Word) (inside : List Token) (found : Call × List Token) → is_identifier name ≡ true → indexed_field_at name inside ≡ given found → Took step_then valid_field (opened name inside) found
unfolding indexed_field_at
indexed_field-takes name inside found valid e =
    let other = else_some (bytes_eq name (text_of Bits)) _ found e in
    let index = bind_some (index_at inside) _ found other.1 in
    passed_on (record { name = name; index = Some index.0.0 }, index.0.1) found (Took step_then valid_field (opened name inside)) index.2
    (ap (opened name) (index-takes inside index.0 index.1), both _ _ valid (ap not other.0))

opened_field-takes : (name : Word) (inside : List Token) (closer : Option (List Token)) (found : Call × List Token) → is_identifier name ≡ true → expects Closer inside ≡ closer → opened_field name closer inside ≡ given found → Took step_then valid_field (opened name inside) found
opened_field-takes name inside (Some rest) found valid closer e =
    passed_on (record { name = name; index = None }, rest) found (Took step_then valid_field (opened name inside)) e (ap (opened name) (expects-takes Closer inside rest closer), both _ _ valid refl)
opened_field-takes name inside None found valid closer e = indexed_field-takes name inside found valid e

-- a field stands behind `.`
pub field-takes : (text : List Token) (found : Call × List Token) → field_at text ≡ given found → Took step_then valid_field (fixed Dot ∷ text) found
unfolding field_at
field-takes text found e =
    let name = bind_some (name_at text) _ found e in
    let opener = bind_some (expects Opener name.0.1) _ found name.2 in
    let named = name-takes text name.0 name.1 in
    let whole : fixed Dot ∷ text ≡ opened name.0.0 opener.0 =
    ap (λ (t : List Token). fixed Dot ∷ t) named.0 ∙ ap (λ (t : List Token). fixed Dot ∷ plain name.0.0 ∷ t) (expects-takes Opener name.0.1 opener.0 opener.1) in
    let P : List Token → Type 0 = λ t. Took step_then valid_field t found in
    subst P (sym whole) (opened_field-takes name.0.0 opener.0 (expects Closer opener.0) found named.1 refl opener.2)
