-- The survey of open modules: what follows so many of them is what closes them, and block modules up to the end.
use Rattle.std.proofs.Common.{ℕ, zero, suc, ◌≡◌, ◌+◌, ◌-◌, ◌<◌, ◌≤◌, arith, List, [], ◌∷◌, length, Bool, true, false, Option, Some, None, refl, sym, ap, ◌∙◌, inl, inr, eqb}
use Rattle.std.specs.Prelude.{◌&&◌, ◌^◌, if◌then◌else◌}
use Rattle.std.proofs.lemmas.Bool.{cases_Bool, eqb-true}
use Rattle.text_scan.specs.Steps.{◌>>=◌}
use Rattle.frag_words.specs.Words.{Front, gap, word, Word, front_at, led_by, words_behind, words_in}
use Rattle.frag_words.proofs.Readings.{both_left, both_right, some_is}
use Rattle.frag_tree.specs.declared.krate.Version.{Version}
use Rattle.frag_tree.specs.Trees.{BlockHead, BlockTree, ModuleTree, Modules, ended, one_block, one_register}
use Rattle.frag_tree.specs.declared.register.RegisterModule.{RegisterModule}
use Rattle.frag_token.specs.declared.fault.Stop.{Stop}
use Rattle.frag_token.specs.declared.fault.Stop.TheVariants.{Unfit, Memory}
use Rattle.frag_tree.specs.declared.phrase.Phrase.TheVariants as phrase
use Rattle.frag_token.specs.declared.sign.Sign.TheVariants as sign
use Rattle.frag_token.specs.Reading.{Fails, Found, is_end, phrase_at, sign_at}
use Rattle.frag_parts.specs.Reading.{head_at, register_at}
use Rattle.frag_parse.specs.Reading.{block_at, blocks_at, module_at}
use Rattle.frag_parse.specs.Survey.{closes, inner_at, is_read, step_at, survey_at}
use Rattle.frag_parse.proofs.ModuleSteps.{all_modules, as_block, block_module, built, closer_fewer, head_fewer, modules_end, modules_more, register_fewer, register_module, with_others}
use Rattle.frag_parse.proofs.CrateSteps as crates

abbrev Answer : Type 0
Answer = Option (Unit {0})

-- what closes so many open block modules, behind what was read
abbrev behind : (version : Version) → ℕ → Modules × List Word → Answer
behind version unclosed inside = (closes version) unclosed inside.1

abbrev next_closes : (version : Version) → ℕ × List Word → Answer
next_closes version next = (closes version) next.0 next.1

abbrev counted : ℕ → List Word → Found ℕ
counted unclosed rest = Some (unclosed, rest)

abbrev one_then : (version : Version) → ModuleTree × List Word → Found Modules
one_then version one = with_others one.0 ((all_modules version) one.1)

others_close : (version : Version) → (unclosed : ℕ) (unit : ModuleTree) (o : Found Modules) → (with_others unit o >>= (behind version) unclosed) ≡ (o >>= (behind version) unclosed)
others_close version unclosed unit None = refl
others_close version unclosed unit (Some others) = refl

inside_closes : (version : Version) → (unclosed : ℕ) (head : BlockHead) (o : Found Modules) → ((((o >>= as_block head) >>= block_module) >>= (one_then version)) >>= (behind version) unclosed) ≡ (o >>= (behind version) (suc unclosed))
unfolding closes
inside_closes version unclosed head None = refl
inside_closes version unclosed head (Some inside) = (others_close version) unclosed (one_block (built head inside.0)) ((all_modules version) inside.1)

head_closes : (version : Version) → (unclosed : ℕ) (o : Found BlockHead) → ((((o >>= λ head. (all_modules version) head.1 >>= as_block head.0) >>= block_module) >>= (one_then version)) >>= (behind version) unclosed) ≡ ((o >>= λ head. counted (suc unclosed + 1) head.1) >>= (next_closes version))
unfolding closes
head_closes version unclosed None = refl
head_closes version unclosed (Some head) =
    let more : suc (suc unclosed) ≡ suc unclosed + 1 = omega arith in
    (inside_closes version) unclosed head.0 ((all_modules version) head.1) ∙ ap (λ k. (closes version) k head.1) more

register_closes : (version : Version) → (unclosed : ℕ) (o : Found RegisterModule) → (((o >>= register_module) >>= (one_then version)) >>= (behind version) unclosed) ≡ ((o >>= λ unit. counted (suc unclosed) unit.1) >>= (next_closes version))
unfolding closes
register_closes version unclosed None = refl
register_closes version unclosed (Some unit) = (others_close version) unclosed (one_register unit.0) ((all_modules version) unit.1)

picked_closes : (version : Version) → (unclosed : ℕ) (is_block : Bool) (text : List Word) → (((if is_block then ((block_at version) text >>= block_module) else ((register_at version) text >>= register_module)) >>= (one_then version)) >>= (behind version) unclosed) ≡ ((if is_block then (head_at text >>= λ head. counted (suc unclosed + 1) head.1) else ((register_at version) text >>= λ unit. counted (suc unclosed) unit.1)) >>= (next_closes version))
unfolding block_at
picked_closes version unclosed true text = (head_closes version) unclosed (head_at text)
picked_closes version unclosed false text = (register_closes version) unclosed ((register_at version) text)

inner_closes : (version : Version) → (unclosed : ℕ) (text : List Word) → sign_at 0 sign.Pub text ≡ true → (closes version) (suc unclosed) text ≡ ((inner_at version) (suc unclosed) text >>= (next_closes version))
unfolding closes inner_at module_at
inner_closes version unclosed text here = ap (λ (o : Found Modules). o >>= (behind version) unclosed) ((modules_more version) text here) ∙ (picked_closes version) unclosed (sign_at 11 sign.Hash text) text

closer_last : (version : Version) → (unclosed : ℕ) (o : Option (List Word)) → ((o >>= λ rest. Some (ended, rest)) >>= (behind version) unclosed) ≡ ((o >>= λ rest. counted unclosed rest) >>= (next_closes version))
closer_last version unclosed None = refl
closer_last version unclosed (Some rest) = refl

closer_closes : (version : Version) → (unclosed : ℕ) (text : List Word) → sign_at 0 sign.Pub text ≡ false → (closes version) (suc unclosed) text ≡ ((phrase_at phrase.Closer text >>= λ rest. counted unclosed rest) >>= (next_closes version))
unfolding closes
closer_closes version unclosed text there = ap (λ (o : Found Modules). o >>= (behind version) unclosed) ((modules_end version) text there) ∙ (closer_last version) unclosed (phrase_at phrase.Closer text)

-- ---- at the top

top_others : (unit : BlockTree) (o : Found (List BlockTree)) → is_read (crates.with_others unit o) ≡ is_read o
top_others unit None = refl
top_others unit (Some found) = refl

top_inside : (version : Version) → (head : BlockHead) (o : Found Modules) → is_read ((o >>= as_block head) >>= (crates.next_block version)) ≡ (o >>= (behind version) 0)
unfolding closes
top_inside version head None = refl
top_inside version head (Some inside) = top_others (built head inside.0) ((blocks_at version) inside.1)

top_head : (version : Version) → (o : Found BlockHead) → is_read ((o >>= λ head. (all_modules version) head.1 >>= as_block head.0) >>= (crates.next_block version)) ≡ ((o >>= λ head. counted 1 head.1) >>= (next_closes version))
unfolding closes
top_head version None = refl
top_head version (Some head) = (top_inside version) head.0 ((all_modules version) head.1)

top_closes : (version : Version) → (text : List Word) → is_end text ≡ false → (closes version) 0 text ≡ ((head_at text >>= λ head. counted 1 head.1) >>= (next_closes version))
unfolding closes block_at
top_closes version text some = ap is_read ((crates.more_at version) text some) ∙ (top_head version) (head_at text)

-- ---- one step

module_or_closer : (version : Version) → (unclosed : ℕ) (text : List Word) (is_module : Bool) → sign_at 0 sign.Pub text ≡ is_module → (closes version) (suc unclosed) text ≡ ((if is_module then (inner_at version) (suc unclosed) text else (phrase_at phrase.Closer text >>= λ rest. counted unclosed rest)) >>= (next_closes version))
module_or_closer version unclosed text true here = (inner_closes version) unclosed text here
module_or_closer version unclosed text false there = (closer_closes version) unclosed text there

not_zero : (n : ℕ) → eqb (suc n) 0 ≡ false
not_zero n =
    elim (cases_Bool (eqb (suc n) 0)) [
      | inl same ↦ absurd (omega (arith, eqb-true (suc n) 0 same))
      | inr other ↦ other
    ]

abbrev inside_step : (version : Version) → ℕ → ℕ → List Word → Found ℕ
inside_step version unclosed outer text = if sign_at 0 sign.Pub text then (inner_at version) unclosed text else (phrase_at phrase.Closer text >>= λ rest. counted outer rest)

step_inside : (version : Version) → (unclosed : ℕ) (text : List Word) → (step_at version) (suc unclosed) text ≡ (inside_step version) (suc unclosed) unclosed text
unfolding step_at
step_inside version unclosed text =
    let less : suc unclosed - 1 ≡ unclosed = omega arith in
    ap (λ (hit : Bool). if hit then (head_at text >>= λ head. counted 1 head.1) else (inside_step version) (suc unclosed) (suc unclosed - 1) text) (not_zero unclosed)
    ∙ ap (λ k. (inside_step version) (suc unclosed) k text) less

-- where the survey isn't at its end, a step leaves what is to be closed
pub step_closes : (version : Version) → (unclosed : ℕ) (text : List Word) → (unclosed ≡ 0 → is_end text ≡ false) → (closes version) unclosed text ≡ ((step_at version) unclosed text >>= (next_closes version))
unfolding step_at
step_closes version zero text some = (top_closes version) text (some refl)
step_closes version (suc unclosed) text some = (module_or_closer version) unclosed text (sign_at 0 sign.Pub text) refl ∙ ap (λ (o : Found ℕ). o >>= (next_closes version)) (sym ((step_inside version) unclosed text))

pub goes_on : (version : Version) → (unclosed next : ℕ) (text rest : List Word) (all : Answer) → (unclosed ≡ 0 → is_end text ≡ false) → (step_at version) unclosed text ≡ Some (next, rest) → (closes version) unclosed text ≡ all → (closes version) next rest ≡ all
goes_on version unclosed next text rest all some met so_far = sym ((step_closes version) unclosed text some ∙ ap (λ (o : Found ℕ). o >>= (next_closes version)) met) ∙ so_far

breaks : (version : Version) → (unclosed : ℕ) (text : List Word) (all : Answer) → (unclosed ≡ 0 → is_end text ≡ false) → (step_at version) unclosed text ≡ None → (closes version) unclosed text ≡ all → all ≡ None
breaks version unclosed text all some missed so_far = sym so_far ∙ ((step_closes version) unclosed text some ∙ ap (λ (o : Found ℕ). o >>= (next_closes version)) missed)

pub breaks_off : (version : Version) → (unclosed : ℕ) (text : List Word) (all : Answer) (cause : Stop) → (unclosed ≡ 0 → is_end text ≡ false) → Fails cause ((step_at version) unclosed text) → (closes version) unclosed text ≡ all → Fails cause all
breaks_off version unclosed text all (Unfit left) some missed so_far = (breaks version) unclosed text all some missed so_far
breaks_off version unclosed text all Memory some missed so_far = tt

end_is : (text : List Word) → is_end text ≡ true → text ≡ []
end_is [] here = refl
end_is (first ∷ others) here = absurd cc

end_closes : (version : Version) → (closes version) 0 [] ≡ Some tt
unfolding closes
end_closes version = ap is_read (crates.blocks_end version)

pub is_done : (version : Version) → (unclosed : ℕ) (text : List Word) (all : Answer) → unclosed ≡ 0 → is_end text ≡ true → (closes version) unclosed text ≡ all → all ≡ Some tt
is_done version unclosed text all none here so_far = sym so_far ∙ (rw (none, end_is text here) (end_closes version))

pub begun : (version : Version) → (text : List Word) → (closes version) 0 text ≡ (survey_at version) text
unfolding closes survey_at
begun version text = refl

-- ---- how many are open

abbrev given : {A : Type 0} → A → Option A
given x = Some x

-- a step goes on behind the words that it read, and opens no more modules than those
abbrev pub Counted : ℕ → List Word → ℕ → List Word → Type 0
Counted unclosed text next rest = (length rest < length text) × (next + length rest ≤ unclosed + length text)

bound_some : {A B : Type 0} (o : Option A) (next : A → Option B) (found : B) → (o >>= next) ≡ given found → (one : A) × (o ≡ given one) × (next one ≡ given found)
bound_some None next found e = absurd cc
bound_some (Some one) next found e = (one, refl, e)

same_count : (count number : ℕ) (left rest : List Word) → counted count left ≡ given (number, rest) → (count ≡ number) × (left ≡ rest)
same_count count number left rest e =
    let same = some_is (count, left) (number, rest) e in
    (ap (λ (p : ℕ × List Word). p.0) same, ap (λ (p : ℕ × List Word). p.1) same)

head_counted : (unclosed next : ℕ) (text rest : List Word) → (head_at text >>= λ head. counted (unclosed + 1) head.1) ≡ given (next, rest) → Counted unclosed text next rest
head_counted unclosed next text rest e =
    let head = bound_some (head_at text) (λ head. counted (unclosed + 1) head.1) (next, rest) e in
    let same = same_count (unclosed + 1) next head.0.1 rest head.2 in
    let less = head_fewer text head.0.0 head.0.1 head.1 in
    (omega (arith, less, ap length same.1), omega (arith, less, ap length same.1, same.0))

register_counted : (version : Version) → (unclosed next : ℕ) (text rest : List Word) → ((register_at version) text >>= λ unit. counted unclosed unit.1) ≡ given (next, rest) → Counted unclosed text next rest
register_counted version unclosed next text rest e =
    let unit = bound_some ((register_at version) text) (λ unit. counted unclosed unit.1) (next, rest) e in
    let same = same_count unclosed next unit.0.1 rest unit.2 in
    let less = (register_fewer version) text unit.0.0 unit.0.1 unit.1 in
    (omega (arith, less, ap length same.1), omega (arith, less, ap length same.1, same.0))

closer_counted : (unclosed next : ℕ) (text rest : List Word) → (phrase_at phrase.Closer text >>= λ left. counted unclosed left) ≡ given (next, rest) → Counted (suc unclosed) text next rest
closer_counted unclosed next text rest e =
    let left = bound_some (phrase_at phrase.Closer text) (λ left. counted unclosed left) (next, rest) e in
    let same = same_count unclosed next left.0 rest left.2 in
    let less = closer_fewer text left.0 left.1 in
    (omega (arith, less, ap length same.1), omega (arith, less, ap length same.1, same.0))

inner_counted : (version : Version) → (unclosed next : ℕ) (text rest : List Word) (is_block : Bool) → (if is_block then (head_at text >>= λ head. counted (unclosed + 1) head.1) else ((register_at version) text >>= λ unit. counted unclosed unit.1)) ≡ given (next, rest) → Counted unclosed text next rest
inner_counted version unclosed next text rest true e = head_counted unclosed next text rest e
inner_counted version unclosed next text rest false e = (register_counted version) unclosed next text rest e

outer_counted : (version : Version) → (unclosed next : ℕ) (text rest : List Word) (is_module : Bool) → (if is_module then (inner_at version) (suc unclosed) text else (phrase_at phrase.Closer text >>= λ left. counted unclosed left)) ≡ given (next, rest) → Counted (suc unclosed) text next rest
unfolding inner_at
outer_counted version unclosed next text rest true e = (inner_counted version) (suc unclosed) next text rest (sign_at 11 sign.Hash text) e
outer_counted version unclosed next text rest false e = closer_counted unclosed next text rest e

pub step_counted : (version : Version) → (unclosed next : ℕ) (text rest : List Word) → (step_at version) unclosed text ≡ Some (next, rest) → Counted unclosed text next rest
unfolding step_at
step_counted version zero next text rest e = head_counted 0 next text rest e
step_counted version (suc unclosed) next text rest e = (outer_counted version) unclosed next text rest (sign_at 0 sign.Pub text) (sym ((step_inside version) unclosed text) ∙ e)

-- a text has no more words than bytes
fewer_behind : (front : Front) (first : ℕ) (others : List ℕ) (words : ℕ → List Word) → ((n : ℕ) → length (words n) ≤ length others) → length (led_by front first others words) ≤ length (first ∷ others)
fewer_behind (gap n) first others words few = omega (arith, few n)
fewer_behind (word n) first others words few = omega (arith, few n)

few_behind : (text : List ℕ) (n : ℕ) → length (words_behind text n) ≤ length text
unfolding words_behind
few_behind [] n = omega arith
few_behind (first ∷ others) (suc n) = omega (arith, few_behind others n)
few_behind (first ∷ others) zero = fewer_behind (front_at first others) first others (words_behind others) (few_behind others)

pub few_words : (text : List ℕ) → length (words_in text) ≤ length text
few_words text = few_behind text 0

-- ---- a loop of the survey

abbrev pub is_closed : ℕ → List Word → Bool
is_closed unclosed text = eqb unclosed 0 && is_end text

abbrev pub SoFar : (version : Version) → ℕ → List Word → List Word → Type 0
SoFar version unclosed rest text = ((closes version) unclosed rest ≡ (survey_at version) text) × (unclosed + length rest ≤ length text)

pub survey_begun : (version : Version) → (text : List Word) → (SoFar version) 0 text text
survey_begun version text = ((begun version) text, omega arith)

some_left : (unclosed : ℕ) (text : List Word) → is_closed unclosed text ≡ false → unclosed ≡ 0 → is_end text ≡ false
some_left unclosed text e none = sym (ap (λ (n : ℕ). eqb n 0 && is_end text) none) ∙ e

pub survey_fits : (version : Version) → (unclosed total : ℕ) (bytes : List ℕ) (rest : List Word) → length bytes ≡ total → total < 2 ^ 64 → (SoFar version) unclosed rest (words_in bytes) → unclosed + length rest < 2 ^ 64
survey_fits version unclosed total bytes rest is small so_far = omega (arith, is, small, so_far.1, few_words bytes)

pub survey_on : (version : Version) → (unclosed next : ℕ) (rest after text : List Word) → is_closed unclosed rest ≡ false → (step_at version) unclosed rest ≡ Some (next, after) → (SoFar version) unclosed rest text → (SoFar version) next after text
survey_on version unclosed next rest after text left met so_far = (
  (goes_on version) unclosed next rest after ((survey_at version) text) (some_left unclosed rest left) met so_far.0,
  omega (arith, so_far.1, ((step_counted version) unclosed next rest after met).1),
)

pub survey_smaller : (version : Version) → (unclosed next : ℕ) (rest after : List Word) → (step_at version) unclosed rest ≡ Some (next, after) → length after < length rest
survey_smaller version unclosed next rest after met = ((step_counted version) unclosed next rest after met).0

pub survey_off : (version : Version) → (unclosed : ℕ) (rest text : List Word) (cause : Stop) → is_closed unclosed rest ≡ false → Fails cause ((step_at version) unclosed rest) → (SoFar version) unclosed rest text → Fails cause ((survey_at version) text)
survey_off version unclosed rest text cause left missed so_far = (breaks_off version) unclosed rest ((survey_at version) text) cause (some_left unclosed rest left) missed so_far.0

pub survey_done : (version : Version) → (unclosed : ℕ) (rest text : List Word) → is_closed unclosed rest ≡ true → (SoFar version) unclosed rest text → (survey_at version) text ≡ Some tt
survey_done version unclosed rest text closed so_far =
    (is_done version) unclosed rest ((survey_at version) text) (eqb-true unclosed 0 (both_left (eqb unclosed 0) (is_end rest) closed)) (both_right (eqb unclosed 0) (is_end rest) closed) so_far.0
