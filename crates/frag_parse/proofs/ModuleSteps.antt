-- The modules of one parent, read one after another.
use Rattle.std.proofs.Common.{ℕ, zero, suc, ◌≡◌, ◌<◌, ◌≤◌, arith, List, [], ◌∷◌, length, length-append, Bool, true, false, Option, Some, None, refl, sym, ap, ◌∙◌, drop}
use Rattle.std.specs.Prelude.{codes, if◌then◌else◌}
use Rattle.text_scan.specs.Steps.{◌>>=◌}
use Rattle.frag_words.specs.Words.{Word, words_behind}
use Rattle.frag_words.specs.Readings.{expected, then_read, word_is}
use Rattle.frag_words.proofs.Readings.{expected_some, some_is, then_some}
use Rattle.frag_tree.specs.declared.krate.Version.{Version}
use Rattle.frag_tree.specs.Blocks.{opening_lines}
use Rattle.frag_tree.specs.Registers.{register_lines}
use Rattle.frag_tree.specs.ModuleProductions.{head_reading, modules_reading, read_modules, with_block, with_end, with_register}
use Rattle.frag_tree.specs.RegisterProductions.{register_reading}
use Rattle.frag_tree.specs.Trees.{BlockHead, BlockTree, ModuleTree, Modules, before, ended, register, block, one_block, one_register}
use Rattle.frag_tree.specs.declared.register.RegisterModule.{RegisterModule}
use Rattle.frag_tree.proofs.Braced.{one_word}
use Rattle.frag_tree.proofs.ModuleProductions.{head_exact}
use Rattle.frag_tree.proofs.RegisterModules.{register_exact}
use Rattle.frag_tree.specs.declared.phrase.Phrase.TheVariants as phrase
use Rattle.frag_token.specs.declared.sign.Sign.TheVariants as sign
use Rattle.frag_token.specs.Signs.{sign_word}
use Rattle.frag_tree.specs.Phrases.{words_of}
use Rattle.frag_token.specs.Reading.{Found, Shrinks, phrase_at, sign_at}
use Rattle.frag_parts.specs.Reading.{head_at, register_at}
use Rattle.frag_parse.specs.Reading.{block_at, module_at}
use Rattle.frag_parts.specs.Shrinking.{shrinks_of}
use Rattle.frag_parts.proofs.Same.{head_same, register_same}
use Rattle.frag_parts.proofs.Steps.{expected_is}

head_some : (tree : BlockHead) → 1 ≤ length (head_reading.words tree)
unfolding head_reading opening_lines words_behind
head_some tree = one_word (codes "pub") (drop 1 (head_reading.words tree))

register_some : (version : Version) → (tree : RegisterModule) → 1 ≤ length ((register_reading version).words tree)
unfolding register_reading register_lines words_behind
register_some version tree = one_word (codes "pub") (drop 1 ((register_reading version).words tree))

head_shrinks : Shrinks head_reading.read
head_shrinks = shrinks_of head_reading head_exact head_some

register_shrinks : (version : Version) → Shrinks (register_reading version).read
register_shrinks version = shrinks_of (register_reading version) (register_exact version) (register_some version)

abbrev given : {A : Type 0} → A → Option A
given x = Some x

-- ---- one step of reading modules

abbrev register_step : (List Word → Found Modules) → RegisterModule → List Word → Found Modules
register_step more unit rest = then_read (more rest) (with_register unit)

abbrev inside_step : (List Word → Found Modules) → BlockHead → Modules → List Word → Found Modules
inside_step more head inside left = then_read (more left) (with_block head inside)

abbrev block_step : (List Word → Found Modules) → BlockHead → List Word → Found Modules
block_step more head rest = then_read (more rest) (inside_step more head)

-- one step, where the modules behind it are read by `more`
abbrev step : (version : Version) → (List Word → Found Modules) → Bool → Bool → List Word → Found Modules
step version more is_module is_block text =
    if is_module then (if is_block then then_read (head_reading.read text) (block_step more) else then_read ((register_reading version).read text) (register_step more)) else expected (words_of phrase.Closer) text with_end

stepped : (version : Version) → (n : ℕ) (text : List Word) → (read_modules version) (suc n) text ≡ (step version) ((read_modules version) n) (word_is 0 (codes "pub") text) (word_is 11 (codes "#") text) text
unfolding read_modules
stepped version n text = refl

-- where the rest is shorter, reading may go on with any steps that are enough
abbrev Shorter : (List Word → Found Modules) → Type 0
Shorter more = (text : List Word) (found : Modules × List Word) → more text ≡ given found → length found.1 < length text

one_closer : 1 ≤ length (words_of phrase.Closer)
unfolding words_behind
one_closer = one_word (codes "}") []

closer_shorter : (text : List Word) (found : Modules × List Word) → expected (words_of phrase.Closer) text with_end ≡ given found → length found.1 < length text
closer_shorter text found e =
    let taken = expected_some (words_of phrase.Closer) text with_end found e in
    let last : taken.0 ≡ found.1 = ap (λ (f : Modules × List Word). f.1) (some_is (ended, taken.0) found taken.2) in
    omega (arith, ap length taken.1, length-append (words_of phrase.Closer) taken.0, one_closer, ap length last)

step_shorter : (version : Version) → (more : List Word → Found Modules) → Shorter more → (is_module is_block : Bool) (text : List Word) (found : Modules × List Word) → (step version) more is_module is_block text ≡ given found → length found.1 < length text
step_shorter version more shorter true true text found e =
    let head = then_some (head_reading.read text) (block_step more) found e in
    let inside = then_some (more head.0.1) (inside_step more head.0.0) found head.2 in
    let others = then_some (more inside.0.1) (with_block head.0.0 inside.0.0) found inside.2 in
    let last : others.0.1 ≡ found.1 = ap (λ (f : Modules × List Word). f.1) (some_is (block head.0.0 inside.0.0 others.0.0, others.0.1) found others.2) in
    omega (arith, head_shrinks text head.0.0 head.0.1 head.1, shorter head.0.1 inside.0 inside.1, shorter inside.0.1 others.0 others.1, ap length last)
step_shorter version more shorter true false text found e =
    let unit = then_some ((register_reading version).read text) (register_step more) found e in
    let others = then_some (more unit.0.1) (with_register unit.0.0) found unit.2 in
    let last : others.0.1 ≡ found.1 = ap (λ (f : Modules × List Word). f.1) (some_is (register unit.0.0 others.0.0, others.0.1) found others.2) in
    omega (arith, (register_shrinks version) text unit.0.0 unit.0.1 unit.1, shorter unit.0.1 others.0 others.1, ap length last)
step_shorter version more shorter false is_block text found e = closer_shorter text found e

pub modules_shorter : (version : Version) → (n : ℕ) → Shorter ((read_modules version) n)
unfolding read_modules
modules_shorter version zero text found e = absurd cc
modules_shorter version (suc n) text found e = (step_shorter version) ((read_modules version) n) ((modules_shorter version) n) (word_is 0 (codes "pub") text) (word_is 11 (codes "#") text) text found e

-- ---- more steps than words give no more

abbrev SameBelow : ℕ → (List Word → Found Modules) → (List Word → Found Modules) → Type 0
SameBelow bound one other = (text : List Word) → length text < bound → one text ≡ other text

same_inside : (bound : ℕ) (one other : List Word → Found Modules) → SameBelow bound one other → (head : BlockHead) (rest : List Word) → length rest < bound → (o : Found Modules) → one rest ≡ o → ((found : Modules × List Word) → o ≡ given found → length found.1 < length rest) → then_read (one rest) (inside_step one head) ≡ then_read (other rest) (inside_step other head)
same_inside bound one other same head rest less None e shorter = ap (λ (o : Found Modules). then_read o (inside_step one head)) e ∙ sym (ap (λ (o : Found Modules). then_read o (inside_step other head)) (sym (same rest less) ∙ e))
same_inside bound one other same head rest less (Some inside) e shorter =
    ap (λ (o : Found Modules). then_read o (inside_step one head)) e
    ∙ (ap (λ (o : Found Modules). then_read o (with_block head inside.0)) (same inside.1 (omega (arith, less, shorter inside refl)))
    ∙ sym (ap (λ (o : Found Modules). then_read o (inside_step other head)) (sym (same rest less) ∙ e)))

same_block : (bound : ℕ) (one other : List Word → Found Modules) → SameBelow bound one other → Shorter one → (text : List Word) → length text ≤ bound → (o : Option (BlockHead × List Word)) → ((head : BlockHead) (rest : List Word) → o ≡ given (head, rest) → length rest < length text) → then_read o (block_step one) ≡ then_read o (block_step other)
same_block bound one other same shorter text within None shrinks = refl
same_block bound one other same shorter text within (Some head) shrinks =
    same_inside bound one other same head.0 head.1 (omega (arith, within, shrinks head.0 head.1 refl)) (one head.1) refl (λ found e. shorter head.1 found e)

same_register : (bound : ℕ) (one other : List Word → Found Modules) → SameBelow bound one other → (text : List Word) → length text ≤ bound → (o : Option (RegisterModule × List Word)) → ((unit : RegisterModule) (rest : List Word) → o ≡ given (unit, rest) → length rest < length text) → then_read o (register_step one) ≡ then_read o (register_step other)
same_register bound one other same text within None shrinks = refl
same_register bound one other same text within (Some unit) shrinks = ap (λ (o : Found Modules). then_read o (with_register unit.0)) (same unit.1 (omega (arith, within, shrinks unit.0 unit.1 refl)))

step_same : (version : Version) → (bound : ℕ) (one other : List Word → Found Modules) → SameBelow bound one other → Shorter one → (is_module is_block : Bool) (text : List Word) → length text ≤ bound → (step version) one is_module is_block text ≡ (step version) other is_module is_block text
step_same version bound one other same shorter true true text within = same_block bound one other same shorter text within (head_reading.read text) (head_shrinks text)
step_same version bound one other same shorter true false text within = same_register bound one other same text within ((register_reading version).read text) ((register_shrinks version) text)
step_same version bound one other same shorter false is_block text within = refl

enough_none : (version : Version) → (m : ℕ) → None ≡ (read_modules version) m []
unfolding read_modules words_behind
enough_none version zero = refl
enough_none version (suc m) = refl

empty_is : (text : List Word) → length text ≤ 0 → text ≡ []
empty_is [] small = refl
empty_is (word ∷ words) small = absurd (omega (arith, small))

modules_enough : (version : Version) → (n m : ℕ) (text : List Word) → length text ≤ n → length text ≤ m → (read_modules version) n text ≡ (read_modules version) m text
unfolding read_modules
modules_enough version zero m text small fits = ap ((read_modules version) zero) (empty_is text small) ∙ ((enough_none version) m ∙ sym (ap ((read_modules version) m) (empty_is text small)))
modules_enough version (suc n) zero text small fits = ap ((read_modules version) (suc n)) (empty_is text fits) ∙ (sym ((enough_none version) (suc n)) ∙ ((enough_none version) zero ∙ sym (ap ((read_modules version) zero) (empty_is text fits))))
modules_enough version (suc n) (suc m) text small fits =
    (step_same version) (length text) ((read_modules version) n) ((read_modules version) m) (λ left less. (modules_enough version) n m left (omega (arith, less, small)) (omega (arith, less, fits))) ((modules_shorter version) n) (word_is 0 (codes "pub") text) (word_is 11 (codes "#") text) text (omega arith)

-- the modules at the front of a text
abbrev pub all_modules : (version : Version) → List Word → Found Modules
all_modules version text = (modules_reading version).read text

modules_step : (version : Version) → (text : List Word) → (all_modules version) text ≡ (step version) (all_modules version) (word_is 0 (codes "pub") text) (word_is 11 (codes "#") text) text
unfolding modules_reading read_modules words_behind
modules_step version [] = refl
modules_step version (word ∷ words) =
    (step_same version) (length (word ∷ words)) ((read_modules version) (length words)) (all_modules version) (λ left less. (modules_enough version) (length words) (length left) left (omega (arith, less)) (omega arith)) ((modules_shorter version) (length words)) (word_is 0 (codes "pub") (word ∷ words)) (word_is 11 (codes "#") (word ∷ words)) (word ∷ words) (omega arith)

-- ---- as the code reads them

pub modules_end : (version : Version) → (text : List Word) → sign_at 0 sign.Pub text ≡ false → (all_modules version) text ≡ (phrase_at phrase.Closer text >>= λ rest. Some (ended, rest))
unfolding sign_at sign_word phrase_at
modules_end version text there =
    (modules_step version) text
    ∙ (ap (λ (hit : Bool). (step version) (all_modules version) hit (word_is 11 (codes "#") text) text) there
    ∙ expected_is (words_of phrase.Closer) text with_end)

-- the modules behind one
abbrev pub with_others : ModuleTree → Found Modules → Found Modules
with_others unit o = o >>= λ others. Some (before unit others.0, others.1)

block_others : (head : BlockHead) (inside : Modules) (o : Found Modules) → then_read o (with_block head inside) ≡ with_others (one_block (record { head = head; inside = inside })) o
block_others head inside None = refl
block_others head inside (Some others) = refl

register_others : (unit : RegisterModule) (o : Found Modules) → then_read o (with_register unit) ≡ with_others (one_register unit) o
register_others unit None = refl
register_others unit (Some others) = refl

abbrev one_then : (version : Version) → Found ModuleTree → Found Modules
one_then version o = o >>= λ one. with_others one.0 ((all_modules version) one.1)

abbrev pub built : BlockHead → Modules → BlockTree
built head inside = record { head = head; inside = inside }

abbrev pub as_block : BlockHead → Modules × List Word → Found BlockTree
as_block head inside = Some (built head inside.0, inside.1)

abbrev pub block_module : BlockTree × List Word → Found ModuleTree
block_module unit = Some (one_block unit.0, unit.1)

abbrev pub register_module : RegisterModule × List Word → Found ModuleTree
register_module unit = Some (one_register unit.0, unit.1)

block_inside : (version : Version) → (head : BlockHead) (o : Found Modules) → then_read o (inside_step (all_modules version) head) ≡ (one_then version) ((o >>= as_block head) >>= block_module)
block_inside version head None = refl
block_inside version head (Some inside) = block_others head inside.0 ((all_modules version) inside.1)

block_first : (version : Version) → (o : Found BlockHead) → then_read o (block_step (all_modules version)) ≡ (one_then version) ((o >>= λ head. (all_modules version) head.1 >>= as_block head.0) >>= block_module)
block_first version None = refl
block_first version (Some head) = (block_inside version) head.0 ((all_modules version) head.1)

register_first : (version : Version) → (o : Found RegisterModule) → then_read o (register_step (all_modules version)) ≡ (one_then version) (o >>= register_module)
register_first version None = refl
register_first version (Some unit) = register_others unit.0 ((all_modules version) unit.1)

module_first : (version : Version) → (is_block : Bool) (text : List Word) → (step version) (all_modules version) true is_block text ≡ (one_then version) (if is_block then ((block_at version) text >>= block_module) else ((register_at version) text >>= register_module))
unfolding block_at
module_first version true text = ap (λ (o : Found BlockHead). then_read o (block_step (all_modules version))) (head_same text) ∙ (block_first version) (head_at text)
module_first version false text = ap (λ (o : Found RegisterModule). then_read o (register_step (all_modules version))) ((register_same version) text) ∙ (register_first version) ((register_at version) text)

pub modules_more : (version : Version) → (text : List Word) → sign_at 0 sign.Pub text ≡ true → (all_modules version) text ≡ ((module_at version) text >>= λ one. with_others one.0 ((all_modules version) one.1))
unfolding sign_at sign_word module_at
modules_more version text here =
    (modules_step version) text
    ∙ (ap (λ (hit : Bool). (step version) (all_modules version) hit (word_is 11 (codes "#") text) text) here
    ∙ (module_first version) (word_is 11 (codes "#") text) text)

-- ---- what is read is followed by fewer words

bound_some : {A B : Type 0} (o : Found A) (next : A × List Word → Found B) (found : B × List Word) → (o >>= next) ≡ given found → (one : A × List Word) × (o ≡ given one) × (next one ≡ given found)
bound_some None next found e = absurd cc
bound_some (Some one) next found e = (one, refl, e)

pub block_shrinks : (version : Version) → Shrinks (block_at version)
unfolding block_at modules_reading
block_shrinks version text unit rest e =
    let head = bound_some (head_at text) (λ head. (all_modules version) head.1 >>= as_block head.0) (unit, rest) e in
    let inside = bound_some ((all_modules version) head.0.1) (as_block head.0.0) (unit, rest) head.2 in
    let last : inside.0.1 ≡ rest = ap (λ (f : BlockTree × List Word). f.1) (some_is (built head.0.0 inside.0.0, inside.0.1) (unit, rest) inside.2) in
    omega (arith, head_shrinks text head.0.0 head.0.1 (head_same text ∙ head.1), (modules_shorter version) (length head.0.1) head.0.1 inside.0 inside.1, ap length last)

either_shrinks : (version : Version) → (is_block : Bool) (text : List Word) (unit : ModuleTree) (rest : List Word) → (if is_block then ((block_at version) text >>= block_module) else ((register_at version) text >>= register_module)) ≡ given (unit, rest) → length rest < length text
either_shrinks version true text unit rest e =
    let found = bound_some ((block_at version) text) block_module (unit, rest) e in
    let last : found.0.1 ≡ rest = ap (λ (f : ModuleTree × List Word). f.1) (some_is (one_block found.0.0, found.0.1) (unit, rest) found.2) in
    omega (arith, (block_shrinks version) text found.0.0 found.0.1 found.1, ap length last)
either_shrinks version false text unit rest e =
    let found = bound_some ((register_at version) text) register_module (unit, rest) e in
    let last : found.0.1 ≡ rest = ap (λ (f : ModuleTree × List Word). f.1) (some_is (one_register found.0.0, found.0.1) (unit, rest) found.2) in
    omega (arith, (register_shrinks version) text found.0.0 found.0.1 ((register_same version) text ∙ found.1), ap length last)

pub module_shrinks : (version : Version) → Shrinks (module_at version)
unfolding module_at
module_shrinks version text unit rest e = (either_shrinks version) (sign_at 11 sign.Hash text) text unit rest e

pub head_fewer : (text : List Word) (head : BlockHead) (rest : List Word) → head_at text ≡ Some (head, rest) → length rest < length text
head_fewer text head rest e = head_shrinks text head rest (head_same text ∙ e)

pub register_fewer : (version : Version) → (text : List Word) (unit : RegisterModule) (rest : List Word) → (register_at version) text ≡ Some (unit, rest) → length rest < length text
register_fewer version text unit rest e = (register_shrinks version) text unit rest ((register_same version) text ∙ e)

pub closer_fewer : (text rest : List Word) → phrase_at phrase.Closer text ≡ Some rest → length rest < length text
unfolding phrase_at
closer_fewer text rest e = closer_shorter text (ended, rest) (expected_is (words_of phrase.Closer) text with_end ∙ ap (λ (o : Option (List Word)). o >>= with_end) e)
