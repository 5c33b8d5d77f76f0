-- How deep modules nest, and what is refused for that.
use Rattle.std.proofs.Common.{ℕ, zero, suc, ◌≡◌, List, [], ◌∷◌, ◌++◌, map, Bool, true, false, Option, Some, None, refl, sym, ap, ◌∙◌}
use Rattle.std.specs.Prelude.{◌&&◌, if◌then◌else◌}
use Rattle.std.specs.List.{list_all}
use Rattle.text_scan.specs.Steps.{◌>>=◌}
use Rattle.frag_words.specs.Words.{Word}
use Rattle.frag_words.proofs.Readings.{both, both_left, both_right}
use Rattle.frag_tree.specs.declared.krate.Version.{Version}
use Rattle.frag_tree.specs.Trees.{BlockHead, BlockTree, ModuleTree, Modules, before, block_layer, ended, block_tree, in_line, module_layer, module_tree, one_block, one_register}
use Rattle.frag_tree.specs.declared.block.Block.{Block, roll-Block}
use Rattle.frag_tree.specs.declared.block.Module.TheFolds.{fold-roll-Block}
use Rattle.frag_tree.specs.declared.block.Module.TheOpen.{Block-F}
use Rattle.frag_tree.specs.declared.block.Module.TheVariants.{Block as BlockModule, Register as RegisterOf}
use Rattle.frag_tree.proofs.Trees.{module_tree-block, module_tree-register}
use Rattle.frag_tree.specs.declared.block.Module.{Module}
use Rattle.frag_tree.specs.declared.register.RegisterModule.{RegisterModule}
use Rattle.frag_parse.specs.declared.fault.Refusal.{Refusal}
use Rattle.frag_parse.specs.declared.fault.Refusal.TheVariants as refusal
use Rattle.frag_token.specs.declared.fault.Stop.{Stop}
use Rattle.frag_token.specs.declared.fault.Stop.TheVariants as stop
use Rattle.frag_tree.specs.declared.phrase.Phrase.TheVariants as phrase
use Rattle.frag_token.specs.declared.sign.Sign.TheVariants as sign
use Rattle.frag_parse.specs.Depth.{Deep, Refuses, widened}
use Rattle.frag_parse.specs.Nesting.{module_within, nests_within}
use Rattle.frag_token.specs.Reading.{Fails, Found, phrase_at, sign_at}
use Rattle.frag_parts.specs.Reading.{head_at, register_at}
use Rattle.frag_parse.specs.Reading.{block_at, module_at}
use Rattle.frag_parse.proofs.ModuleSteps.{all_modules, as_block, block_module, built, register_module, modules_end, modules_more, with_others}

-- ---- passing on

abbrev given : {A : Type 0} → A → Option A
given x = Some x

stop_none : {A B : Type 0} (o : Option A) (next : A → Option B) → o ≡ None → (o >>= next) ≡ None
stop_none None next e = refl
stop_none (Some x) next e = absurd (let impossible : given x ≡ None = e in cc)

-- a reader that counts no depth stopped
pub stopped : {A B : Type 0} (fits : B → Bool) (cause : Stop) (o : Option A) (next : A → Found B) → Fails cause o → Refuses fits (widened cause) (o >>= next)
stopped fits (stop.Unfit left) o next e = stop_none o next e
stopped fits stop.Memory o next e = tt

deep_on : {A B : Type 0} (within : A → Bool) (fits : B → Bool) (o : Found A) (next : A × List Word → Found B) → ((found : A × List Word) → within found.0 ≡ false → Deep fits (next found)) → Deep within o → Deep fits (o >>= next)
deep_on within fits None next more deep = tt
deep_on within fits (Some found) next more deep = more found deep

-- a reader that counts depth stopped
pub passed_on : {A B : Type 0} (within : A → Bool) (fits : B → Bool) (cause : Refusal) (o : Found A) (next : A × List Word → Found B) → ((found : A × List Word) → within found.0 ≡ false → Deep fits (next found)) → Refuses within cause o → Refuses fits cause (o >>= next)
passed_on within fits (refusal.Unfit left) o next more e = stop_none o next e
passed_on within fits (refusal.TooDeep left) o next more e = deep_on within fits o next more e
passed_on within fits refusal.Memory o next more e = tt

pub refuses_same : {A : Type 0} (fits : A → Bool) (cause : Refusal) (one other : Found A) → one ≡ other → Refuses fits cause other → Refuses fits cause one
refuses_same fits cause one other e refused = rw (e) refused

-- ---- modules of one parent

-- modules in front of others
abbrev pub in_front : List ModuleTree → Modules → Modules
in_front [] others = others
in_front (unit ∷ units) others = before unit (in_front units others)

abbrev pub joined : List ModuleTree → Found Modules → Found Modules
joined made None = None
joined made (Some found) = Some (in_front made found.0, found.1)

pub joined-nil : (o : Found Modules) → joined [] o ≡ o
joined-nil None = refl
joined-nil (Some found) = refl

-- modules of the code as trees
abbrev pub trees : List Module → List ModuleTree
trees made = map module_tree made

abbrev pub all_within : ℕ → List ModuleTree → Bool
all_within depth units = list_all (module_within depth) units

before_within : (depth : ℕ) (unit : ModuleTree) (others : Modules) → nests_within depth (before unit others) ≡ (module_within depth unit && nests_within depth others)
unfolding nests_within
before_within zero (one_register unit) others = refl
before_within zero (one_block unit) others = refl
before_within (suc depth) (one_register unit) others = refl
before_within (suc depth) (one_block unit) others = refl

ended_within : (depth : ℕ) → nests_within depth ended ≡ true
unfolding nests_within
ended_within zero = refl
ended_within (suc depth) = refl

true_and : (x y : Bool) → x ≡ true → (x && y) ≡ y
true_and true y e = refl
true_and false y e = absurd cc

false_and : (x y : Bool) → x ≡ false → (x && y) ≡ false
false_and true y e = absurd cc
false_and false y e = refl

front_within : (depth : ℕ) (units : List ModuleTree) (others : Modules) → all_within depth units ≡ true → nests_within depth (in_front units others) ≡ nests_within depth others
front_within depth [] others fit = refl
front_within depth (unit ∷ units) others fit =
    before_within depth unit (in_front units others)
    ∙ (true_and (module_within depth unit) (nests_within depth (in_front units others)) (both_left (module_within depth unit) (all_within depth units) fit)
    ∙ front_within depth units others (both_right (module_within depth unit) (all_within depth units) fit))

front_line : (units : List ModuleTree) → in_front units ended ≡ in_line units
unfolding in_line
front_line [] = refl
front_line (unit ∷ units) = ap (before unit) (front_line units)

front_more : (units : List ModuleTree) (unit : ModuleTree) (others : Modules) → in_front (units ++ unit ∷ []) others ≡ in_front units (before unit others)
front_more [] unit others = refl
front_more (first ∷ units) unit others = ap (before first) (front_more units unit others)

joined_more : (units : List ModuleTree) (unit : ModuleTree) (o : Found Modules) → joined (units ++ unit ∷ []) o ≡ joined units (with_others unit o)
joined_more units unit None = refl
joined_more units unit (Some others) = ap (λ (m : Modules). given (m, others.1)) (front_more units unit others.0)

trees_more : (made : List Module) (unit : Module) → trees (made ++ unit ∷ []) ≡ trees made ++ module_tree unit ∷ []
trees_more [] unit = refl
trees_more (first ∷ made) unit = ap (λ (units : List ModuleTree). module_tree first ∷ units) (trees_more made unit)

within_more : (depth : ℕ) (units : List ModuleTree) (unit : ModuleTree) → all_within depth units ≡ true → module_within depth unit ≡ true → all_within depth (units ++ unit ∷ []) ≡ true
within_more depth [] unit fit one = both (module_within depth unit) true one refl
within_more depth (first ∷ units) unit fit one =
    both (module_within depth first) (all_within depth (units ++ unit ∷ [])) (both_left (module_within depth first) (all_within depth units) fit) (within_more depth units unit (both_right (module_within depth first) (all_within depth units) fit) one)

-- what a loop over modules has so far
abbrev pub SoFar : (version : Version) → ℕ → List Module → List Word → Found Modules → Type 0
SoFar version depth made rest all = (joined (trees made) ((all_modules version) rest) ≡ all) × (all_within depth (trees made) ≡ true)

pub begun : (version : Version) → (depth : ℕ) (text : List Word) → (SoFar version) depth [] text ((all_modules version) text)
begun version depth text = (joined-nil ((all_modules version) text), refl)

pub goes_on : (version : Version) → (depth : ℕ) (made : List Module) (unit : Module) (text rest : List Word) (all : Found Modules) → sign_at 0 sign.Pub text ≡ true → (module_at version) text ≡ Some (module_tree unit, rest) → module_within depth (module_tree unit) ≡ true → (SoFar version) depth made text all → (SoFar version) depth (made ++ unit ∷ []) rest all
goes_on version depth made unit text rest all here read fits so_far =
    let more : (all_modules version) text ≡ with_others (module_tree unit) ((all_modules version) rest) = (modules_more version) text here ∙ ap (λ (o : Found ModuleTree). o >>= λ one. with_others one.0 ((all_modules version) one.1)) read in (
      ap (λ (units : List ModuleTree). joined units ((all_modules version) rest)) (trees_more made unit)
          ∙ (joined_more (trees made) (module_tree unit) ((all_modules version) rest) ∙ (sym (ap (joined (trees made)) more) ∙ so_far.0)),
      ap (all_within depth) (trees_more made unit) ∙ within_more depth (trees made) (module_tree unit) so_far.1 fits,
    )

joined_deep : (depth : ℕ) (units : List ModuleTree) (o : Found Modules) → all_within depth units ≡ true → Deep (nests_within depth) o → Deep (nests_within depth) (joined units o)
joined_deep depth units None fit deep = tt
joined_deep depth units (Some found) fit deep = front_within depth units found.0 fit ∙ deep

joined_none : (units : List ModuleTree) (o : Found Modules) → o ≡ None → joined units o ≡ None
joined_none units None e = refl
joined_none units (Some found) e = absurd (let impossible : given found ≡ None = e in cc)

joined_refuses : (depth : ℕ) (cause : Refusal) (units : List ModuleTree) (o : Found Modules) → all_within depth units ≡ true → Refuses (nests_within depth) cause o → Refuses (nests_within depth) cause (joined units o)
joined_refuses depth (refusal.Unfit left) units o fit refused = joined_none units o refused
joined_refuses depth (refusal.TooDeep left) units o fit refused = joined_deep depth units o fit refused
joined_refuses depth refusal.Memory units o fit refused = tt

deep_others : (depth : ℕ) (unit : ModuleTree) (o : Found Modules) → module_within depth unit ≡ false → Deep (nests_within depth) (with_others unit o)
deep_others depth unit None deep = tt
deep_others depth unit (Some others) deep = before_within depth unit others.0 ∙ false_and (module_within depth unit) (nests_within depth others.0) deep

pub breaks_off : (version : Version) → (depth : ℕ) (made : List Module) (text : List Word) (all : Found Modules) (cause : Refusal) → sign_at 0 sign.Pub text ≡ true → Refuses (module_within depth) cause ((module_at version) text) → (SoFar version) depth made text all → Refuses (nests_within depth) cause all
breaks_off version depth made text all cause here refused so_far =
    refuses_same (nests_within depth) cause all (joined (trees made) ((all_modules version) text)) (sym so_far.0)
    (joined_refuses depth cause (trees made) ((all_modules version) text) so_far.1
    (refuses_same (nests_within depth) cause ((all_modules version) text) ((module_at version) text >>= λ one. with_others one.0 ((all_modules version) one.1)) ((modules_more version) text here)
    (passed_on (module_within depth) (nests_within depth) cause ((module_at version) text) (λ one. with_others one.0 ((all_modules version) one.1)) (λ one deep. deep_others depth one.0 ((all_modules version) one.1) deep) refused)))

pub ends_wrong : (version : Version) → (depth : ℕ) (made : List Module) (text : List Word) (all : Found Modules) (cause : Stop) → sign_at 0 sign.Pub text ≡ false → Fails cause (phrase_at phrase.Closer text) → (SoFar version) depth made text all → Refuses (nests_within depth) (widened cause) all
ends_wrong version depth made text all cause there fails so_far =
    refuses_same (nests_within depth) (widened cause) all (joined (trees made) ((all_modules version) text)) (sym so_far.0)
    (joined_refuses depth (widened cause) (trees made) ((all_modules version) text) so_far.1
    (refuses_same (nests_within depth) (widened cause) ((all_modules version) text) (phrase_at phrase.Closer text >>= λ rest. Some (ended, rest)) ((modules_end version) text there)
    (stopped (nests_within depth) cause (phrase_at phrase.Closer text) (λ rest. Some (ended, rest)) fails)))

pub is_done : (version : Version) → (depth : ℕ) (made : List Module) (text rest : List Word) (all : Found Modules) → sign_at 0 sign.Pub text ≡ false → phrase_at phrase.Closer text ≡ Some rest → (SoFar version) depth made text all → (all ≡ Some (in_line (trees made), rest)) × (nests_within depth (in_line (trees made)) ≡ true)
is_done version depth made text rest all there closed so_far =
    let last : (all_modules version) text ≡ Some (ended, rest) = (modules_end version) text there ∙ ap (λ (o : Option (List Word)). o >>= λ left. Some (ended, left)) closed in (
      sym so_far.0 ∙ (ap (joined (trees made)) last ∙ ap (λ (m : Modules). given (m, rest)) (front_line (trees made))),
      ap (nests_within depth) (sym (front_line (trees made))) ∙ (front_within depth (trees made) ended so_far.1 ∙ ended_within depth),
    )

-- ---- one module

pub too_deep : (o : Found ModuleTree) → Deep (module_within 0) o
too_deep None = tt
too_deep (Some found) = refl

-- the modules inside a block nest at most so deep
abbrev pub inside_within : ℕ → BlockTree → Bool
inside_within depth unit = nests_within depth unit.inside

pub block_refused : (version : Version) → (depth : ℕ) (text : List Word) (cause : Refusal) → sign_at 11 sign.Hash text ≡ true → Refuses (inside_within depth) cause ((block_at version) text) → Refuses (module_within (suc depth)) cause ((module_at version) text)
unfolding module_at
block_refused version depth text cause here refused =
    refuses_same (module_within (suc depth)) cause (if sign_at 11 sign.Hash text then ((block_at version) text >>= block_module) else ((register_at version) text >>= register_module)) ((block_at version) text >>= block_module) (ap (λ (hit : Bool). if hit then ((block_at version) text >>= block_module) else ((register_at version) text >>= register_module)) here)
    (passed_on (inside_within depth) (module_within (suc depth)) cause ((block_at version) text) (block_module) (λ unit deep. deep) refused)

pub register_refused : (version : Version) → (depth : ℕ) (text : List Word) (cause : Stop) → sign_at 11 sign.Hash text ≡ false → Fails cause ((register_at version) text) → Refuses (module_within depth) (widened cause) ((module_at version) text)
unfolding module_at
register_refused version depth text cause there fails =
    refuses_same (module_within depth) (widened cause) (if sign_at 11 sign.Hash text then ((block_at version) text >>= block_module) else ((register_at version) text >>= register_module)) ((register_at version) text >>= register_module) (ap (λ (hit : Bool). if hit then ((block_at version) text >>= block_module) else ((register_at version) text >>= register_module)) there)
    (stopped (module_within depth) cause ((register_at version) text) (register_module) fails)

pub block_read : (version : Version) → (text rest : List Word) (unit : BlockTree) → sign_at 11 sign.Hash text ≡ true → (block_at version) text ≡ Some (unit, rest) → (module_at version) text ≡ Some (one_block unit, rest)
unfolding module_at
block_read version text rest unit here read = rw (here, read) refl

pub register_read : (version : Version) → (text rest : List Word) (unit : RegisterModule) → sign_at 11 sign.Hash text ≡ false → (register_at version) text ≡ Some (unit, rest) → (module_at version) text ≡ Some (one_register unit, rest)
unfolding module_at
register_read version text rest unit there read = rw (there, read) refl

-- ---- one block

pub head_refused : (version : Version) → (depth : ℕ) (text : List Word) (cause : Stop) → Fails cause (head_at text) → Refuses (inside_within depth) (widened cause) ((block_at version) text)
unfolding block_at
head_refused version depth text cause fails = stopped (inside_within depth) cause (head_at text) (λ head. (all_modules version) head.1 >>= as_block head.0) fails

pub inside_refused : (version : Version) → (depth : ℕ) (text rest : List Word) (head : BlockHead) (cause : Refusal) → head_at text ≡ Some (head, rest) → Refuses (nests_within depth) cause ((all_modules version) rest) → Refuses (inside_within depth) cause ((block_at version) text)
unfolding block_at
inside_refused version depth text rest head cause read refused =
    refuses_same (inside_within depth) cause (head_at text >>= λ found. (all_modules version) found.1 >>= as_block found.0) ((all_modules version) rest >>= as_block head) (ap (λ (o : Found BlockHead). o >>= λ found. (all_modules version) found.1 >>= as_block found.0) read)
    (passed_on (nests_within depth) (inside_within depth) cause ((all_modules version) rest) (as_block head) (λ inside deep. deep) refused)

pub inside_read : (version : Version) → (text rest left : List Word) (head : BlockHead) (inside : Modules) → head_at text ≡ Some (head, rest) → (all_modules version) rest ≡ Some (inside, left) → (block_at version) text ≡ Some (built head inside, left)
unfolding block_at
inside_read version text rest left head inside read more = rw (read, more) refl

-- ---- as the code has them

pub block_done : (version : Version) → (depth : ℕ) (text rest left : List Word) (head : BlockHead) (made : List Module) (part : Block) → head_at text ≡ Some (head, rest) → ((all_modules version) rest ≡ Some (in_line (trees made), left)) × (nests_within depth (in_line (trees made)) ≡ true) → block_tree part ≡ built head (in_line (trees made)) → ((block_at version) text ≡ Some (block_tree part, left)) × (nests_within depth (block_tree part).inside ≡ true)
block_done version depth text rest left head made part read more is = (
  (inside_read version) text rest left head (in_line (trees made)) read more.0 ∙ ap (λ (unit : BlockTree). given (unit, left)) (sym is),
  ap (λ (unit : BlockTree). nests_within depth unit.inside) is ∙ more.1,
)

pub module_done : (version : Version) → (depth inside : ℕ) (text rest : List Word) (part : Block) → depth ≡ suc inside → sign_at 11 sign.Hash text ≡ true → ((block_at version) text ≡ Some (block_tree part, rest)) × (nests_within inside (block_tree part).inside ≡ true) → ((module_at version) text ≡ Some (module_tree (BlockModule part), rest)) × (module_within depth (module_tree (BlockModule part)) ≡ true)
module_done version depth inside text rest part deep here read =
    rw (module_tree-block part, deep) ((block_read version) text rest (block_tree part) here read.0, read.1)

pub register_done : (version : Version) → (depth inside : ℕ) (text rest : List Word) (unit : RegisterModule) → depth ≡ suc inside → sign_at 11 sign.Hash text ≡ false → (register_at version) text ≡ Some (unit, rest) → ((module_at version) text ≡ Some (module_tree (RegisterOf unit), rest)) × (module_within depth (module_tree (RegisterOf unit)) ≡ true)
register_done version depth inside text rest unit deep there read =
    rw (module_tree-register unit, deep) ((register_read version) text rest unit there read, refl)

pub block_stops : (version : Version) → (depth inside : ℕ) (text : List Word) (cause : Refusal) → depth ≡ suc inside → sign_at 11 sign.Hash text ≡ true → Refuses (inside_within inside) cause ((block_at version) text) → Refuses (module_within depth) cause ((module_at version) text)
block_stops version depth inside text cause deep here refused = rw (deep) ((block_refused version) inside text cause here refused)

-- a block that is put together
pub block_tree-roll : (parts : Block-F Module Block) → block_tree (roll-Block parts) ≡ built (record { name = parts.name; fields = parts.fields; accessors = parts.accessors }) (in_line (trees parts.modules.items))
unfolding block_tree module_tree
block_tree-roll parts = fold-roll-Block ModuleTree BlockTree module_layer block_layer parts
