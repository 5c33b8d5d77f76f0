-- What is known of the modules of one parent, as it is put together.
use Rattle.std.proofs.Common.{◌≡◌, ℕ, Bool, true, false, List, [], ◌∷◌, map, Option, Some, None, option_map, Result, refl, sym, ap, ◌∙◌, if◌then◌else◌}
use Rattle.std.specs.Prelude.{IfOk, Ok, Err}
use Rattle.std.specs.Map.{lookup}
use Rattle.std.specs.Option.{option_or}
use Rattle.std.specs.Str.{bytes_eq}
use Rattle.frag_sem.specs.Modules.{module_of, modules_of, same_element}
use Rattle.frag_tree.specs.declared.block.Element.{Element}
use Rattle.frag_tree.specs.declared.block.Element.TheVariants as element
use Rattle.frag_tree.specs.declared.block.Block.{Block}
use Rattle.frag_tree.specs.declared.block.Module.{Module}
use Rattle.frag_tree.specs.declared.register.RegisterModule.{RegisterModule}
use Rattle.frag_tree.specs.Trees.{ModuleTree, before, block_tree, in_line, module_tree, one_block, one_register}
use Rattle.frag_rules.specs.declared.inside.Inside.{Inside}
use Rattle.frag_rules.specs.Elements.{element_of}
use Rattle.frag_rules.specs.Insides.{found_inside, holds_nothing}

pub if_ok : {T E : Type 0} (result : Result T E) (P Q : T → Type 0) → ((x : T) → P x → Q x) → IfOk result P → IfOk result Q
if_ok (Ok x) P Q so holds = so x holds
if_ok (Err e) P Q so holds = holds

none-more : {T : Type 0} (o : Option T) → o ≡ option_or o None
none-more None = refl
none-more (Some x) = refl

-- a name that is kept among the registers, or among the blocks
pub kept-register : {T : Type 0} (inside : Inside T) (registers : List (List ℕ × T)) (name : List ℕ) (known : T) (tree : ModuleTree) (unit : RegisterModule) → tree ≡ one_register unit → name ≡ unit.name
    → ((other : List ℕ) → lookup (bytes_eq other) registers ≡ option_or (lookup (bytes_eq other) inside.registers) (if bytes_eq other name then Some known else None))
    → (wanted : Element) → found_inside (record { registers = registers; blocks = inside.blocks }) wanted ≡ option_or (found_inside inside wanted) (if same_element wanted (element_of tree) then Some known else None)
unfolding found_inside
kept-register inside registers name known tree unit is own kept (element.Register other) = kept other ∙ rw (is, own) refl
kept-register inside registers name known tree unit is own kept (element.Block other) = rw is (none-more (lookup (bytes_eq other) inside.blocks))

pub kept-block : {T : Type 0} (inside : Inside T) (blocks : List (List ℕ × T)) (name : List ℕ) (known : T) (tree : ModuleTree) (unit : Block) → tree ≡ one_block (block_tree unit) → name ≡ (block_tree unit).head.name
    → ((other : List ℕ) → lookup (bytes_eq other) blocks ≡ option_or (lookup (bytes_eq other) inside.blocks) (if bytes_eq other name then Some known else None))
    → (wanted : Element) → found_inside (record { registers = inside.registers; blocks = blocks }) wanted ≡ option_or (found_inside inside wanted) (if same_element wanted (element_of tree) then Some known else None)
unfolding found_inside
kept-block inside blocks name known tree unit is own kept (element.Block other) = kept other ∙ rw (is, own) refl
kept-block inside blocks name known tree unit is own kept (element.Register other) = rw is (none-more (lookup (bytes_eq other) inside.registers))

-- ---- the modules of a parent, one after the other

-- what is known of the module of an element, seen so, is known of what was put together, and then of those that are left
abbrev pub KnowsBefore : {T M : Type 0} → (T → M) → (ModuleTree → M) → Inside T → List Module → List Module → Type 0
KnowsBefore seen known inside left all =
    (wanted : Element) → option_or (option_map seen (found_inside inside wanted)) (option_map known (module_of wanted (in_line (map module_tree left)))) ≡ option_map known (module_of wanted (in_line (map module_tree all)))

pub knows-begin : {T M : Type 0} (seen : T → M) (known : ModuleTree → M) (inside : Inside T) (all : List Module) → holds_nothing inside → KnowsBefore seen known inside all all
unfolding found_inside
knows-begin seen known inside all none (element.Register name) = rw none.0 refl
knows-begin seen known inside all none (element.Block name) = rw none.1 refl

first-of : (wanted : Element) (tree : ModuleTree) (others : List ModuleTree) → module_of wanted (in_line (tree ∷ others)) ≡ (if same_element wanted (element_of tree) then Some tree else module_of wanted (in_line others))
unfolding in_line modules_of
first-of wanted (one_register unit) others = refl
first-of wanted (one_block unit) others = refl

pub knows-more : {T M : Type 0} (seen : T → M) (known : ModuleTree → M) (inside inside' : Inside T) (left others all : List Module) (first : Module) (item : T) → left ≡ first ∷ others → seen item ≡ known (module_tree first)
    → ((wanted : Element) → found_inside inside' wanted ≡ option_or (found_inside inside wanted) (if same_element wanted (element_of (module_tree first)) then Some item else None))
    → KnowsBefore seen known inside left all → KnowsBefore seen known inside' others all
knows-more {T} {M} seen known inside inside' left others all first item is same kept before wanted =
    ap (λ o. option_or (option_map seen o) (option_map known (module_of wanted (in_line (map module_tree others))))) (kept wanted)
    ∙ (by (found_inside inside wanted) (same_element wanted (element_of (module_tree first))) (module_of wanted (in_line (map module_tree others)))
    ∙ (ap (λ o. option_or (option_map seen (found_inside inside wanted)) (option_map known o)) (sym (first-of wanted (module_tree first) (map module_tree others)) ∙ ap (λ modules. module_of wanted (in_line (map module_tree modules))) (sym is))
    ∙ before wanted))
  where
    by : (o : Option T) (b : Bool) (m : Option ModuleTree)
        → option_or (option_map seen (option_or o (if b then Some item else None))) (option_map known m) ≡ option_or (option_map seen o) (option_map known (if b then Some (module_tree first) else m))
    by (Some x) b m = refl
    by None true m = ap Some same
    by None false m = refl

pub knows-done : {T M : Type 0} (seen : T → M) (known : ModuleTree → M) (inside : Inside T) (left all : List Module) → left ≡ [] → KnowsBefore seen known inside left all
    → (wanted : Element) → option_map seen (found_inside inside wanted) ≡ option_map known (module_of wanted (in_line (map module_tree all)))
unfolding in_line modules_of
knows-done seen known inside left all is before wanted =
    none-more (option_map seen (found_inside inside wanted))
    ∙ (ap (λ modules. option_or (option_map seen (found_inside inside wanted)) (option_map known (module_of wanted (in_line (map module_tree modules))))) (sym is) ∙ before wanted)
