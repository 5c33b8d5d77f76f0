-- What holds along a chain of accessors, from a module to the register at its end.
use Rattle.std.proofs.Common.{ℕ, ◌≡◌, ◌+◌, ◌⊎◌, inl, inr, Bool, true, false, List, [], ◌∷◌, ◌++◌, Option, Some, None, IfSome, option_and_then, refl, sym, ap, subst, ◌∙◌}
use Rattle.std.specs.Prelude.{if◌then◌else◌}
use Rattle.std.specs.List.{list_all}
use Rattle.std.proofs.lemmas.Option.{none-some}
use Rattle.frag_tree.specs.declared.access.Access.{Access}
use Rattle.frag_tree.specs.declared.block.Element.{Element}
use Rattle.frag_tree.specs.declared.block.Element.TheVariants as element
use Rattle.frag_tree.specs.declared.register.RegisterModule.{RegisterModule}
use Rattle.frag_tree.specs.declared.statement.Call.{Call}
use Rattle.frag_tree.specs.Trees.{BlockTree, Modules, ModuleTree, before, ended, register, block, one_register, one_block}
use Rattle.frag_sem.specs.CallPlaces.{RegisterAt, access_named, admits, count_of, leads, offset_of, through}
use Rattle.frag_sem.specs.Modules.{blocks_in, module_of, modules_of, registers_in, same_element}
use Rattle.frag_sem.proofs.Lists.{all_both, found_at}

-- a step leads through this accessor of a block to this module
pub record Entered (unit : BlockTree) (step : Call) (access : Access) (inner : ModuleTree) : Type 0 where
  pub named : access_named step.name unit.head.accessors ≡ Some access
  pub admitted : admits (count_of unit access) step.index ≡ true
  pub module_is : module_of access.element unit.inside ≡ Some inner

-- through an accessor, from where P holds, to what has Q
through_keeps : (P : ModuleTree → ℕ → Type 0) (Q : RegisterAt → Type 0) (unit : BlockTree) (start : ℕ) (step : Call) (access : Access) (others : ModuleTree → ℕ → Option RegisterAt) → ((inner : ModuleTree) (from : ℕ) → P inner from → IfSome (others inner from) Q) → ((inner : ModuleTree) → Entered unit step access inner → P inner (start + offset_of unit access step.index)) → access_named step.name unit.head.accessors ≡ Some access → IfSome (through unit start step access others) Q
through_keeps P Q unit start step access others more enters own = by (admits (count_of unit access) step.index) refl
  where
    inside : (o : Option ModuleTree) → module_of access.element unit.inside ≡ o → admits (count_of unit access) step.index ≡ true → IfSome (option_and_then (λ inner. others inner (start + offset_of unit access step.index)) o) Q
    inside None is holds = tt
    inside (Some inner) is holds = more inner (start + offset_of unit access step.index) (enters inner (record { named = own; admitted = holds; module_is = is }))

    by : (b : Bool) → admits (count_of unit access) step.index ≡ b → IfSome (if b then option_and_then (λ inner. others inner (start + offset_of unit access step.index)) (module_of access.element unit.inside) else None) Q
    by false is = tt
    by true is = inside (module_of access.element unit.inside) refl is

named_keeps : (P : ModuleTree → ℕ → Type 0) (Q : RegisterAt → Type 0) (unit : BlockTree) (start : ℕ) (step : Call) (others : ModuleTree → ℕ → Option RegisterAt) → ((inner : ModuleTree) (from : ℕ) → P inner from → IfSome (others inner from) Q) → ((access : Access) (inner : ModuleTree) → Entered unit step access inner → P inner (start + offset_of unit access step.index)) → (o : Option Access) → access_named step.name unit.head.accessors ≡ o → IfSome (option_and_then (λ access. through unit start step access others) o) Q
named_keeps P Q unit start step others more enters None is = tt
named_keeps P Q unit start step others more enters (Some access) is = through_keeps P Q unit start step access others more (enters access) is

-- What holds of a module that starts here, and is kept by each step, holds of the register to which accessors lead.
pub leads_keeps : (P : ModuleTree → ℕ → Type 0) (Q : RegisterAt → Type 0)
    → ((unit : RegisterModule) (start : ℕ) → P (one_register unit) start → Q (record { address = start; register = unit }))
    → ((unit : BlockTree) (start : ℕ) (step : Call) (access : Access) (inner : ModuleTree) → Entered unit step access inner → P (one_block unit) start → P inner (start + offset_of unit access step.index))
    → (steps : List Call) (unit : ModuleTree) (start : ℕ) → P unit start → IfSome (leads steps unit start) Q
unfolding leads
leads_keeps P Q stands enters [] (one_register unit) start h = stands unit start h
leads_keeps P Q stands enters [] (one_block unit) start h = tt
leads_keeps P Q stands enters (step ∷ steps) (one_register unit) start h = tt
leads_keeps P Q stands enters (step ∷ steps) (one_block unit) start h =
    named_keeps P Q unit start step (leads steps) (leads_keeps P Q stands enters steps) (λ access inner entered. enters unit start step access inner entered h) (access_named step.name unit.head.accessors) refl

-- ---- what is gathered from modules

which_module : {X : Type 0} (at : ModuleTree → List X) (has : X → Bool) (first found : ModuleTree) (others : Option ModuleTree) → (first ≡ found) ⊎ (others ≡ Some found) → list_all has (at first) ≡ true → (others ≡ Some found → list_all has (at found) ≡ true) → list_all has (at found) ≡ true
which_module at has first found others (inl same) here later = subst (λ inner. list_all has (at inner) ≡ true) same here
which_module at has first found others (inr there) here later = later there

-- What all that is gathered from the modules of a parent has, has what is gathered from each of them.
pub inside_has : {X : Type 0} (all : Modules → List X) (at : ModuleTree → List X) → ((first : ModuleTree) (others : Modules) → all (before first others) ≡ at first ++ all others) → (has : X → Bool) (modules : Modules) (wanted : Element) (found : ModuleTree) → module_of wanted modules ≡ Some found → list_all has (all modules) ≡ true → list_all has (at found) ≡ true
unfolding modules_of
inside_has all at gathers has ended wanted found there holds = absurd (none-some found there)
inside_has all at gathers has (register unit others) wanted found there holds =
    let parts = all_both has (at (one_register unit)) (all others) (ap (list_all has) (sym (gathers (one_register unit) others)) ∙ holds) in
    which_module at has (one_register unit) found (module_of wanted others)
    (found_at (same_element wanted (element.Register unit.name)) (one_register unit) (module_of wanted others) found there)
    parts.0
    (λ later. inside_has all at gathers has others wanted found later parts.1)
inside_has all at gathers has (block head inside others) wanted found there holds =
    let unit : BlockTree = record { head = head; inside = inside } in
    let parts = all_both has (at (one_block unit)) (all others) (ap (list_all has) (sym (gathers (one_block unit) others)) ∙ holds) in
    which_module at has (one_block unit) found (module_of wanted others)
    (found_at (same_element wanted (element.Block head.name)) (one_block unit) (module_of wanted others) found there)
    parts.0
    (λ later. inside_has all at gathers has others wanted found later parts.1)

-- the register modules at and below a module
abbrev pub registers_at : ModuleTree → List RegisterModule
registers_at (one_register unit) = unit ∷ []
registers_at (one_block unit) = registers_in unit.inside

pub registers_gather : (first : ModuleTree) (others : Modules) → registers_in (before first others) ≡ registers_at first ++ registers_in others
unfolding registers_in
registers_gather (one_register unit) others = refl
registers_gather (one_block unit) others = refl

-- the block modules at and below a module
abbrev pub blocks_at : ModuleTree → List BlockTree
blocks_at (one_register unit) = []
blocks_at (one_block unit) = unit ∷ blocks_in unit.inside

pub blocks_gather : (first : ModuleTree) (others : Modules) → blocks_in (before first others) ≡ blocks_at first ++ blocks_in others
unfolding blocks_in
blocks_gather (one_register unit) others = refl
blocks_gather (one_block unit) others = refl
