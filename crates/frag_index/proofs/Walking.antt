-- The walk along accessors.
use Rattle.std.proofs.Common.{ℕ, ◌≡◌, ◌+◌, ◌-◌, ◌^◌, ◌<◌, ◌≤◌, ◌⊎◌, inl, inr, min, Bool, true, false, List, [], ◌∷◌, Option, Some, None, IfSome, option_map, option_and_then, refl, sym, ap, subst, ◌∙◌, if◌then◌else◌, arith}
use Rattle.std.specs.Prelude.{nat_lt}
use Rattle.std.proofs.lemmas.Bool.{cases_lt}
use Rattle.std.proofs.lemmas.Bool.Decides.{nat_tests}
use Rattle.std.proofs.lemmas.Option.{same_Some}
use Rattle.frag_tree.specs.declared.access.Access.{Access}
use Rattle.frag_tree.specs.declared.krate.Slot.{Slot}
use Rattle.frag_tree.specs.declared.register.RegisterModule.{RegisterModule}
use Rattle.frag_tree.specs.declared.statement.Call.{Call}
use Rattle.frag_tree.specs.declared.statement.Place.{Place}
use Rattle.frag_tree.specs.Trees.{BlockTree, CrateTree, ModuleTree, one_block, one_register}
use Rattle.frag_sem.specs.CallPlaces.{RegisterAt, access_named, admits, count_of, leads, offset_of, register_at, slot_named, through}
use Rattle.frag_sem.specs.Modules.{module_of, top_block}
use Rattle.frag_sem.proofs.Leading.{leads_keeps}
use Rattle.frag_index.specs.declared.place.Stand.{Stand}
use Rattle.frag_index.specs.declared.site.Site.{Site}
use Rattle.frag_index.specs.Sites.{IsNumbered, inner_tree}
use Rattle.frag_index.specs.Walks.{GoesOn, GoesTo, StartsBelow, small}

-- ---- small numbers

not_small : (n : ℕ) → 2 ^ 64 ≤ n → small n ≡ None
not_small n past = let e : nat_lt n (2 ^ 64) ≡ false = grind (arith, nat_tests, past) in rw e refl

is_small : (n : ℕ) → n < 2 ^ 64 → small n ≡ Some n
is_small n below = let e : nat_lt n (2 ^ 64) ≡ true = grind (arith, nat_tests, below) in rw e refl

pub small_same : (m n : ℕ) → (n < 2 ^ 64 → m ≡ n) → (2 ^ 64 ≤ n → 2 ^ 64 ≤ m) → small m ≡ small n
small_same m n below past = by (cases_lt n (2 ^ 64))
  where
    by : (n < 2 ^ 64) ⊎ (2 ^ 64 ≤ n) → small m ≡ small n
    by (inl less) = ap small (below less)
    by (inr more) = not_small m (past more) ∙ sym (not_small n more)

-- sums that are held at 2^128 - 1
pub small_sum : (start place product : ℕ) → small (start + min (place + min product (2 ^ 128 - 1)) (2 ^ 128 - 1)) ≡ small (start + (place + product))
small_sum start place product = small_same (start + min (place + min product (2 ^ 128 - 1)) (2 ^ 128 - 1)) (start + (place + product)) (λ below. omega arith) (λ past. omega arith)

from_small : (n s : ℕ) → Some s ≡ small n → n ≡ s
from_small n s is = by (cases_lt n (2 ^ 64))
  where
    by : (n < 2 ^ 64) ⊎ (2 ^ 64 ≤ n) → n ≡ s
    by (inl less) = same_Some n s (sym (is_small n less) ∙ sym is)
    by (inr more) = absurd (let e : Some s ≡ None = is ∙ not_small n more in cc)

past_small : (n : ℕ) → None ≡ small n → 2 ^ 64 ≤ n
past_small n is = by (cases_lt n (2 ^ 64))
  where
    by : (n < 2 ^ 64) ⊎ (2 ^ 64 ≤ n) → 2 ^ 64 ≤ n
    by (inl less) = absurd (let e : None ≡ Some n = is ∙ is_small n less in cc)
    by (inr more) = more

-- ---- one step

-- accessors lead nowhere before where they start
further : (steps : List Call) (unit : ModuleTree) (start : ℕ) → IfSome (leads steps unit start) (λ found. start ≤ found.address)
further steps unit start =
    leads_keeps (λ inner from. start ≤ from) (λ found. start ≤ found.address) (λ register from h. h) (λ block from step access inner entered h. omega (arith, h)) steps unit start (omega arith)

none_below : (o : Option RegisterAt) (from : ℕ) → 2 ^ 64 ≤ from → IfSome o (λ found. from ≤ found.address) → StartsBelow o → o ≡ None
none_below None from past h below = refl
none_below (Some found) from past h below = absurd (omega (arith, past, h, below))

through_is : (unit : BlockTree) (start : ℕ) (step : Call) (access : Access) (inner : ModuleTree) → admits (count_of unit access) step.index ≡ true → module_of access.element unit.inside ≡ Some inner
    → (steps : List Call) → through unit start step access (leads steps) ≡ leads steps inner (start + offset_of unit access step.index)
through_is unit start step access inner admitted is steps = rw (admitted, is) refl

pub passed : (sites : List Site) (unit : BlockTree) (start : ℕ) (step : Call) (access : Access) (at : Stand) → admits (count_of unit access) step.index ≡ true → module_of access.element unit.inside ≡ Some (inner_tree at.unit.now)
    → Some at.start ≡ small (start + offset_of unit access step.index) → IsNumbered sites at.unit.now → GoesTo sites (λ steps. through unit start step access (leads steps)) at
passed sites unit start step access at admitted is moved has = record {
  same = λ steps. sym (through_is unit start step access (inner_tree at.unit.now) admitted is steps ∙ ap (leads steps (inner_tree at.unit.now)) (from_small (start + offset_of unit access step.index) at.start moved));
  numbered = has;
}

pub stuck : (sites : List Site) (unit : BlockTree) (start : ℕ) (step : Call) (access : Access) (inner : ModuleTree) → admits (count_of unit access) step.index ≡ true → module_of access.element unit.inside ≡ Some inner
    → None ≡ small (start + offset_of unit access step.index) → GoesOn sites None (λ steps. through unit start step access (leads steps))
stuck sites unit start step access inner admitted is past steps below =
    let same = through_is unit start step access inner admitted is steps in
    let from : ℕ = start + offset_of unit access step.index in
    same ∙ none_below (leads steps inner from) from (past_small from past) (further steps inner from) (subst (λ (o : Option RegisterAt). StartsBelow o) same below)

pub not_admitted : (sites : List Site) (unit : BlockTree) (start : ℕ) (step : Call) (access : Access) → admits (count_of unit access) step.index ≡ false → GoesOn sites None (λ steps. through unit start step access (leads steps))
not_admitted sites unit start step access refused steps below = rw refused refl

pub no_module : (sites : List Site) (unit : BlockTree) (start : ℕ) (step : Call) (access : Access) → module_of access.element unit.inside ≡ None → GoesOn sites None (λ steps. through unit start step access (leads steps))
no_module sites unit start step access none steps below =
    nothing (admits (count_of unit access) step.index) (option_and_then (λ inner. leads steps inner (start + offset_of unit access step.index)) (module_of access.element unit.inside))
    (ap (option_and_then (λ inner. leads steps inner (start + offset_of unit access step.index))) none)
  where
    nothing : (b : Bool) (o : Option RegisterAt) → o ≡ None → (if b then o else None) ≡ None
    nothing true o is = is
    nothing false o is = refl

goes_by : (sites : List Site) (found : Option Stand) (one other : List Call → Option RegisterAt) → ((steps : List Call) → one steps ≡ other steps) → GoesOn sites found one → GoesOn sites found other
goes_by sites (Some at) one other same goes = record { same = λ steps. goes.same steps ∙ same steps; numbered = goes.numbered }
goes_by sites None one other same goes = λ steps below. sym (same steps) ∙ goes steps (subst (λ (o : Option RegisterAt). StartsBelow o) (sym (same steps)) below)

-- through the accessor that has the name
pub goes_through : (sites : List Site) (found : Option Stand) (unit : BlockTree) (start : ℕ) (step : Call) (access : Access) → access_named step.name unit.head.accessors ≡ Some access → GoesOn sites found (λ steps. through unit start step access (leads steps)) → GoesOn sites found (λ steps. leads (step ∷ steps) (one_block unit) start)
unfolding leads
goes_through sites found unit start step access named goes = goes_by sites found (λ steps. through unit start step access (leads steps)) (λ steps. leads (step ∷ steps) (one_block unit) start) (λ steps. rw named refl) goes

pub goes_nowhere : (sites : List Site) (unit : BlockTree) (start : ℕ) (step : Call) → access_named step.name unit.head.accessors ≡ None → GoesOn sites None (λ steps. leads (step ∷ steps) (one_block unit) start)
unfolding leads
goes_nowhere sites unit start step none steps below = rw none refl

pub past_register : (sites : List Site) (unit : RegisterModule) (start : ℕ) (step : Call) → GoesOn sites None (λ steps. leads (step ∷ steps) (one_register unit) start)
unfolding leads
past_register sites unit start step steps below = refl

-- ---- where steps end

pub ends_at_register : (steps : List Call) (unit : ModuleTree) (register : RegisterModule) (start : ℕ) → steps ≡ [] → unit ≡ one_register register → Some (record { address = start; register = register }) ≡ leads steps unit start
unfolding leads
ends_at_register steps unit register start none is = rw (none, is) refl

pub ends_at_block : (steps : List Call) (unit : ModuleTree) (block : BlockTree) (start : ℕ) → steps ≡ [] → unit ≡ one_block block → None ≡ leads steps unit start
unfolding leads
ends_at_block steps unit block start none is = rw (none, is) refl

-- ---- from a slot

pub no_slot : (krate : CrateTree) (place : Place) → slot_named place.slot krate.slots ≡ None → None ≡ register_at krate place
unfolding register_at
no_slot krate place none = rw none refl

slot_leads : (o : Option BlockTree) (steps : List Call) (start : ℕ) → option_and_then (λ unit. leads steps (one_block unit) start) o ≡ option_and_then (λ tree. leads steps tree start) (option_map one_block o)
slot_leads None steps start = refl
slot_leads (Some unit) steps start = refl

pub no_top : (krate : CrateTree) (place : Place) (slot : Slot) → slot_named place.slot krate.slots ≡ Some slot → None ≡ option_map one_block (top_block slot.block krate.blocks) → None ≡ register_at krate place
unfolding register_at
no_top krate place slot is none = rw is (ap (option_and_then (λ tree. leads place.steps tree slot.address)) none ∙ sym (slot_leads (top_block slot.block krate.blocks) place.steps slot.address))

pub led : (krate : CrateTree) (place : Place) (slot : Slot) (tree : ModuleTree) → slot_named place.slot krate.slots ≡ Some slot → Some tree ≡ option_map one_block (top_block slot.block krate.blocks) → leads place.steps tree slot.address ≡ register_at krate place
unfolding register_at
led krate place slot tree is found = rw is (ap (option_and_then (λ tree. leads place.steps tree slot.address)) found ∙ sym (slot_leads (top_block slot.block krate.blocks) place.steps slot.address))
