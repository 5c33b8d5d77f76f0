-- A call that types is one of the register at its place.
use Rattle.std.proofs.Common.{ℕ, ◌≡◌, Bool, true, false, ◌+◌, List, [], ◌∷◌, Option, Some, None, Ok, Err, ok_or, option_map, option_and_then, refl, sym, ap, subst, ◌∙◌}
use Rattle.std.specs.Prelude.{if◌then◌else◌, IsSomeAnd}
use Rattle.frag_tree.specs.declared.access.Access.{Access}
use Rattle.frag_tree.specs.declared.krate.Slot.{Slot}
use Rattle.frag_tree.specs.declared.register.RegisterModule.{RegisterModule}
use Rattle.frag_tree.specs.declared.statement.Call.{Call}
use Rattle.frag_tree.specs.Trees.{BlockTree, ModuleTree, one_register, one_block}
use Rattle.frag_sem.specs.CallPlaces.{RegisterAt, access_named, count_of, ended_at, from_slot, leads, offset_of, register_at, slot_named, through}
use Rattle.frag_sem.specs.Laws.{CallsAreThere}
use Rattle.frag_sem.specs.Modules.{module_of, top_block}
use Rattle.frag_sem.specs.PlaceTyping.{Inner, call_leads, inner_of, register_with, steps_lead}
use Rattle.frag_sem.specs.ScriptTyping.{◌>>=◌, index_types, no_such_call, no_such_name}
use Rattle.frag_sem.specs.Surfaces.{RegisterCalls}
use Rattle.frag_sem.specs.TextSurface.{register_calls}
use Rattle.frag_sem.proofs.Typings.{admits_typed, both_ok, not_ok, same_ok}

-- what is reached of the module to which accessors lead
abbrev Reached : ModuleTree → Option RegisterAt → Type 0
Reached (one_register unit) reached = IsSomeAnd reached (λ found. found.register ≡ unit)
Reached (one_block unit) reached = Unit {0}

ended_reached : (unit : ModuleTree) (start : ℕ) → Reached unit (ended_at unit start)
ended_reached (one_register unit) start = refl
ended_reached (one_block unit) start = tt

steps_reach : (steps : List Call) (unit : ModuleTree) (start : ℕ) (end : ModuleTree) → steps_lead unit steps ≡ Ok end → Reached end (leads steps unit start)
unfolding steps_lead leads
steps_reach [] unit start end h = subst (λ tree. Reached tree (ended_at unit start)) (same_ok unit end h) (ended_reached unit start)
steps_reach (step ∷ steps) (one_register unit) start end h = absurd (not_ok no_such_call end h)
steps_reach (step ∷ steps) (one_block unit) start end h = by (access_named step.name unit.head.accessors) refl h (λ tree from. steps_reach steps tree from end)
  where
    Behind : Type 0
    Behind = Reached end (option_and_then (λ access. through unit start step access (leads steps)) (access_named step.name unit.head.accessors))

    More : Type 0
    More = (tree : ModuleTree) (from : ℕ) → steps_lead tree steps ≡ Ok end → Reached end (leads steps tree from)

    in_tree : (access : Access) (tree : ModuleTree) → access_named step.name unit.head.accessors ≡ Some access → module_of access.element unit.inside ≡ Some tree → (index_types (count_of unit access) step.index >>= λ _. steps_lead tree steps) ≡ Ok end → More → Behind
    in_tree access tree named is e more =
        let found = both_ok (index_types (count_of unit access) step.index) (λ _. steps_lead tree steps) end e in
        let there : option_and_then (λ a. through unit start step a (leads steps)) (access_named step.name unit.head.accessors) ≡ leads steps tree (start + offset_of unit access step.index) =
        ap (option_and_then (λ a. through unit start step a (leads steps))) named
        ∙ (ap (λ b. if b then option_and_then (λ inner. leads steps inner (start + offset_of unit access step.index)) (module_of access.element unit.inside) else None) (admits_typed (count_of unit access) step.index found.1)
        ∙ ap (option_and_then (λ inner. leads steps inner (start + offset_of unit access step.index))) is) in
        subst (Reached end) (sym there) (more tree (start + offset_of unit access step.index) found.2)

    in_access : (access : Access) (o : Option ModuleTree) → access_named step.name unit.head.accessors ≡ Some access → module_of access.element unit.inside ≡ o → (ok_or (option_map (λ tree. record { count = count_of unit access; tree = tree }) o) no_such_call >>= λ (inner : Inner). (index_types inner.count step.index >>= λ _. steps_lead inner.tree steps)) ≡ Ok end → More → Behind
    in_access access None named is e more = absurd (not_ok no_such_call end e)
    in_access access (Some tree) named is e more = in_tree access tree named is e more

    by : (o : Option Access) → access_named step.name unit.head.accessors ≡ o → (ok_or (option_and_then (inner_of unit) o) no_such_call >>= λ (inner : Inner). (index_types inner.count step.index >>= λ _. steps_lead inner.tree steps)) ≡ Ok end → More → Behind
    by None is e more = absurd (not_ok no_such_call end e)
    by (Some access) is e more = in_access access (module_of access.element unit.inside) is refl e more

-- the register that was reached is the one that has the call
register_there : (has_call : RegisterCalls → Bool) (end : ModuleTree) (unit : RegisterModule) (reached : Option RegisterAt) → register_with has_call end ≡ Ok unit → Reached end reached → IsSomeAnd reached (λ found. (found.register ≡ unit) × (has_call (register_calls unit) ≡ true))
register_there has_call (one_block inside) unit reached h there = absurd (not_ok no_such_call unit h)
register_there has_call (one_register one) unit None h there = absurd there
register_there has_call (one_register one) unit (Some found) h there = by (has_call (register_calls one)) refl h
  where
    by : (b : Bool) → has_call (register_calls one) ≡ b → (if b then Ok one else Err no_such_call) ≡ Ok unit → (found.register ≡ unit) × (has_call (register_calls unit) ≡ true)
    by true is e =
        let same = same_ok one unit e in
        (there ∙ same, ap (λ r. has_call (register_calls r)) (sym same) ∙ is)
    by false is e = absurd (not_ok no_such_call unit e)

pub calls_are_there : CallsAreThere
unfolding call_leads register_at
calls_are_there krate has_call place unit h = by (slot_named place.slot krate.slots) refl h
  where
    Found : Option RegisterAt → Type 0
    Found reached = IsSomeAnd reached (λ found. (found.register ≡ unit) × (has_call (register_calls unit) ≡ true))

    in_block : (slot : Slot) (o : Option BlockTree) → slot_named place.slot krate.slots ≡ Some slot → top_block slot.block krate.blocks ≡ o → (ok_or (option_map one_block o) no_such_name >>= λ tree. (steps_lead tree place.steps >>= register_with has_call)) ≡ Ok unit → Found (option_and_then (from_slot krate place.steps) (slot_named place.slot krate.slots))
    in_block slot None named is e = absurd (not_ok no_such_name unit e)
    in_block slot (Some top) named is e =
        let found = both_ok (steps_lead (one_block top) place.steps) (register_with has_call) unit e in
        let there : option_and_then (from_slot krate place.steps) (slot_named place.slot krate.slots) ≡ leads place.steps (one_block top) slot.address =
        ap (option_and_then (from_slot krate place.steps)) named ∙ ap (option_and_then (λ inner. leads place.steps (one_block inner) slot.address)) is in
        subst Found (sym there) (register_there has_call found.0 unit (leads place.steps (one_block top) slot.address) found.2 (steps_reach place.steps (one_block top) slot.address found.0 found.1))

    by : (o : Option Slot) → slot_named place.slot krate.slots ≡ o → (ok_or (option_and_then (λ slot. option_map one_block (top_block slot.block krate.blocks)) o) no_such_name >>= λ tree. (steps_lead tree place.steps >>= register_with has_call)) ≡ Ok unit → Found (option_and_then (from_slot krate place.steps) (slot_named place.slot krate.slots))
    by None is e = absurd (not_ok no_such_name unit e)
    by (Some slot) is e = in_block slot (top_block slot.block krate.blocks) is refl e
