-- Places of the relation are those of the look-up.
use Rattle.std.proofs.Common.{ℕ, ◌≡◌, ◌+◌, ◌*◌, true, List, [], ◌∷◌, Option, Some, None, option_and_then, refl, sym, ap, ap₂, ◌∙◌}
use Rattle.std.specs.Prelude.{if◌then◌else◌, unwrap_or}
use Rattle.std.proofs.lemmas.Bool.{lt-ltb}
use Rattle.frag_tree.specs.declared.access.Access.{Access}
use Rattle.frag_tree.specs.declared.access.Body.{Body}
use Rattle.frag_tree.specs.declared.access.Body.TheVariants as body
use Rattle.frag_tree.specs.declared.statement.Call.{Call}
use Rattle.frag_tree.specs.declared.statement.Place.{Place}
use Rattle.frag_tree.specs.Trees.{BlockTree, CrateTree, ModuleTree, one_register, one_block}
use Rattle.frag_sem.specs.CallPlaces.{RegisterAt, admits, body_count, body_offset, from_slot, leads, offset_of, register_at, through, type_count}
use Rattle.frag_sem.specs.Layout.{Extent, extent_or_none}
use Rattle.frag_sem.specs.Modules.{module_of}
use Rattle.frag_sem.specs.PlaceIs.{BodyIs, LeadsTo, PlaceIs}

-- an accessor of the relation admits the index, and leads as far
body_is : (unit : BlockTree) (access : Access) (found : Body) (index : Option ℕ) (offset : ℕ) → BodyIs unit access.element found index offset → (admits (body_count unit.head.fields found) index ≡ true) × (offset ≡ body_offset unit access found (unwrap_or index 0))
body_is unit access (body.Field field) None offset at = (refl, ap (λ (o : Option ℕ). unwrap_or o 0) (sym at.place_is))
body_is unit access (body.Field field) (Some index) offset at = absurd at
body_is unit access (body.Member field) None offset at = absurd at
body_is unit access (body.Member field) (Some index) offset at = (
  ap (λ o. admits (option_and_then (λ found. type_count found.holds) o) (Some index)) at.array.named ∙ (ap (λ type. admits (type_count type) (Some index)) at.array.type_is ∙ lt-ltb index at.count at.below),
  at.offset_is ∙ ap₂ (λ (p : Option ℕ) (e : Option Extent). unwrap_or p 0 + index * (extent_or_none e).size) (sym at.array.place_is) (sym at.extent_is),
)
body_is unit access (body.At start) None offset at = (refl, at)
body_is unit access (body.At start) (Some index) offset at = absurd at
body_is unit access (body.AtIndex start stride count) None offset at = absurd at
body_is unit access (body.AtIndex start stride count) (Some index) offset at = (lt-ltb index count at.0, at.1)

leads_found : (found : RegisterAt) (steps : List Call) (unit : ModuleTree) (start : ℕ) → LeadsTo found steps unit start → leads steps unit start ≡ Some found
unfolding leads LeadsTo
leads_found found [] (one_register unit) start h = ap Some (sym h)
leads_found found [] (one_block unit) start h = absurd h
leads_found found (step ∷ steps) (one_register unit) start h = absurd h
leads_found found (step ∷ steps) (one_block unit) start h =
    let at = body_is unit h.access h.access.body step.index h.offset h.offset_is in
    ap (option_and_then (λ access. through unit start step access (leads steps))) h.named
    ∙ (ap (λ b. if b then option_and_then (λ inner. leads steps inner (start + offset_of unit h.access step.index)) (module_of h.access.element unit.inside) else None) at.0
    ∙ (ap (option_and_then (λ inner. leads steps inner (start + offset_of unit h.access step.index))) h.inner_is
    ∙ (ap (λ (n : ℕ). leads steps h.inner (start + n)) (sym at.1)
    ∙ leads_found found steps h.inner (start + h.offset) h.onward)))

pub place_found : (krate : CrateTree) (place : Place) (found : RegisterAt) → PlaceIs krate place found → register_at krate place ≡ Some found
unfolding register_at
place_found krate place found h =
    ap (option_and_then (from_slot krate place.steps)) h.slot_is
    ∙ (ap (option_and_then (λ unit. leads place.steps (one_block unit) h.slot.address)) h.unit_is
    ∙ leads_found found place.steps (one_block h.unit) h.slot.address h.leads)
