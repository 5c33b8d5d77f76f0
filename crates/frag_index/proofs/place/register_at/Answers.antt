use Rattle.std.proofs.Common.{ap, sym, subst, List, Option, option_map, ◌≡◌, ◌∙◌}
use Rattle.frag_tree.specs.declared.statement.Call.{Call}
use Rattle.frag_tree.specs.Trees.{crate_tree, one_block}
use Rattle.frag_sem.specs.CallPlaces.{RegisterAt, leads, register_at, slot_named}
use Rattle.frag_sem.specs.Modules.{top_block}
use Rattle.frag_index.specs.Sites.{inner_tree}
use Rattle.frag_index.specs.Walks.{StartsBelow, found_seen}
use Rattle.frag_index.proofs.Walking.{led, no_slot, no_top}
use Rattle.frag_index.proofs.place.register_at.Goals as goal

pub returns-in_err-slot : goal.returns-in_err-slot
returns-in_err-slot c =
    λ below.
    let krate = crate_tree c.args.index.now.krate.now in
    ap (option_map found_seen) c.from_residual.ensures
    ∙ no_slot krate c.args.place.now (ap (λ name. slot_named name krate.slots) (sym c.bytes.ensures.same) ∙ sym c.in_err-slot.ensures)

pub returns-in_err-unit : goal.returns-in_err-unit
returns-in_err-unit c =
    λ below.
    let krate = crate_tree c.args.index.now.krate.now in
    ap (option_map found_seen) c.from_residual-in_err-unit.ensures
    ∙ no_top krate c.args.place.now c.in_ok-slot.slot.now
    (ap (λ name. slot_named name krate.slots) (sym c.bytes.ensures.same) ∙ sym c.in_ok-slot.ensures)
    (c.in_err-unit.ensures.same ∙ ap (λ name. option_map one_block (top_block name krate.blocks)) c.bytes-2.ensures.same)

pub returns : goal.returns
returns c =
    λ below.
    let krate = crate_tree c.args.index.now.krate.now in
    let found = led krate c.args.place.now c.in_ok-slot.slot.now (inner_tree c.in_ok-unit.unit.now)
    (ap (λ name. slot_named name krate.slots) (sym c.bytes.ensures.same) ∙ sym c.in_ok-slot.ensures)
    (c.in_ok-unit.ensures.same ∙ ap (λ name. option_map one_block (top_block name krate.blocks)) c.bytes-2.ensures.same) in
    let steps : leads c.as_slice.result.now (inner_tree c.in_ok-unit.unit.now) c.in_ok-slot.slot.now.address ≡ register_at krate c.args.place.now =
    ap (λ (steps : List Call). leads steps (inner_tree c.in_ok-unit.unit.now) c.in_ok-slot.slot.now.address) c.as_slice.ensures ∙ found in
    c.leads.ensures (subst (λ (o : Option RegisterAt). StartsBelow o) (sym steps) below) ∙ steps

pub leads-requires-clause-numbered : goal.leads-requires-clause-numbered
leads-requires-clause-numbered c = c.in_ok-unit.ensures.numbered
