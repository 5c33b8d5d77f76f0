use Rattle.std.proofs.Common.{sym, ap, ◌∙◌, option_map}
use Rattle.std.specs.Borrow.{Bor}
use Rattle.frag_sem.specs.Modules.{top_block}
use Rattle.frag_tree.specs.declared.krate.Slot.{Slot}
use Rattle.frag_tree.specs.Trees.{crate_tree, one_block}
use Rattle.frag_index.specs.declared.site.Inner.{Inner}
use Rattle.frag_index.specs.Sites.{inner_tree}
use Rattle.frag_types.proofs.Steps.{slot-leads, slot-missing}
use Rattle.frag_types.proofs.place.slot_module.Goals as goal

pub returns-in-Some-clause-same : goal.returns-in-Some-clause-same
returns-in-Some-clause-same c =
    let krate = crate_tree c.args.index.now.krate.now in
    slot-leads krate c.args.name.now c.in-Some.slot.now (option_map (λ (unit : Bor Inner). inner_tree unit.now) c.top.result) (sym c.slot.ensures ∙ ap (option_map (λ (slot : Bor Slot). slot.now)) c.in-Some.is)
    (c.top.ensures.same ∙ ap (λ name. option_map one_block (top_block name krate.blocks)) c.bytes.ensures.same)

pub returns-in-None-clause-same : goal.returns-in-None-clause-same
returns-in-None-clause-same c = slot-missing (crate_tree c.args.index.now.krate.now) c.args.name.now (sym c.slot.ensures ∙ ap (option_map (λ (slot : Bor Slot). slot.now)) c.in-None.is)
