use Rattle.std.proofs.Common.{◌∙◌}
use Rattle.std.specs.Borrow.{Bor}
use Rattle.frag_tree.specs.declared.krate.Slot.{Slot}
use Rattle.frag_tree.specs.Trees.{crate_tree}
use Rattle.frag_types.proofs.Steps.{is-found, is-there}
use Rattle.frag_types.proofs.place.is_slot.Goals as goal

pub returns : goal.returns
returns c =
    c.is_some.ensures ∙ (is-there (λ (slot : Bor Slot). slot.now) c.slot.result _ c.slot.ensures ∙ is-found (λ slot. slot.name) (crate_tree c.args.index.now.krate.now).slots c.args.name.now)
