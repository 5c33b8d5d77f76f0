use Rattle.std.proofs.Common.{ap, ◌∙◌, option_map}
use Rattle.std.specs.Borrow.{Bor}
use Rattle.frag_tree.specs.declared.krate.Slot.{Slot}
use Rattle.frag_index.proofs.index.Index.slot.Goals as goal

pub returns : goal.returns
returns c = ap (option_map (λ (slot : Bor Slot). slot.now)) (c.copied.ensures ∙ c.get.ensures) ∙ c.requires.slots_are c.args.name.now
