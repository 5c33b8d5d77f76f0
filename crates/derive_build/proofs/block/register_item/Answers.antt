use Rattle.std.proofs.Common.{ap₂, ◌∙◌}
use Rattle.svd_model.specs.Trees.{step_of}
use Rattle.svd_model.proofs.Trees.{item_under-roll, child_tree-register}
use Rattle.svd_model.specs.declared.device.Child.TheVariants as child
use Rattle.derive_build.proofs.block.register_item.Goals as goal

pub returns : goal.returns
returns c =
    item_under-roll (record { key = c.in_ok-copied_key.field-0; child = child.Register c.args.inner })
    ∙ ap₂ (λ k t. (step_of t.0 k, t.1)) c.in_ok-copied_key.ensures (child_tree-register c.args.inner)
