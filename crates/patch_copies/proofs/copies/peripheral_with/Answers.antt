use Rattle.std.proofs.Common.{ap, ◌∙◌}
use Rattle.patch_settings.proofs.ChildKeys.{set-tree}
use Rattle.patch_settings.specs.Setting.{with_set}
use Rattle.svd_model.specs.Steps.{peripheral}
use Rattle.svd_model.specs.Trees.{peripheral_tree}
use Rattle.svd_schema.specs.declared.container.Container.TheVariants as container
use Rattle.patch_copies.proofs.copies.peripheral_with.Goals as goal

pub returns : goal.returns
returns c =
    ap (λ tree. (peripheral, tree)) (set-tree container.Peripheral c.args.keys.now (peripheral_tree c.in_ok-made.made) (peripheral_tree c.set_peripheral.new.peripheral) c.in_ok-set_peripheral.ensures)
    ∙ ap (λ tree. with_set c.args.keys.now (peripheral, tree)) c.in_ok-made.ensures
