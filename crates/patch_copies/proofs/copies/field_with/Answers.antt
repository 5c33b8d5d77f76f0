use Rattle.std.proofs.Common.{ap, ◌∙◌}
use Rattle.patch_settings.proofs.ChildKeys.{set-tree}
use Rattle.patch_settings.specs.Setting.{with_set}
use Rattle.svd_model.specs.Steps.{field}
use Rattle.svd_model.specs.Trees.{field_tree}
use Rattle.svd_schema.specs.declared.container.Container.TheVariants as container
use Rattle.patch_copies.proofs.copies.field_with.Goals as goal

pub returns : goal.returns
returns c =
    ap (λ tree. (field, tree)) (set-tree container.Field c.args.keys.now (field_tree c.in_ok-made.made) (field_tree c.set_field.new.field) c.in_ok-set_field.ensures)
    ∙ ap (λ tree. with_set c.args.keys.now (field, tree)) c.in_ok-made.ensures
