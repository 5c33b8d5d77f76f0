-- The parts of the group are those of the field, but for its dimension and its place.
use Rattle.std.proofs.Common.{map, refl, ap, ◌∙◌}
use Rattle.dim_expand.proofs.Keyed.{field-made}
use Rattle.svd_model.specs.Trees.{set_tree}
use Rattle.dim_expand.proofs.field.field_group.Goals as goal

pub returns : goal.returns
returns c =
    field-made c.args.element.now (record {
      derived = c.in_ok-copied_path.field-0;
      dim = c.in_ok-group_dim.field-0;
      place = c.group_place.result;
      access = c.args.element.now.access;
      kind = c.args.element.now.kind;
      action = c.args.element.now.action;
      values = c.in_ok-copied_sets.field-0;
    }) c.args.group c.in_ok-copied_path.ensures c.in_ok-group_dim.ensures c.group_place.ensures.offset c.group_place.ensures.width refl refl refl
    (c.in_ok-copied_sets.ensures ∙ ap (map set_tree) c.as_slice.ensures.value)
