-- The parts of the group are those of the register, but for its dimension, its offset and its unfolded fields.
use Rattle.std.proofs.Common.{refl}
use Rattle.dim_expand.proofs.Keyed.{register-made}
use Rattle.dim_expand.proofs.item.register_group.Goals as goal

pub returns : goal.returns
returns c = λ few.
    register-made c.args.element.now (record {
      derived = c.in_ok-copied_path.field-0;
      dim = c.in_ok-group_dim.field-0;
      offset = c.group_start.result;
      alternate = c.in_ok-copied_name.field-0;
      group = c.in_ok-copied_name-2.field-0;
      props = c.args.element.now.props;
      kind = c.args.element.now.kind;
      action = c.args.element.now.action;
      fields = c.in_ok-unfolded_fields.field-0;
    }) c.args.group c.in_ok-copied_path.ensures c.in_ok-group_dim.ensures c.group_start.ensures c.in_ok-copied_name.ensures c.in_ok-copied_name-2.ensures refl refl refl (c.in_ok-unfolded_fields.ensures few)
