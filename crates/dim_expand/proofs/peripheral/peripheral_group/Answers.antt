-- The parts of the group are those of the peripheral, but for its dimension, its base and its unfolded children.
use Rattle.std.proofs.Common.{map, refl, sym, ap, ◌∙◌, subst}
use Rattle.dim_expand.specs.Narrow.{IsNarrowForest}
use Rattle.dim_expand.specs.Walks.{capped, unfolded}
use Rattle.dim_expand.proofs.Keyed.{peripheral-made}
use Rattle.svd_model.specs.Trees.{item_under}
use Rattle.svd_rows.specs.Forest.{siblings}
use Rattle.dim_expand.proofs.peripheral.peripheral_group.Goals as goal

pub returns : goal.returns
returns c = λ narrow.
    peripheral-made c.args.element.now (record {
      derived = c.in_ok-copied_path.field-0;
      dim = c.in_ok-group_dim.field-0;
      base = c.group_start.result;
      props = c.args.element.now.props;
      children = c.in_ok-unfolded_items.field-0;
    }) c.args.group c.in_ok-copied_path.ensures c.in_ok-group_dim.ensures c.group_start.ensures refl
    (c.in_ok-unfolded_items.ensures (subst IsNarrowForest (ap (λ items. siblings (map item_under items)) (sym c.as_slice.ensures.value)) narrow) ∙ ap (λ items. unfolded capped (siblings (map item_under items))) c.as_slice.ensures.value)
