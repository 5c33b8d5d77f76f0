use Rattle.std.proofs.Common.{◌++◌, ◌∷◌, [], ◌∙◌, map, ap}
use Rattle.derive_build.proofs.Listed.{all_listed}
use Rattle.derive_build.specs.Nodes.{own_node, top_node}
use Rattle.svd_model.specs.Trees.{device_places}
use Rattle.svd_rows.specs.Ranks.{stated}
use Rattle.derive_build.proofs.listing.owns_of.Goals as goal

pub returns : goal.returns
returns c =
    all_listed c.push.new.owns.items c.add_peripherals.new.owns.items c.args.device.now
    (c.in_ok-push.ensures ∙ ap (λ l. map own_node l ++ top_node (stated (device_places c.args.device.now)) ∷ []) c.new-owns.ensures.items) c.in_ok-add_peripherals.ensures
