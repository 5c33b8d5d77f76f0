use Rattle.std.proofs.Common.{◌∙◌, map, ap, refl}
use Rattle.indexmap.proofs.MapLemmas.{OnOk-map}
use Rattle.derive_build.proofs.Listed.{grown}
use Rattle.derive_build.specs.Nodes.{with_rest, set_under}
use Rattle.svd_model.specs.Steps.{value}
use Rattle.svd_model.specs.Trees.{numbered, value_tree}
use Rattle.derive_build.proofs.listing.add_set.Goals as goal

pub returns : goal.returns
returns c =
    OnOk-map c.add_values.result _ _
    (λ below place. grown c.args.owns.now.items c.push.new.owns.items c.add_values.new.owns.items _ (set_under place c.args.values.now).0 (set_under place c.args.values.now).1
    c.in_ok-push.ensures refl
    (below ∙ ap (λ values. with_rest c.push.new.owns.items (numbered value 0 (map value_tree values))) c.as_slice.ensures.value))
    c.add_values.ensures
