use Rattle.std.proofs.Common.{◌∙◌, map, ap, refl}
use Rattle.indexmap.proofs.MapLemmas.{OnOk-map}
use Rattle.derive_build.proofs.Listed.{grown}
use Rattle.derive_build.specs.Nodes.{with_rest}
use Rattle.svd_model.specs.Steps.{set}
use Rattle.svd_model.specs.Trees.{field_under, numbered, set_tree}
use Rattle.derive_build.proofs.listing.add_field.Goals as goal

pub returns : goal.returns
returns c =
    OnOk-map c.add_sets.result _ _
    (λ below. grown c.args.owns.now.items c.push.new.owns.items c.add_sets.new.owns.items _ (field_under (c.args.key.now, c.args.field.now)).0 (field_under (c.args.key.now, c.args.field.now)).1
    c.in_ok-push.ensures refl
    (below ∙ ap (λ sets. with_rest c.push.new.owns.items (numbered set 0 (map set_tree sets))) c.as_slice.ensures.value))
    c.add_sets.ensures
