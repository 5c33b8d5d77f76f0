use Rattle.std.proofs.Common.{arith, ◌∙◌, map, sym, ap}
use Rattle.indexmap.proofs.MapLemmas.{OnOk-map}
use Rattle.derive_sources.proofs.Listed.{grown, field-names}
use Rattle.derive_sources.specs.Entries.{with_rest}
use Rattle.svd_model.specs.Steps.{set}
use Rattle.svd_model.specs.Trees.{field_under, numbered, set_tree}
use Rattle.derive_sources.proofs.listing.add_field.Goals as goal

pub returns : goal.returns
returns c =
    OnOk-map c.add_sets.result _ _
    (λ below. grown c.args.entries.now.items c.push.new.entries.items c.add_sets.new.entries.items c.args.parent c.len-number.result c.bytes.result.now _ (field_under (c.args.key.now, c.args.field.now)).0 (field_under (c.args.key.now, c.args.field.now)).1
    c.in_ok-push.ensures c.bytes.ensures.same (c.lent.ensures ∙ sym (field-names c.args.field.now)) (omega (arith, c.len-number.ensures, c.args.entries.now.ok.0))
    (below ∙ ap (λ sets. with_rest c.push.new.entries.items c.len-number.result (numbered set 0 (map set_tree sets))) c.as_slice.ensures.value))
    c.add_sets.ensures
