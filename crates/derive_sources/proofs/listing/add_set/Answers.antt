use Rattle.std.proofs.Common.{arith, ◌∙◌, map, sym, ap}
use Rattle.indexmap.proofs.MapLemmas.{OnOk-map}
use Rattle.derive_sources.proofs.Listed.{grown, set-names}
use Rattle.derive_sources.specs.Entries.{with_rest, set_under}
use Rattle.svd_model.specs.Steps.{value}
use Rattle.svd_model.specs.Trees.{numbered, value_tree}
use Rattle.derive_sources.proofs.listing.add_set.Goals as goal

pub returns : goal.returns
returns c =
    OnOk-map c.add_values.result _ _
    (λ below place. grown c.args.entries.now.items c.push.new.entries.items c.add_values.new.entries.items c.args.parent c.len-number.result c.bytes_of.result.now _ (set_under place c.args.values.now).0 (set_under place c.args.values.now).1
    c.in_ok-push.ensures c.bytes_of.ensures (c.lent.ensures ∙ sym (set-names c.args.values.now)) (omega (arith, c.len-number.ensures, c.args.entries.now.ok.0))
    (below ∙ ap (λ values. with_rest c.push.new.entries.items c.len-number.result (numbered value 0 (map value_tree values))) c.as_slice.ensures.value))
    c.add_values.ensures
