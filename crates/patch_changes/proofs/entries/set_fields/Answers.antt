-- One field after the other.
use Rattle.std.proofs.Common.{◌+◌, ◌≤◌, List, length, subst, sym, rules}
use Rattle.std.proofs.lemmas.Option.{get_or_from_slice_get, slice_get_within}
use Rattle.patch_changes.specs.Listed.{keyed}
use Rattle.patch_names.proofs.PassedItems.{PassedBy, passed-end, passed-start, passed-step}
use Rattle.svd_model.proofs.Entries.{set_value_at-set}
use Rattle.svd_model.specs.declared.device.Field.{Field}
use Rattle.svd_model.specs.declared.sibling.Sibling.{Sibling}
use Rattle.svd_model.specs.Trees.{field_under}
use Rattle.patch_changes.proofs.entries.set_fields.Goals as goal

pub loop-index-init : goal.loop-index-init
loop-index-init c = passed-start field_under (λ entry. keyed c.args.pattern.now c.args.keys.now (field_under entry)) c.args.fields.now.entries

pub loop-index-preserved : goal.loop-index-preserved
loop-index-preserved c =
    let key = c.pair_mut-element.result.0.now in
    let old = c.pair_mut-element.result.1.now in
    let here = c.pair_mut-element.ensures.value in
    subst (λ (now : List (Sibling × Field)). PassedBy field_under (λ entry. keyed c.args.pattern.now c.args.keys.now (field_under entry)) c.args.fields.now.entries now (c.loop-index.index + 1)) (sym (set_value_at-set c.loop-index.fields.entries c.loop-index.index (key, old) c.set_one_field.new.element here))
    (passed-step field_under (λ entry. keyed c.args.pattern.now c.args.keys.now (field_under entry)) c.args.fields.now.entries c.loop-index.fields.entries c.loop-index.index (key, old) (key, c.set_one_field.new.element)
    (slice_get_within c.loop-index.fields.entries c.loop-index.index (key, old) here) (sym (get_or_from_slice_get c.loop-index.fields.entries c.loop-index.index (key, old) (key, old) here)) c.in_ok-set_one_field.ensures c.loop-index.invariant)

pub returns : goal.returns
returns c =
    let long = c.loop-index.invariant.long in
    let done : length c.args.fields.now.entries ≤ c.loop-index.index = search rules in
    passed-end field_under (λ entry. keyed c.args.pattern.now c.args.keys.now (field_under entry)) c.args.fields.now.entries c.loop-index.fields.entries c.loop-index.index done c.loop-index.invariant
