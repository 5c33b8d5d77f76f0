-- One peripheral after the other.
use Rattle.std.proofs.Common.{◌+◌, ◌≤◌, List, length, subst, sym, rules}
use Rattle.std.proofs.lemmas.Option.{get_or_from_slice_get, slice_get_within}
use Rattle.patch_changes.specs.Listed.{keyed}
use Rattle.patch_names.proofs.PassedItems.{PassedBy, passed-end, passed-start, passed-step}
use Rattle.svd_model.proofs.Entries.{set_value_at-set}
use Rattle.svd_model.specs.declared.device.Peripheral.{Peripheral}
use Rattle.svd_model.specs.declared.sibling.Sibling.{Sibling}
use Rattle.svd_model.specs.Trees.{peripheral_under}
use Rattle.patch_changes.proofs.entries.set_peripherals.Goals as goal

pub loop-index-init : goal.loop-index-init
loop-index-init c = passed-start peripheral_under (λ entry. keyed c.args.pattern.now c.args.keys.now (peripheral_under entry)) c.args.peripherals.now.entries

pub loop-index-preserved : goal.loop-index-preserved
loop-index-preserved c =
    let key = c.pair_mut-peripheral.result.0.now in
    let old = c.pair_mut-peripheral.result.1.now in
    let here = c.pair_mut-peripheral.ensures.value in
    subst (λ (now : List (Sibling × Peripheral)). PassedBy peripheral_under (λ entry. keyed c.args.pattern.now c.args.keys.now (peripheral_under entry)) c.args.peripherals.now.entries now (c.loop-index.index + 1)) (sym (set_value_at-set c.loop-index.peripherals.entries c.loop-index.index (key, old) c.set_one_peripheral.new.peripheral here))
    (passed-step peripheral_under (λ entry. keyed c.args.pattern.now c.args.keys.now (peripheral_under entry)) c.args.peripherals.now.entries c.loop-index.peripherals.entries c.loop-index.index (key, old) (key, c.set_one_peripheral.new.peripheral)
    (slice_get_within c.loop-index.peripherals.entries c.loop-index.index (key, old) here) (sym (get_or_from_slice_get c.loop-index.peripherals.entries c.loop-index.index (key, old) (key, old) here)) c.in_ok-set_one_peripheral.ensures c.loop-index.invariant)

pub returns : goal.returns
returns c =
    let long = c.loop-index.invariant.long in
    let done : length c.args.peripherals.now.entries ≤ c.loop-index.index = search rules in
    passed-end peripheral_under (λ entry. keyed c.args.pattern.now c.args.keys.now (peripheral_under entry)) c.args.peripherals.now.entries c.loop-index.peripherals.entries c.loop-index.index done c.loop-index.invariant
