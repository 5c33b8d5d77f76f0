-- One item after the other.
use Rattle.std.proofs.Common.{◌≤◌, ◌<◌, length, rules}
use Rattle.patch_changes.specs.Listed.{keyed}
use Rattle.patch_names.proofs.PassedItems.{passed-end, passed-start, passed-step}
use Rattle.svd_model.specs.Trees.{item_under}
use Rattle.patch_changes.proofs.items.set_items.Goals as goal

pub loop-index-init : goal.loop-index-init
loop-index-init c = passed-start item_under (λ item. keyed c.args.pattern.now c.args.keys.now (item_under item)) c.args.items.now.items

pub loop-index-preserved : goal.loop-index-preserved
loop-index-preserved c =
    let long = c.loop-index.invariant.long in
    let within : c.loop-index.index < length c.loop-index.items.items = search rules in
    passed-step item_under (λ item. keyed c.args.pattern.now c.args.keys.now (item_under item)) c.args.items.now.items c.loop-index.items.items c.loop-index.index c.index_mut.result.now c.set_item.new.item within c.index_mut.ensures.value c.in_ok-set_item.ensures c.loop-index.invariant

pub returns : goal.returns
returns c =
    let long = c.loop-index.invariant.long in
    let done : length c.args.items.now.items ≤ c.loop-index.index = search rules in
    passed-end item_under (λ item. keyed c.args.pattern.now c.args.keys.now (item_under item)) c.args.items.now.items c.loop-index.items.items c.loop-index.index done c.loop-index.invariant
