use Rattle.std.proofs.Common.{◌+◌, arith}
use Rattle.yaml_block.specs.Nodes.{node_tree}
use Rattle.patch_form.specs.Mappings.{prefix_item}
use Rattle.patch_form.proofs.Finding.{past-begun, past-more, past-done}
use Rattle.patch_form.proofs.ListedTexts.{prefixes_from, prefixes-done, prefixes-here}
use Rattle.patch_form.proofs.texts.prefix_items.Goals as goal

pub loop-item-init : goal.loop-item-init
loop-item-init c = past-begun (prefixes_from c.args.items.now 0)

pub loop-item-preserved : goal.loop-item-preserved
loop-item-preserved c =
    let items = c.args.items.now in
    let i = c.loop-item.item-index in
    past-more (prefixes_from items 0) (prefixes_from items i) (prefix_item c.item-item.result.0 (node_tree c.item-item.result.1)) (prefixes_from items (i + 1))
    c.loop-item.found c.prefix_item.result c.earlier-found.result (prefixes-here items i c.item-item.result c.loop-item-test.true c.item-item.is) c.prefix_item.ensures c.earlier-found.ensures c.loop-item.invariant

pub returns : goal.returns
returns c = past-done (prefixes_from c.args.items.now 0) c.loop-item.found (prefixes_from c.args.items.now c.loop-item.item-index) (prefixes-done c.args.items.now c.loop-item.item-index (omega arith)) c.loop-item.invariant
