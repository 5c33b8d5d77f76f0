use Rattle.std.proofs.Common.{◌+◌, arith}
use Rattle.yaml_block.specs.Nodes.{node_tree}
use Rattle.patch_form.specs.Mappings.{pattern_item}
use Rattle.patch_form.proofs.Finding.{past-begun, past-more, past-done}
use Rattle.patch_form.proofs.ListedTexts.{patterns_from, patterns-done, patterns-here}
use Rattle.patch_form.proofs.texts.pattern_items.Goals as goal

pub loop-item-init : goal.loop-item-init
loop-item-init c = past-begun (patterns_from c.args.items.now 0)

pub loop-item-preserved : goal.loop-item-preserved
loop-item-preserved c =
    let items = c.args.items.now in
    let i = c.loop-item.item-index in
    past-more (patterns_from items 0) (patterns_from items i) (pattern_item c.item-item.result.0 (node_tree c.item-item.result.1)) (patterns_from items (i + 1))
    c.loop-item.found c.in_ok-pattern_item.field-0 c.earlier-found.result (patterns-here items i c.item-item.result c.loop-item-test.true c.item-item.is) c.in_ok-pattern_item.ensures c.earlier-found.ensures c.loop-item.invariant

pub returns : goal.returns
returns c = past-done (patterns_from c.args.items.now 0) c.loop-item.found (patterns_from c.args.items.now c.loop-item.item-index) (patterns-done c.args.items.now c.loop-item.item-index (omega arith)) c.loop-item.invariant
