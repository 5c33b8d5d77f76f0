use Rattle.std.proofs.Common.{map, flat_map}
use Rattle.svd_text.specs.Views.{element_of}
use Rattle.svd_model.specs.Trees.{value_tree}
use Rattle.svd_reader.specs.DescribedTree.{value_at}
use Rattle.svd_reader.proofs.Runs.{kept_more, kept_all}
use Rattle.svd_reader.proofs.values.variants.Goals as goal

pub loop-child-preserved : goal.loop-child-preserved
loop-child-preserved c =
    kept_more value_tree value_at c.args.children.now c.loop-child.child-index c.child-item.result c.loop-child.made.items c.keep.new.made.items c.in_ok-variant.field-0 (flat_map value_at (map element_of c.args.children.now))
    c.loop-child-test.true c.child-item.is c.in_ok-keep.ensures c.in_ok-variant.ensures c.loop-child.invariant

pub returns : goal.returns
returns c = kept_all value_at c.args.children.now c.loop-child.child-index (map value_tree c.loop-child.made.items) (flat_map value_at (map element_of c.args.children.now)) c.loop-child-test.false c.loop-child.invariant
