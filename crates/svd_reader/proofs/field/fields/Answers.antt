use Rattle.std.proofs.Common.{◌++◌, map, flat_map, ap}
use Rattle.svd_text.specs.Views.{element_of}
use Rattle.svd_model.specs.Steps.{field}
use Rattle.svd_model.specs.Trees.{field_under, field_tree}
use Rattle.svd_reader.specs.DescribedTree.{field_at}
use Rattle.svd_reader.proofs.Apart.{kept_under}
use Rattle.svd_reader.proofs.Runs.{kept_all}
use Rattle.svd_reader.proofs.field.fields.Goals as goal

pub loop-child-init : goal.loop-child-init
loop-child-init c = λ apart. ap (λ entries. map field_under entries ++ flat_map field_at (map element_of c.args.children.now)) c.new-made.ensures.empty

pub loop-child-preserved : goal.loop-child-preserved
loop-child-preserved c = λ apart.
    kept_under field field_tree field_at c.args.children.now c.loop-child.child-index c.child-item.result c.loop-child.made.entries c.keep_under.new.made.entries c.in_ok-field.field-0 (flat_map field_at (map element_of c.args.children.now))
    c.loop-child-test.true c.child-item.is c.in_ok-keep_under.ensures c.in_ok-field.ensures apart (c.loop-child.invariant apart)

pub returns : goal.returns
returns c = λ apart. kept_all field_at c.args.children.now c.loop-child.child-index (map field_under c.loop-child.made.entries) (flat_map field_at (map element_of c.args.children.now)) c.loop-child-test.false (c.loop-child.invariant apart)
