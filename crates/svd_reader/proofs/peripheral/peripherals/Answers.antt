use Rattle.std.proofs.Common.{◌++◌, map, flat_map, ap}
use Rattle.svd_text.specs.Views.{element_of}
use Rattle.svd_model.specs.Steps.{peripheral}
use Rattle.svd_model.specs.Trees.{peripheral_under, peripheral_tree}
use Rattle.svd_reader.specs.DescribedTree.{peripheral_at}
use Rattle.svd_reader.proofs.Apart.{kept_under, part_apart}
use Rattle.svd_reader.proofs.Runs.{kept_all}
use Rattle.svd_reader.proofs.peripheral.peripherals.Goals as goal

pub loop-element-init : goal.loop-element-init
loop-element-init c = λ apart. ap (λ entries. map peripheral_under entries ++ flat_map peripheral_at (map element_of c.args.elements.now)) c.new-made.ensures.empty

pub loop-element-preserved : goal.loop-element-preserved
loop-element-preserved c = λ apart.
    kept_under peripheral peripheral_tree peripheral_at c.args.elements.now c.loop-element.element-index c.element-item.result c.loop-element.made.entries c.keep_under.new.made.entries c.in_ok-peripheral.field-0 (flat_map peripheral_at (map element_of c.args.elements.now))
    c.loop-element-test.true c.element-item.is c.in_ok-keep_under.ensures (c.in_ok-peripheral.ensures
    (part_apart peripheral_at c.args.elements.now c.loop-element.element-index c.element-item.result (map peripheral_under c.loop-element.made.entries) (flat_map peripheral_at (map element_of c.args.elements.now)) c.loop-element-test.true c.element-item.is (c.loop-element.invariant apart) apart)) apart (c.loop-element.invariant apart)

pub returns : goal.returns
returns c = λ apart. kept_all peripheral_at c.args.elements.now c.loop-element.element-index (map peripheral_under c.loop-element.made.entries) (flat_map peripheral_at (map element_of c.args.elements.now)) c.loop-element-test.false (c.loop-element.invariant apart)
