use Rattle.std.proofs.Common.{◌≡◌, ◌&&◌, ◌+◌, drop, is_none, map, IfOk, refl, sym, ap, ◌∙◌, subst, arith}
use Rattle.std.specs.List.{list_all}
use Rattle.frag_tree.specs.Trees.{ModuleTree, Modules, block_tree, in_line, module_tree}
use Rattle.frag_tree.proofs.Trees.{block_tree-is, module_tree-block, module_tree-register}
use Rattle.frag_rules.specs.Gathering.{blocks_at}
use Rattle.frag_rules.specs.Measures.{Knows, measure_seen, measured, size_fits}
use Rattle.frag_rules.proofs.Distinct.{drop-end}
use Rattle.frag_rules.proofs.Insides.{knows-begin}
use Rattle.frag_rules.proofs.Sizes.{all-known, all-sized, and-true, block-sized, measured-more, rest-is}
use Rattle.frag_rules.proofs.measure.+measure.Goals as goal

pub measure_block-returns-clause-measure : goal.measure_block-returns-clause-measure
measure_block-returns-clause-measure t c =
    c.in_ok-measure.ensures
    (subst (λ (modules : Modules). Knows c.in_ok-inside.inside modules) (ap (λ modules. in_line (map module_tree modules)) c.deref.ensures.value ∙ sym (ap (λ tree. tree.inside) (block_tree-is c.args.block.now))) c.in_ok-inside.ensures.measure)

pub measure_block-returns-clause-sizes : goal.measure_block-returns-clause-sizes
measure_block-returns-clause-sizes t c =
    let same : in_line (map module_tree c.deref.result.now) ≡ (block_tree c.args.block.now).inside = ap (λ modules. in_line (map module_tree modules)) c.deref.ensures.value ∙ sym (ap (λ tree. tree.inside) (block_tree-is c.args.block.now)) in
    block-sized (block_tree c.args.block.now) (in_line (map module_tree c.deref.result.now)) c.args.sizes.now.large c.measure_modules.new.sizes.large c.note.new.self.large c.in_ok-measure.measure same c.in_ok-inside.ensures.sizes
    (c.in_ok-measure.ensures (subst (λ (modules : Modules). Knows c.in_ok-inside.inside modules) same c.in_ok-inside.ensures.measure)) c.note.ensures

pub measure_modules-loop-unit-preserved : goal.measure_modules-loop-unit-preserved
measure_modules-loop-unit-preserved t c =
    measured-more c.loop-unit.inside c.keep.new.self c.loop-unit.sizes.large c.measure_module.new.sizes.large c.args.sizes.now.large (drop c.loop-unit.unit-index c.args.modules.now) (drop (c.loop-unit.unit-index + 1) c.args.modules.now) c.args.modules.now c.unit-item.result c.in_ok-measure.measure
    (rest-is c.args.modules.now c.loop-unit.unit-index c.unit-item.result c.loop-unit-test.true c.unit-item.is) c.in_ok-measure.ensures.measure c.in_ok-keep.ensures c.in_ok-measure.ensures.sizes c.loop-unit.invariant

pub measure_modules-returns-clause-measure : goal.measure_modules-returns-clause-measure
measure_modules-returns-clause-measure t c =
    all-known c.loop-unit.inside c.loop-unit.sizes.large c.args.sizes.now.large (drop c.loop-unit.unit-index c.args.modules.now) c.args.modules.now (drop-end c.args.modules.now c.loop-unit.unit-index (omega arith)) c.loop-unit.invariant

pub measure_modules-returns-clause-sizes : goal.measure_modules-returns-clause-sizes
measure_modules-returns-clause-sizes t c =
    all-sized c.loop-unit.inside c.loop-unit.sizes.large c.args.sizes.now.large (drop c.loop-unit.unit-index c.args.modules.now) c.args.modules.now (drop-end c.args.modules.now c.loop-unit.unit-index (omega arith)) c.loop-unit.invariant

pub measure_modules-loop-unit-init : goal.measure_modules-loop-unit-init
measure_modules-loop-unit-init t c = record {
  knows = knows-begin measure_seen measured c.new-inside.result c.args.modules.now c.new-inside.ensures;
  sizes = refl;
}

pub measure_module-returns-in-Block-clause-measure : goal.measure_module-returns-in-Block-clause-measure
measure_module-returns-in-Block-clause-measure t c =
    subst (λ (tree : ModuleTree). IfOk c.measure_block.result (λ measure. measure_seen measure ≡ measured tree)) (sym (ap module_tree c.in-Block.is ∙ module_tree-block c.in-Block.block)) c.measure_block.ensures.measure

pub measure_module-returns-in-Block-clause-sizes : goal.measure_module-returns-in-Block-clause-sizes
measure_module-returns-in-Block-clause-sizes t c =
    subst (λ (tree : ModuleTree). IfOk c.measure_block.result (λ measure. is_none c.measure_block.new.sizes.large ≡ (is_none c.args.sizes.now.large && list_all size_fits (blocks_at tree))))
    (sym (ap module_tree c.in-Block.is ∙ module_tree-block c.in-Block.block)) c.measure_block.ensures.sizes

pub measure_module-returns-in-Register-clause-measure : goal.measure_module-returns-in-Register-clause-measure
measure_module-returns-in-Register-clause-measure t c = c.measure_register.ensures ∙ ap measured (sym (ap module_tree c.in-Register.is ∙ module_tree-register c.in-Register.register))

pub measure_module-returns-in-Register-clause-sizes : goal.measure_module-returns-in-Register-clause-sizes
measure_module-returns-in-Register-clause-sizes t c =
    and-true (is_none c.args.sizes.now.large)
    ∙ ap (λ (tree : ModuleTree). is_none c.args.sizes.now.large && list_all size_fits (blocks_at tree)) (sym (ap module_tree c.in-Register.is ∙ module_tree-register c.in-Register.register))
