use Rattle.std.proofs.Common.{◌≡◌, ◌+◌, drop, map, IfOk, sym, ap, ◌∙◌, subst, arith}
use Rattle.frag_tree.specs.Trees.{ModuleTree, block_tree, in_line, module_tree}
use Rattle.frag_tree.proofs.Trees.{block_tree-is, module_tree-block, module_tree-register}
use Rattle.frag_rules.proofs.Distinct.{drop-end}
use Rattle.frag_rules.proofs.Insides.{if_ok}
use Rattle.frag_rules.proofs.Sizes.{rest-is}
use Rattle.frag_index.specs.Sites.{Adds}
use Rattle.frag_index.proofs.Adding.{block-added, inside-of, laid-of, modules-begin, modules-done, modules-more}
use Rattle.frag_index.proofs.built.+add.Goals as goal

pub add_block-returns : goal.add_block-returns
add_block-returns t c =
    let same : in_line (map module_tree c.deref.result.now) ≡ (block_tree c.args.block.now).inside = ap (λ modules. in_line (map module_tree modules)) c.deref.ensures.value ∙ sym (ap (λ tree. tree.inside) (block_tree-is c.args.block.now)) in
    let own = c.in_ok-site.ensures c.add_modules.new.sites.items (inside-of c.add_modules.new.sites.items c.in_ok-within.within (in_line (map module_tree c.deref.result.now)) (block_tree c.args.block.now).inside same c.in_ok-within.ensures.inside) in
    block-added c.args.sites.now.items c.add_modules.new.sites.items c.push.new.self.items c.args.block (in_line (map module_tree c.deref.result.now)) c.in_ok-within.within c.in_ok-site.site c.len-number.result c.measure_laid-measure.result
    c.in_ok-within.ensures own (c.measure_laid-measure.ensures (laid-of c.add_modules.new.sites.items c.args.block.now c.in_ok-site.site own)) (omega (arith, c.len-number.ensures)) c.in_ok-push.ensures.items

pub add_modules-loop-unit-init : goal.add_modules-loop-unit-init
add_modules-loop-unit-init t c = modules-begin c.args.sites.now.items c.new-within.result c.args.modules.now c.new-within.ensures

pub add_modules-loop-unit-preserved : goal.add_modules-loop-unit-preserved
add_modules-loop-unit-preserved t c =
    modules-more c.args.sites.now.items c.loop-unit.sites.items c.add_module.new.sites.items c.loop-unit.within c.keep.new.self (drop c.loop-unit.unit-index c.args.modules.now) (drop (c.loop-unit.unit-index + 1) c.args.modules.now) c.args.modules.now c.unit-item.result c.in_ok-added.added
    (rest-is c.args.modules.now c.loop-unit.unit-index c.unit-item.result c.loop-unit-test.true c.unit-item.is) c.in_ok-added.ensures c.in_ok-keep.ensures c.loop-unit.invariant

pub add_modules-returns : goal.add_modules-returns
add_modules-returns t c =
    modules-done c.args.sites.now.items c.loop-unit.sites.items c.loop-unit.within (drop c.loop-unit.unit-index c.args.modules.now) c.args.modules.now (drop-end c.args.modules.now c.loop-unit.unit-index (omega arith)) c.loop-unit.invariant

pub add_module-returns-in-Block : goal.add_module-returns-in-Block
add_module-returns-in-Block t c =
    subst (λ (tree : ModuleTree). IfOk c.add_block.result (λ added. Adds c.args.sites.now.items c.add_block.new.sites.items tree added)) (sym (ap module_tree c.in-Block.is ∙ module_tree-block c.in-Block.block)) c.add_block.ensures

pub add_module-returns-in-Register : goal.add_module-returns-in-Register
add_module-returns-in-Register t c =
    if_ok c.register_added.result _ _
    (λ added adds. subst (λ (tree : ModuleTree). Adds c.args.sites.now.items c.args.sites.now.items tree added) (sym (ap module_tree c.in-Register.is ∙ module_tree-register c.in-Register.register)) (adds c.args.sites.now.items))
    c.register_added.ensures
