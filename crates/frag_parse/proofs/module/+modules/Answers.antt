use Rattle.std.proofs.Common.{◌≡◌, arith, suc, sym}
use Rattle.std.proofs.lemmas.Result.{err_from_is_err_and}
use Rattle.frag_words.specs.Words.{words_in}
use Rattle.frag_tree.specs.Trees.{module_tree}
use Rattle.frag_tree.specs.declared.block.Block.{Block, roll-Block}
use Rattle.frag_tree.specs.declared.block.Module.{Module}
use Rattle.frag_tree.specs.declared.block.Module.TheOpen.{Block-F}
use Rattle.frag_parts.specs.Heads.{head_told}
use Rattle.frag_parse.proofs.Depth.{block_done, block_stops, block_tree-roll, breaks_off, ends_wrong, goes_on, head_refused, inside_refused, is_done, module_done, register_done, register_refused}
use Rattle.frag_parse.proofs.ModuleSteps.{all_modules, module_shrinks}
use Rattle.frag_parse.proofs.module.+modules.Goals as goal

pub block-returns-in_err-head : goal.block-returns-in_err-head
block-returns-in_err-head t c =
    let fault = err_from_is_err_and c.from_residual.result c.from_residual.ensures.1 in
    rw (fault.1, fault.2) (head_refused c.args.version c.args.inside (words_in c.args.text.now) c.in_err-head.field-0.0 c.in_err-head.ensures)

pub block-returns-in_err-modules : goal.block-returns-in_err-modules
block-returns-in_err-modules t c =
    let fault = err_from_is_err_and c.from_residual-in_err-modules.result c.from_residual-in_err-modules.ensures.1 in
    rw (fault.1, fault.2) (inside_refused c.args.version c.args.inside (words_in c.args.text.now) (words_in c.in_ok-head.rest.now) (head_told c.in_ok-head.head) c.in_err-modules.field-0.0 c.in_ok-head.ensures c.in_err-modules.ensures)

pub block-returns : goal.block-returns
block-returns t c =
    let parts : Block-F Module Block = record { name = c.in_ok-head.head.name; fields = c.in_ok-head.head.fields; accessors = c.in_ok-head.head.accessors; modules = c.in_ok-modules.modules } in
    block_done c.args.version c.args.inside (words_in c.args.text.now) (words_in c.in_ok-head.rest.now) (words_in c.in_ok-modules.rest.now) (head_told c.in_ok-head.head) c.in_ok-modules.modules.items (roll-Block parts) c.in_ok-head.ensures c.in_ok-modules.ensures (block_tree-roll parts)

pub module-returns-in_err-block : goal.module-returns-in_err-block
module-returns-in_err-block t c =
    let deep : c.args.depth ≡ suc c.in-Some.inside = omega (arith, c.in-Some.ensures.0, c.in-Some.ensures.1) in
    let fault = err_from_is_err_and c.from_residual-in_err-block.result c.from_residual-in_err-block.ensures.1 in
    rw (fault.1, fault.2) (block_stops c.args.version c.args.depth c.in-Some.inside (words_in c.args.text.now) c.in_err-block.field-0.0 deep (sym c.if-is_at.ensures) c.in_err-block.ensures)

pub module-returns-then-is_at : goal.module-returns-then-is_at
module-returns-then-is_at t c =
    let deep : c.args.depth ≡ suc c.in-Some.inside = omega (arith, c.in-Some.ensures.0, c.in-Some.ensures.1) in
    module_done c.args.version c.args.depth c.in-Some.inside (words_in c.args.text.now) (words_in c.in_ok-block.rest.now) c.in_ok-block.block deep (sym c.if-is_at.ensures) c.in_ok-block.ensures

pub module-returns-in_err-unit : goal.module-returns-in_err-unit
module-returns-in_err-unit t c =
    let fault = err_from_is_err_and c.from_residual-in_err-unit.result c.from_residual-in_err-unit.ensures.1 in
    rw (fault.1, fault.2) (register_refused c.args.version c.args.depth (words_in c.args.text.now) c.in_err-unit.field-0.0 (sym c.if-is_at.ensures) c.in_err-unit.ensures)

pub module-returns : goal.module-returns
module-returns t c =
    let deep : c.args.depth ≡ suc c.in-Some.inside = omega (arith, c.in-Some.ensures.0, c.in-Some.ensures.1) in
    register_done c.args.version c.args.depth c.in-Some.inside (words_in c.args.text.now) (words_in c.in_ok-unit.rest.now) c.in_ok-unit.unit deep (sym c.if-is_at.ensures) c.in_ok-unit.ensures

pub modules-returns-in_err-module : goal.modules-returns-in_err-module
modules-returns-in_err-module t c =
    let fault = err_from_is_err_and c.from_residual.result c.from_residual.ensures.1 in
    rw (fault.1, fault.2) (breaks_off c.args.version c.args.depth c.loop-alloc.modules.items (words_in c.loop-alloc.rest.now) (all_modules c.args.version (words_in c.args.text.now)) c.in_err-module.field-0.0 (sym c.loop-alloc-test.ensures) c.in_err-module.ensures c.loop-alloc.invariant)

pub modules-loop-alloc-smaller : goal.modules-loop-alloc-smaller
modules-loop-alloc-smaller t c = module_shrinks c.args.version (words_in c.loop-alloc.rest.now) (module_tree c.in_ok-module.module) (words_in c.in_ok-module.after.now) c.in_ok-module.ensures.0

pub modules-loop-alloc-preserved : goal.modules-loop-alloc-preserved
modules-loop-alloc-preserved t c =
    rw (c.in_ok-push.ensures.items) (goes_on c.args.version c.args.depth c.loop-alloc.modules.items c.in_ok-module.module (words_in c.loop-alloc.rest.now) (words_in c.in_ok-module.after.now) (all_modules c.args.version (words_in c.args.text.now)) (sym c.loop-alloc-test.ensures) c.in_ok-module.ensures.0 c.in_ok-module.ensures.1 c.loop-alloc.invariant)

pub modules-returns-in_err-rest : goal.modules-returns-in_err-rest
modules-returns-in_err-rest t c =
    let fault = err_from_is_err_and c.from_residual-in_err-rest.result c.from_residual-in_err-rest.ensures.1 in
    rw (fault.1, fault.2) (ends_wrong c.args.version c.args.depth c.loop-alloc.modules.items (words_in c.loop-alloc.rest.now) (all_modules c.args.version (words_in c.args.text.now)) c.in_err-rest.field-0.0 (sym c.loop-alloc-test.ensures) c.in_err-rest.ensures c.loop-alloc.invariant)

pub modules-returns : goal.modules-returns
modules-returns t c = is_done c.args.version c.args.depth c.loop-alloc.modules.items (words_in c.loop-alloc.rest.now) (words_in c.in_ok-rest.rest.now) (all_modules c.args.version (words_in c.args.text.now)) (sym c.loop-alloc-test.ensures) c.in_ok-rest.ensures c.loop-alloc.invariant
