use Rattle.std.proofs.Common.{sym}
use Rattle.std.proofs.lemmas.Result.{err_from_is_err_and}
use Rattle.frag_words.specs.Words.{words_in}
use Rattle.frag_tree.specs.Trees.{block_tree}
use Rattle.frag_parse.specs.Reading.{blocks_at}
use Rattle.frag_parse.proofs.CrateSteps.{breaks_off, goes_on, is_done}
use Rattle.frag_parse.proofs.ModuleSteps.{block_shrinks}
use Rattle.frag_parse.proofs.krate.blocks.Goals as goal

pub returns-in_err-unit : goal.returns-in_err-unit
returns-in_err-unit c =
    let fault = err_from_is_err_and c.from_residual-in_err-unit.result c.from_residual-in_err-unit.ensures.1 in
    rw (fault.1, fault.2) (breaks_off c.args.version c.loop-rest.blocks.items (words_in c.loop-rest.rest.now) (blocks_at c.args.version (words_in c.args.text.now)) c.in_err-unit.field-0.0 (sym c.loop-rest-test.ensures) c.in_err-unit.ensures c.loop-rest.invariant)

pub loop-rest-smaller : goal.loop-rest-smaller
loop-rest-smaller c = block_shrinks c.args.version (words_in c.loop-rest.rest.now) (block_tree c.in_ok-unit.unit) (words_in c.in_ok-unit.after.now) c.in_ok-unit.ensures.0

pub loop-rest-preserved : goal.loop-rest-preserved
loop-rest-preserved c =
    rw (c.in_ok-push.ensures.items) (goes_on c.args.version c.loop-rest.blocks.items c.in_ok-unit.unit (words_in c.loop-rest.rest.now) (words_in c.in_ok-unit.after.now) (blocks_at c.args.version (words_in c.args.text.now)) (sym c.loop-rest-test.ensures) c.in_ok-unit.ensures.0 c.in_ok-unit.ensures.1 c.loop-rest.invariant)

pub returns : goal.returns
returns c = is_done c.args.version c.loop-rest.blocks.items (words_in c.loop-rest.rest.now) (blocks_at c.args.version (words_in c.args.text.now)) (sym c.loop-rest-test.ensures) c.loop-rest.invariant
