use Rattle.std.proofs.Common.{sym}
use Rattle.std.proofs.lemmas.Result.{err_from_is_err_and}
use Rattle.frag_words.specs.Words.{words_in}
use Rattle.frag_token.specs.Reading.{begins_at, many_at}
use Rattle.frag_token.proofs.Lists.{fails, goes_on, is_done}
use Rattle.frag_token.proofs.list.many.Goals as goal

pub returns-in_err-item : goal.returns-in_err-item
returns-in_err-item g c =
    let fault = err_from_is_err_and c.from_residual-in_err-item.result c.from_residual-in_err-item.ensures.1 in
    rw (fault.1, fault.2) (fails (begins_at c.args.begins) (g.P.Production.reading c.args.production.now).read c.loop-alloc.items (words_in c.loop-alloc.rest.now) (many_at (begins_at c.args.begins) (g.P.Production.reading c.args.production.now).read (words_in c.args.text.now)) c.in_err-item.field-0.0 (sym c.loop-alloc-test.ensures) c.in_err-item.ensures c.loop-alloc.invariant)

pub loop-alloc-preserved : goal.loop-alloc-preserved
loop-alloc-preserved g c =
    rw (c.in_ok-push.ensures.ok) (goes_on (begins_at c.args.begins) (g.P.Production.reading c.args.production.now).read (g.met.P.Production.shrinks c.args.production.now) c.loop-alloc.items c.in_ok-item.item (words_in c.loop-alloc.rest.now) (words_in c.in_ok-item.after.now) (many_at (begins_at c.args.begins) (g.P.Production.reading c.args.production.now).read (words_in c.args.text.now)) (sym c.loop-alloc-test.ensures) c.in_ok-item.ensures c.loop-alloc.invariant)

pub returns : goal.returns
returns g c = is_done (begins_at c.args.begins) (g.P.Production.reading c.args.production.now).read c.loop-alloc.items (words_in c.loop-alloc.rest.now) (many_at (begins_at c.args.begins) (g.P.Production.reading c.args.production.now).read (words_in c.args.text.now)) (sym c.loop-alloc-test.ensures) c.loop-alloc.invariant
