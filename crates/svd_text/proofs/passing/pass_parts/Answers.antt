use Rattle.std.proofs.Common.{arith}
use Rattle.std.proofs.lemmas.Result.{err_from_is_err_and}
use Rattle.xml_text.specs.Views.{part_of}
use Rattle.svd_text.specs.Frames.{passing_of}
use Rattle.svd_text.specs.Machine.{run, parts_of}
use Rattle.svd_text.specs.Reading.{checking, passing}
use Rattle.svd_text.proofs.PartsOf.{run_goes_on, run_stops, run_broken, run_ended}
use Rattle.svd_text.proofs.passing.pass_parts.Goals as goal

pub returns-in_err-part : goal.returns-in_err-part
returns-in_err-part c =
    let fault = err_from_is_err_and c.from_residual.result c.from_residual.ensures.1 in
    rw (fault.1, fault.2) (run_broken checking c.in_err-part.field-0.0 c.loop-rest.rest.now (passing_of c.loop-rest.passing) (run checking (parts_of c.args.body.now) passing)
    c.loop-rest-test.ensures c.in_err-part.ensures.read c.loop-rest.invariant.0)

pub returns-in_err-passing : goal.returns-in_err-passing
returns-in_err-passing c =
    let fault = err_from_is_err_and c.from_residual-in_err-passing.result c.from_residual-in_err-passing.ensures.1 in
    rw (fault.1, fault.2) (run_stops checking c.in_err-passing.field-0.0 c.loop-rest.rest.now (part_of c.in_ok-part.part) c.in_ok-part.behind.now (passing_of c.loop-rest.passing) (run checking (parts_of c.args.body.now) passing)
    c.in_ok-part.ensures.read (c.in_err-passing.ensures c.loop-rest.rest.now c.in_ok-part.behind.now) c.loop-rest.invariant.0)

pub loop-rest-preserved : goal.loop-rest-preserved
loop-rest-preserved c = (
  run_goes_on checking c.loop-rest.rest.now (part_of c.in_ok-part.part) c.in_ok-part.behind.now (passing_of c.loop-rest.passing) (passing_of c.in_ok-passing.passing) (run checking (parts_of c.args.body.now) passing)
      c.in_ok-part.ensures.read (c.in_ok-passing.ensures c.loop-rest.rest.now c.in_ok-part.behind.now) c.loop-rest.invariant.0,
  omega (arith, c.loop-rest.invariant.1, c.in_ok-part.ensures.shorter),
)

pub returns : goal.returns
returns c = run_ended checking c.loop-rest.rest.now (passing_of c.loop-rest.passing) (run checking (parts_of c.args.body.now) passing) c.loop-rest-test.ensures c.loop-rest.invariant.0
