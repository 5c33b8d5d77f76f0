use Rattle.std.proofs.Common.{Err, refl}
use Rattle.svd_text.specs.Views.{element_of}
use Rattle.svd_reader.specs.Described.{answer_in}
use Rattle.svd_reader.proofs.Answered.{read-answers, fault-clauses, ok-answer, refused-answer, found-answer}
use Rattle.svd_reader.proofs.reader.read_device.Goals as goal

pub returns-in-Ok : goal.returns-in-Ok
returns-in-Ok c =
    let bytes = c.args.bytes.now in
    let answer = answer_in (element_of c.in-Ok.element) in
    let is = read-answers bytes (element_of c.in-Ok.element) c.in-Ok.ensures.spelled c.in-Ok.ensures.found in
    record {
      ok = ok-answer bytes answer c.described.result is c.described.ensures;
      refused = refused-answer bytes answer c.described.result is c.described.ensures;
      found = found-answer bytes answer c.described.result is c.described.ensures;
    }

pub returns-in-Err : goal.returns-in-Err
returns-in-Err c =
    let is = fault-clauses c.args.bytes.now (Err c.in-Err.fault) c.in-Err.fault c.text_fault.result refl c.text_fault.ensures c.in-Err.ensures.syntax c.in-Err.ensures.too_deep c.in-Err.ensures.found in
    record { ok = tt; refused = is.0; found = is.1 }
