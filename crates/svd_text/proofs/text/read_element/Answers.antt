use Rattle.svd_text.proofs.Texts.{says_spelled, says_syntax, says_too_deep, says_found}
use Rattle.svd_text.proofs.text.read_element.Goals as goal

pub returns-in-Ok-clause-spelled : goal.returns-in-Ok-clause-spelled
returns-in-Ok-clause-spelled c = says_spelled c.args.bytes.now c.in-Ok.body.now c.in-Ok.ensures.0 c.in-Ok.ensures.1 c.read_body.result c.read_body.ensures

pub returns-in-Ok-clause-syntax : goal.returns-in-Ok-clause-syntax
returns-in-Ok-clause-syntax c = says_syntax c.args.bytes.now c.in-Ok.body.now c.in-Ok.ensures.0 c.in-Ok.ensures.1 c.read_body.result c.read_body.ensures

pub returns-in-Ok-clause-too_deep : goal.returns-in-Ok-clause-too_deep
returns-in-Ok-clause-too_deep c = says_too_deep c.args.bytes.now c.in-Ok.body.now c.in-Ok.ensures.0 c.in-Ok.ensures.1 c.read_body.result c.read_body.ensures

pub returns-in-Ok-clause-found : goal.returns-in-Ok-clause-found
returns-in-Ok-clause-found c = says_found c.args.bytes.now c.in-Ok.body.now c.in-Ok.ensures.0 c.in-Ok.ensures.1 c.read_body.result c.read_body.ensures

pub returns-in-Err-clause-syntax : goal.returns-in-Err-clause-syntax
returns-in-Err-clause-syntax c = λ text is. c.in-Err.ensures is.body is.encoded is.opens

pub returns-in-Err-clause-found : goal.returns-in-Err-clause-found
returns-in-Err-clause-found c = λ text is. c.in-Err.ensures is.body is.encoded is.opens
