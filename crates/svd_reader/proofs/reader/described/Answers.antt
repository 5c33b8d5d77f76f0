use Rattle.std.proofs.Common.{sym}
use Rattle.svd_text.specs.Views.{element_of}
use Rattle.svd_reader.proofs.Outcomes.{faulty, tells-answer, has_too_many, has_rows, facts-told}
use Rattle.svd_reader.proofs.reader.described.Goals as goal

pub returns-in-Some : goal.returns-in-Some
returns-in-Some c =
    tells-answer c.element_fault.result _ _ (sym (faulty (element_of c.args.element.now) c.in_ok-fault.fault c.in-Some.placed c.in_ok-fault.ensures c.in-Some.is)) c.element_fault.ensures

pub returns-then-count-gt-ELEMENT_LIMIT : goal.returns-then-count-gt-ELEMENT_LIMIT
returns-then-count-gt-ELEMENT_LIMIT c =
    has_too_many (element_of c.args.element.now) c.in_ok-device.device c.in_ok-fault.fault c.elements-count.result c.in_ok-fault.ensures c.in_default.is c.in_ok-device.ensures c.elements-count.ensures c.if-count-gt-ELEMENT_LIMIT.true

pub new-requires : goal.new-requires
new-requires c =
    facts-told (element_of c.args.element.now) c.in_ok-device.device c.in_ok-fault.fault c.elements-count.result c.in_ok-fault.ensures c.in_default.is c.in_ok-device.ensures c.elements-count.ensures c.if-count-gt-ELEMENT_LIMIT.false

pub returns : goal.returns
returns c =
    has_rows (element_of c.args.element.now) c.in_ok-device.device c.in_ok-fault.fault c.elements-count.result c.new.result c.in_ok-fault.ensures c.in_default.is c.in_ok-device.ensures c.elements-count.ensures c.if-count-gt-ELEMENT_LIMIT.false c.new.ensures
