use Rattle.std.proofs.Common.{refl}
use Rattle.crate_form.proofs.Forming.{emitted_has_form}
use Rattle.frag_emit.proofs.Standing.{built_stands}
use Rattle.frag_emit.proofs.emitter.Emitter.next.Goals as goal

pub returns-in_err-is_printed-clause-form : goal.returns-in_err-is_printed-clause-form
returns-in_err-is_printed-clause-form g c = emitted_has_form _

pub returns-in_err-is_printed-clause-stands : goal.returns-in_err-is_printed-clause-stands
returns-in_err-is_printed-clause-stands g c = built_stands c.device-device.result.now _ _ c.device-device.ensures.fact c.device-device.ensures.rows refl

pub returns-then-is_printed-clause-form : goal.returns-then-is_printed-clause-form
returns-then-is_printed-clause-form g c = emitted_has_form _

pub returns-then-is_printed-clause-stands : goal.returns-then-is_printed-clause-stands
returns-then-is_printed-clause-stands g c = built_stands c.device-device.result.now _ _ c.device-device.ensures.fact c.device-device.ensures.rows refl

pub returns-else-is_printed-clause-form : goal.returns-else-is_printed-clause-form
returns-else-is_printed-clause-form g c = emitted_has_form _

pub returns-else-is_printed-clause-stands : goal.returns-else-is_printed-clause-stands
returns-else-is_printed-clause-stands g c = built_stands c.device-device.result.now _ _ c.device-device.ensures.fact c.device-device.ensures.rows refl
