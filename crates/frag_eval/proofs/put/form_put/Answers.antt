use Rattle.std.proofs.Common.{refl}
use Rattle.frag_eval.specs.Deeds.{operand_number}
use Rattle.frag_eval.proofs.OnTypes.{bit-put, field-put}
use Rattle.frag_eval.proofs.put.form_put.Goals as goal

pub returns-in-Bit : goal.returns-in-Bit
returns-in-Bit c =
    λ words word. bit-put c.args.unit.now c.args.writer.now c.args.index c.args.method.now (operand_number words c.args.given) word c.bit_at.result (operand_number words c.bit_value.result) c.in-Bit.kind c.in-Bit.spot c.args.unit.now.values
    c.in-Bit.is refl c.bit_at.ensures (c.bit_value.ensures words)

pub returns-in-Field : goal.returns-in-Field
returns-in-Field c =
    λ words word. field-put c.args.unit.now c.args.writer.now c.args.index c.args.method.now (operand_number words c.args.given) word c.bit_at-in-Field.result c.min.result (operand_number words c.bits_value.result) c.in-Field.bits c.in-Field.width c.in-Field.spot c.args.unit.now.values
    c.in-Field.is refl c.bit_at-in-Field.ensures c.min.ensures (c.bits_value.ensures words)
