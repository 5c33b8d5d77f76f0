use Rattle.std.proofs.Common.{refl, ◌∙◌}
use Rattle.frag_eval.specs.Deeds.{word_at}
use Rattle.frag_eval.proofs.OnTypes.{bit-form, field-form}
use Rattle.frag_eval.proofs.term.form_term.Goals as goal

pub returns-in-Bit : goal.returns-in-Bit
returns-in-Bit c =
    λ words small. c.bit_term.ensures words
    ∙ bit-form c.args.reading.unit.now c.args.reader.now c.args.index c.args.method.now (word_at words c.args.reading.read) c.bit_at.result c.in-Bit.mask c.in-Bit.spot c.args.reading.unit.now.values
    c.in-Bit.is refl c.bit_at.ensures small

pub returns-in-Field : goal.returns-in-Field
returns-in-Field c =
    λ words small. c.bits_term.ensures words
    ∙ field-form c.args.reading.unit.now c.args.reader.now c.args.index c.args.method.now (word_at words c.args.reading.read) c.bit_at-in-Field.result c.in-Field.mask c.in-Field.width c.in-Field.spot c.args.reading.unit.now.values
    c.in-Field.is refl c.bit_at-in-Field.ensures small
