use Rattle.std.proofs.Common.{ap, ◌∙◌}
use Rattle.frag_sem.specs.TextMeaning.{reader_named}
use Rattle.frag_eval.specs.Deeds.{word_at}
use Rattle.frag_eval.proofs.OnTypes.{given-by}
use Rattle.frag_eval.proofs.term.field_term.Goals as goal

pub returns-in-Some : goal.returns-in-Some
returns-in-Some c =
    λ words small. c.form_term.ensures words small
    ∙ given-by c.args.reading.unit.now c.args.field.now.name c.args.field.now.index c.args.method.now (word_at words c.args.reading.read) c.in-Some.reader.now (c.in-Some.ensures ∙ ap (λ name. reader_named name c.args.reading.unit.now) c.bytes.ensures.same)
