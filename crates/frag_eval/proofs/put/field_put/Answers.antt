use Rattle.std.proofs.Common.{ap, ◌∙◌, ℕ}
use Rattle.frag_sem.specs.TextMeaning.{form_written, writer_named}
use Rattle.frag_sem.specs.Meaning.{argument}
use Rattle.frag_eval.proofs.OnTypes.{not-written, written-by}
use Rattle.frag_eval.proofs.put.field_put.Goals as goal

pub returns-in-Some : goal.returns-in-Some
returns-in-Some c =
    λ words bindings word knows.
    c.form_put.ensures words word
    ∙ (ap (λ (n : ℕ). form_written c.args.unit.now c.in-Some.writer.now c.args.field.now.index c.args.method.now n word c.in-Some.writer.now.form) (c.argument.ensures words bindings knows)
    ∙ written-by c.args.unit.now c.args.field.now.name c.args.field.now.index c.args.method.now (argument bindings c.args.value.now) word c.in-Some.writer.now (c.in-Some.ensures ∙ ap (λ name. writer_named name c.args.unit.now) c.bytes.ensures.same))

pub returns-in-None : goal.returns-in-None
returns-in-None c =
    λ words bindings word knows. not-written c.args.unit.now c.args.field.now.name c.args.field.now.index c.args.method.now (argument bindings c.args.value.now) word (c.in-None.ensures ∙ ap (λ name. writer_named name c.args.unit.now) c.bytes.ensures.same)
