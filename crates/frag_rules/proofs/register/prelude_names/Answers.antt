use Rattle.std.proofs.Common.{◌&&◌, refl, ap₂, ◌∙◌}
use Rattle.frag_sem.specs.CrateTyping.{is_free}
use Rattle.frag_rules.specs.Rules.{register_test}
use Rattle.frag_rules.proofs.Misfits.{no-misfit}
use Rattle.frag_rules.proofs.register.prelude_names.Goals as goal

pub returns : goal.returns
unfolding register_test
returns c =
    c.earlier.ensures
    ∙ ap₂ (λ a b. a && b)
    (no-misfit (λ reader. is_free c.args.version reader.name) (λ reader. is_free c.args.version reader.name) _ _ c.reader_of_prelude-reader.result _ (λ reader. refl) c.readers_of.ensures c.reader_of_prelude-reader.ensures c.reader_item.ensures)
    (c.earlier-field.ensures
    ∙ ap₂ (λ a b. a && b)
    (no-misfit (λ writer. is_free c.args.version writer.name) (λ writer. is_free c.args.version writer.name) _ _ c.writer_of_prelude-writer.result _ (λ writer. refl) c.writers_of.ensures c.writer_of_prelude-writer.ensures c.writer_item.ensures)
    c.value_names.ensures)
