use Rattle.std.proofs.Common.{◌&&◌, refl, ap₂, ◌∙◌}
use Rattle.frag_sem.specs.Spots.{read_spot, spot_has_members, write_spot}
use Rattle.frag_rules.specs.Rules.{register_test}
use Rattle.frag_rules.proofs.Misfits.{no-misfit}
use Rattle.frag_rules.proofs.register.counts.Goals as goal

pub returns : goal.returns
unfolding register_test
returns c =
    c.earlier.ensures
    ∙ ap₂ (λ a b. a && b)
    (no-misfit (λ reader. spot_has_members (read_spot reader.form)) (λ reader. spot_has_members (read_spot reader.form)) _ _ _ _ (λ reader. refl) c.readers_of.ensures c.reader_without_members.ensures c.reader_item.ensures)
    (no-misfit (λ writer. spot_has_members (write_spot writer.form)) (λ writer. spot_has_members (write_spot writer.form)) _ _ _ _ (λ writer. refl) c.writers_of.ensures c.writer_without_members.ensures c.writer_item.ensures)
