use Rattle.std.proofs.Common.{refl}
use Rattle.pac_base.specs.Widths.{bits_of}
use Rattle.frag_sem.specs.CrateTyping.{write_fits}
use Rattle.frag_rules.specs.Rules.{register_test}
use Rattle.frag_rules.proofs.Misfits.{no-misfit}
use Rattle.frag_rules.proofs.register.writer_places.Goals as goal

pub returns : goal.returns
unfolding register_test
returns c =
    no-misfit (λ writer. write_fits (bits_of c.args.unit.now.word) writer.form) (λ writer. write_fits (bits_of c.args.unit.now.word) writer.form) _ _ _ _ (λ writer. refl) c.writers_of.ensures c.writer_out_of_place.ensures c.writer_item.ensures
