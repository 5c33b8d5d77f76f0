use Rattle.std.proofs.Common.{refl}
use Rattle.pac_base.specs.Widths.{bits_of}
use Rattle.frag_sem.specs.CrateTyping.{read_fits}
use Rattle.frag_rules.specs.Rules.{register_test}
use Rattle.frag_rules.proofs.Misfits.{no-misfit}
use Rattle.frag_rules.proofs.register.reader_places.Goals as goal

pub returns : goal.returns
unfolding register_test
returns c =
    no-misfit (λ reader. read_fits (bits_of c.args.unit.now.word) reader.form) (λ reader. read_fits (bits_of c.args.unit.now.word) reader.form) _ _ _ _ (λ reader. refl) c.readers_of.ensures c.reader_out_of_place.ensures c.reader_item.ensures
