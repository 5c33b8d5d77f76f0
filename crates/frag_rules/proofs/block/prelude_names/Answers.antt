use Rattle.std.proofs.Common.{refl}
use Rattle.frag_sem.specs.CrateTyping.{is_free}
use Rattle.frag_rules.specs.Rules.{block_test}
use Rattle.frag_rules.proofs.Misfits.{no-misfit}
use Rattle.frag_rules.proofs.block.prelude_names.Goals as goal

pub returns : goal.returns
unfolding block_test
returns c =
    no-misfit (λ access. is_free c.args.version access.name) (λ access. is_free c.args.version access.name) _ _ _ _ (λ access. refl) c.accessors_of.ensures c.accessor_of_prelude.ensures c.accessor_item.ensures
