use Rattle.std.proofs.Common.{Some, None, is_none, refl, sym, ap}
use Rattle.frag_sem.specs.CrateTyping.{values_fit}
use Rattle.frag_rules.specs.Rules.{register_test}
use Rattle.frag_rules.proofs.Misfits.{no-misfit}
use Rattle.frag_rules.proofs.values.value_literals.Goals as goal

pub returns-in-Some : goal.returns-in-Some
unfolding register_test
returns-in-Some c = no-misfit values_fit values_fit _ _ c.block_out_of_range.result (Some c.in-Some.block) (λ block. refl) c.as_slice.ensures c.block_out_of_range.ensures (sym (ap is_none c.in-Some.is))

pub returns-in-None : goal.returns-in-None
unfolding register_test
returns-in-None c = no-misfit values_fit values_fit _ _ c.block_out_of_range.result None (λ block. refl) c.as_slice.ensures c.block_out_of_range.ensures (sym (ap is_none c.in-None.is))
