use Rattle.std.proofs.Common.{Some, None, is_none, refl, sym, ap}
use Rattle.std.specs.List.{list_all}
use Rattle.frag_sem.specs.CrateTyping.{is_free}
use Rattle.frag_sem.specs.ProxyTypes.{value_names}
use Rattle.frag_rules.specs.Rules.{register_test}
use Rattle.frag_rules.proofs.Misfits.{no-misfit}
use Rattle.frag_rules.proofs.values.value_names.Goals as goal

pub returns-in-Some : goal.returns-in-Some
unfolding register_test
returns-in-Some c = no-misfit (λ block. list_all (is_free c.args.version) (value_names block)) (λ block. list_all (is_free c.args.version) (value_names block)) _ _ c.block_of_prelude.result (Some c.in-Some.block) (λ block. refl) c.as_slice.ensures c.block_of_prelude.ensures (sym (ap is_none c.in-Some.is))

pub returns-in-None : goal.returns-in-None
unfolding register_test
returns-in-None c = no-misfit (λ block. list_all (is_free c.args.version) (value_names block)) (λ block. list_all (is_free c.args.version) (value_names block)) _ _ c.block_of_prelude.result None (λ block. refl) c.as_slice.ensures c.block_of_prelude.ensures (sym (ap is_none c.in-None.is))
