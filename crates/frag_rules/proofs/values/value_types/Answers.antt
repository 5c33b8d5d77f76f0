use Rattle.std.specs.List.{list_any}
use Rattle.frag_sem.specs.ProxyTypes.{same_type, types_of, values_type}
use Rattle.frag_rules.specs.Keys.{key_of, same_key, types_seen}
use Rattle.frag_rules.specs.Rules.{register_test}
use Rattle.frag_rules.proofs.Keys.{is-typed}
use Rattle.frag_rules.proofs.Misfits.{no-misfit}
use Rattle.frag_rules.proofs.values.value_types.Goals as goal

pub returns : goal.returns
unfolding register_test
returns c =
    no-misfit (λ block. list_any (same_key (key_of (values_type block))) (types_seen c.in_ok-types.types)) (λ block. list_any (same_type (values_type block)) (types_of c.args.unit.now)) _ _ _ _
    (is-typed (types_seen c.in_ok-types.types) c.args.unit.now c.in_ok-types.ensures) c.as_slice.ensures c.untyped.ensures c.block_item.ensures
