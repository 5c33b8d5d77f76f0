use Rattle.std.proofs.Common.{◌≡◌, sym, subst, rules}
use Rattle.pac_base.specs.Names.{IsName}
use Rattle.svd_values.specs.AccessorNames.{call_name}
use Rattle.svd_values.proofs.CallNames.{call_is_name}
use Rattle.svd_values.proofs.call_name.call_name.Goals as goal

pub named-requires : goal.named-requires
named-requires c =
    let is : c.as_slice-2.result.now ≡ call_name c.args.lower.now = search rules in
    subst IsName (sym is) (call_is_name c.args.lower.now c.requires)
