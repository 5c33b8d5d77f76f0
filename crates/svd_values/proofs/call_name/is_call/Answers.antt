use Rattle.std.proofs.Common.{◌≡◌, sym, subst, rules}
use Rattle.pac_base.specs.Names.{IsName}
use Rattle.svd_values.specs.AccessorNames.{is_call_name}
use Rattle.svd_values.proofs.CallNames.{is_call_is_name}
use Rattle.svd_values.proofs.call_name.is_call.Goals as goal

pub named-requires : goal.named-requires
named-requires c =
    let is : c.as_slice-2.result.now ≡ is_call_name c.args.name.now = search rules in
    subst IsName (sym is) (is_call_is_name c.args.name.now)
