use Rattle.std.proofs.Common.{◌≡◌, sym, subst, rules}
use Rattle.svd_values.specs.AccessorNames.{plain_lower, IsPlainName}
use Rattle.svd_values.proofs.CallNames.{variant_plain}
use Rattle.svd_values.proofs.call_name.variant_call.Goals as goal

pub call_name-requires : goal.call_name-requires
call_name-requires c =
    let is : c.as_slice.result.now ≡ plain_lower c.args.name.now = search rules in
    subst IsPlainName (sym is) (variant_plain c.args.name.now c.requires)
