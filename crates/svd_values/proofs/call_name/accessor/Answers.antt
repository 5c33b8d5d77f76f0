use Rattle.std.proofs.Common.{◌≡◌, sym, subst, rules}
use Rattle.std.specs.Str.{str_to_ascii_lowercase}
use Rattle.svd_values.specs.AccessorNames.{without_array_mark, IsPlainName}
use Rattle.svd_values.proofs.CallNames.{plain_lowered, plain_without_mark}
use Rattle.svd_values.proofs.call_name.accessor.Goals as goal

pub call_name-requires : goal.call_name-requires
call_name-requires c =
    let is : c.as_slice.result.now ≡ str_to_ascii_lowercase (without_array_mark c.args.name.now) = search rules in
    subst IsPlainName (sym is) (plain_lowered (without_array_mark c.args.name.now) (plain_without_mark c.args.name.now c.bytes.ensures.form))
