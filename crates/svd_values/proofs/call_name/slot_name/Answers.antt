use Rattle.std.proofs.Common.{◌≡◌, sym, subst, rules}
use Rattle.pac_base.specs.Names.{IsName}
use Rattle.svd_values.specs.AccessorNames.{slot_name_of}
use Rattle.svd_values.proofs.CallNames.{slot_is_name}
use Rattle.svd_values.proofs.call_name.slot_name.Goals as goal

pub named-requires : goal.named-requires
named-requires c =
    let is : c.as_slice-2.result.now ≡ slot_name_of c.args.name.now = search rules in
    subst IsName (sym is) (slot_is_name c.args.name.now c.bytes.ensures.form)
