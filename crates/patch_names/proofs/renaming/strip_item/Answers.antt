-- The item under another name.
use Rattle.std.proofs.Common.{refl}
use Rattle.patch_names.proofs.Stripped.{item-stripped}
use Rattle.patch_names.proofs.renaming.strip_item.Goals as goal

pub returns : goal.returns
returns c =
    item-stripped c.args.prefix.now c.args.item.now (record { key = record { name = c.in_ok-item.field-0; number = c.args.item.now.key.number }; child = c.args.item.now.child }) c.in_ok-item.ensures refl refl
