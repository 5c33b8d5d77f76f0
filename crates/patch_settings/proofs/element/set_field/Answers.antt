use Rattle.patch_settings.proofs.Elements.{field-set}
use Rattle.patch_settings.proofs.element.set_field.Goals as goal

pub returns : goal.returns
returns c = field-set c.args.keys.now _ c.args.field.now c.in_field.new.field c.in_ok-of.ensures c.in_field.ensures.keys c.in_field.ensures.below
