use Rattle.patch_settings.proofs.Elements.{peripheral-set}
use Rattle.patch_settings.proofs.element.set_peripheral.Goals as goal

pub returns : goal.returns
returns c = peripheral-set c.args.keys.now _ c.args.peripheral.now c.in_peripheral.new.peripheral c.in_ok-of.ensures c.in_peripheral.ensures.keys c.in_peripheral.ensures.below
