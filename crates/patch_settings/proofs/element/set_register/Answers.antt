use Rattle.patch_settings.proofs.Elements.{register-set}
use Rattle.patch_settings.proofs.element.set_register.Goals as goal

pub returns : goal.returns
returns c = register-set c.args.keys.now _ c.args.register.now c.in_register.new.register c.in_ok-of.ensures c.in_register.ensures.keys c.in_register.ensures.below
