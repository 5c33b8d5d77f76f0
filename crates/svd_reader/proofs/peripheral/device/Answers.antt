use Rattle.std.proofs.Common.{map, refl}
use Rattle.svd_text.specs.Views.{element_of}
use Rattle.svd_reader.proofs.Made.{named-device}
use Rattle.svd_reader.proofs.Apart.{device-apart}
use Rattle.svd_reader.proofs.peripheral.device.Goals as goal

pub returns : goal.returns
returns c = λ apart.
    let keys = c.in_ok-keys.keys in
    named-device (element_of c.args.element.now) keys (record { name = c.in_ok-text_or_empty.field-0; props = keys.props; peripherals = c.in_ok-peripherals.peripherals }) (map element_of c.inside.result.now)
    c.in_ok-keys.ensures c.in_ok-text_or_empty.ensures refl c.inside.ensures
    (c.in_ok-peripherals.ensures (device-apart (element_of c.args.element.now) (map element_of c.inside.result.now) c.inside.ensures apart))
