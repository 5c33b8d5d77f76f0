use Rattle.std.proofs.Common.{◌≡◌, ◌+◌, None, map, refl, ◌∙◌, subst}
use Rattle.std.specs.List.{AllByRecursion, IsDistinct}
use Rattle.derive_build.specs.Tables.{IsKid, steps_in, under}
use Rattle.derive_build.proofs.Told.{if-ok, plain-made}
use Rattle.svd_model.specs.Steps.{same_key}
use Rattle.svd_model.specs.Trees.{device_places, peripheral_under}
use Rattle.svd_rows.specs.Ranks.{stated}
use Rattle.derive_build.proofs.device.device_of.Goals as goal

pub returns : goal.returns
returns c =
    let table = c.args.table.now in
    let levels = c.args.levels + 1 in
    let settled = c.args.settled.now in
    let peripherals = c.in_ok-peripherals.peripherals.entries in
    if-ok c.with_peripherals.result _ _
    (λ made is kids.
    is ∙ plain-made table levels peripheral_under peripherals None settled (stated (device_places c.args.device.now)) c.requires.keys c.requires.top (λ children. refl) kids
    (subst (λ ns. AllByRecursion (IsKid table levels None) ns → IsDistinct same_key (steps_in table ns) → map peripheral_under peripherals ≡ map (under table levels) ns) c.as_slice.ensures.value c.in_ok-peripherals.ensures))
    c.with_peripherals.ensures
