use Rattle.std.proofs.Common.{◌++◌, ◌∷◌, [], ◌∙◌, map, ap, None}
use Rattle.derive_sources.proofs.Listed.{all_listed}
use Rattle.derive_sources.specs.Entries.{plain}
use Rattle.derive_sources.proofs.listing.entries_of.Goals as goal

pub returns : goal.returns
returns c =
    all_listed c.push_device.new.entries.items c.add_peripherals.new.entries.items c.args.device.now
    (c.in_ok-push_device.ensures ∙ ap (λ l. map plain l ++ record { parent = None; kind = None; name = []; names = None } ∷ []) c.new-entries.ensures.items) c.in_ok-add_peripherals.ensures
