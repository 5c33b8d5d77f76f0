-- The element gives names, since its source is missing, and they are those that the rows tell.
use Rattle.std.proofs.Common.{◌∙◌, map, option_map, sym, ap}
use Rattle.derive_from.proofs.Listing.{given_names, names_given, copied_given}
use Rattle.derive_sources.specs.Entries.{plain}
use Rattle.derive_sources.specs.Numbers.{Item, path_at}
use Rattle.derived_rows.specs.Sources.{source_names}
use Rattle.svd_model.specs.Trees.{device_rows}
use Rattle.derive_from.proofs.path.names_in.Goals as goal

pub unreachable-requires : goal.unreachable-requires
unreachable-requires c =
    names_given c.args.device.now c.requires.described c.as_slice.result.now (ap (map plain) c.as_slice.ensures.value ∙ c.in_ok-entries.ensures) c.args.number c.requires.missing
    (sym (ap (λ (item : Item). item.names) c.entry_at.ensures) ∙ ap (option_map (λ path. path.now)) c.in-None.is)

pub returns : goal.returns
returns c =
    copied_given c.copied.result c.in-Some.names.now (source_names (device_rows c.args.device.now) (path_at (device_rows c.args.device.now) c.args.number)) c.copied.ensures
    (given_names c.args.device.now c.requires.described c.as_slice.result.now (ap (map plain) c.as_slice.ensures.value ∙ c.in_ok-entries.ensures) c.args.number
    ∙ sym (ap (λ (item : Item). item.names) c.entry_at.ensures)
    ∙ ap (option_map (λ path. path.now)) c.in-Some.is)
