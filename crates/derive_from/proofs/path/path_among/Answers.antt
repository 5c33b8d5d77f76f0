-- The elements are listed twice, and what is listed are those of the rows.
use Rattle.std.proofs.Common.{◌∙◌, map, sym, ap, subst}
use Rattle.derive_build.specs.Nodes.{own_node}
use Rattle.derive_from.specs.Names.{AreListed}
use Rattle.derive_from.proofs.Listing.{all_listed}
use Rattle.derive_sources.specs.Entries.{plain}
use Rattle.derive_sources.specs.Numbers.{Rows}
use Rattle.derive_from.proofs.path.path_among.Goals as goal

pub way_from-requires : goal.way_from-requires
way_from-requires g c =
    subst (λ (all : Rows). AreListed all c.as_slice.result.now c.as_slice-2.result.now) (sym c.requires.0)
    (all_listed c.args.device.now c.requires.1 c.as_slice.result.now c.as_slice-2.result.now
    (ap (map plain) c.as_slice.ensures.value ∙ c.in_ok-entries.ensures)
    (ap (map own_node) c.as_slice-2.ensures.value ∙ c.in_ok-owns.ensures))
