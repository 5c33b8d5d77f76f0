use Rattle.std.proofs.Common.{Option, map, subst, sym, codes}
use Rattle.yaml_block.specs.Nodes.{entry_under}
use Rattle.yaml_block.specs.Trees.{entries_of}
use Rattle.patch_form.specs.declared.fault.Fault.{Fault}
use Rattle.patch_form.specs.Demands.{at_key, place_demands}
use Rattle.patch_form.specs.Finding.{First, at_of}
use Rattle.patch_form.proofs.Placing.{placed}
use Rattle.patch_form.proofs.place.place_fault.Goals as goal

pub returns : goal.returns
returns c =
    let named = entries_of (map entry_under c.args.entries.now) in
    subst (λ (found : Option Fault). First (place_demands c.args.line named) found) (sym c.earlier.ensures)
    (placed c.args.line (at_of c.at_key-low.result) (at_of c.at_key-high.result) (at_of c.at_key-range.result) (at_of c.at_key-width.result)
    (at_key (codes "lsb") named) (at_key (codes "msb") named) (at_key (codes "bitRange") named) (at_key (codes "bitWidth") named)
    c.both_or_none-paired.result c.place_by-placed.result c.at_key-low.ensures c.at_key-high.ensures c.at_key-range.ensures c.at_key-width.ensures c.both_or_none-paired.ensures c.place_by-placed.ensures)
