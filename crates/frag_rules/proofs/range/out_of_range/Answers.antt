use Rattle.std.proofs.Common.{◌&&◌, refl, ap₂, ◌∙◌}
use Rattle.std.specs.List.{list_all}
use Rattle.std.specs.Map.{lookup}
use Rattle.std.specs.Str.{bytes_eq}
use Rattle.frag_sem.specs.AddressEnds.{addresses_fit, end_fits, slot_fits}
use Rattle.frag_sem.specs.Modules.{all_blocks}
use Rattle.frag_tree.specs.Trees.{crate_tree}
use Rattle.frag_rules.specs.Measures.{end_found, size_fits}
use Rattle.frag_rules.proofs.Measuring.{slot-is}
use Rattle.frag_rules.proofs.Misfits.{no-misfit}
use Rattle.frag_rules.proofs.Sizes.{sizes-first}
use Rattle.frag_rules.proofs.range.out_of_range.Goals as goal

pub returns : goal.returns
unfolding addresses_fit crate_tree
returns c =
    c.earlier.ensures
    ∙ (ap₂ (λ a b. a && b)
    (no-misfit (λ slot. end_fits slot.address (end_found (lookup (bytes_eq slot.block) c.in_ok-tops.tops))) (slot_fits (crate_tree c.args.krate.now)) _ _ c.slot_out_of_range-slot.result c.slot_out_of_range-slot.result
    (slot-is (crate_tree c.args.krate.now) c.in_ok-tops.tops c.in_ok-tops.ensures.tops) c.as_slice.ensures c.slot_out_of_range-slot.ensures refl)
    (c.in_ok-large.ensures ∙ c.in_ok-tops.ensures.sizes)
    ∙ sizes-first (list_all (slot_fits (crate_tree c.args.krate.now)) c.args.krate.now.slots) (list_all size_fits (all_blocks (crate_tree c.args.krate.now))))
