-- The members that the walk meets are those of the flat rows, and what is found among them is the first of all.
use Rattle.std.proofs.Common.{Some, None, sym, ◌∙◌, subst}
use Rattle.std.specs.List.{AllByRecursion}
use Rattle.overlap_sweep.specs.Search.{IsEven}
use Rattle.overlap_sweep.proofs.Even.{even-spots}
use Rattle.overlap_sweep.proofs.Flat.{spots-rows}
use Rattle.overlap_sweep.proofs.Overlapping.{first-shared, shared-fields, shared-registers}
use Rattle.reg_table.proofs.Faults.{sound-fits}
use Rattle.svd_model.specs.Trees.{device_rows}
use Rattle.overlap_sweep.proofs.overlap.first_overlap.Goals as goal

pub spots-requires : goal.spots-requires
spots-requires c = sound-fits c.args.device.now c.requires.unfolded c.requires.widths c.requires.ranges c.requires.fields

pub register_overlap-requires : goal.register_overlap-requires
register_overlap-requires c = subst (AllByRecursion IsEven) (sym (c.as_slice-all.ensures ∙ c.in_ok-made.ensures)) (even-spots c.args.device.now c.requires.unfolded c.requires.even)

pub returns-in-Some : goal.returns-in-Some
returns-in-Some c =
    let all_is = first-shared (device_rows c.args.device.now) c.as_slice-all.result.now (spots-rows c.args.device.now c.requires.unfolded ∙ sym (c.as_slice-all.ensures ∙ c.in_ok-made.ensures)) in
    sym (shared-fields (device_rows c.args.device.now) c.as_slice-all.result.now c.in-Some.overlap all_is (sym c.in_ok-fields.ensures ∙ c.in-Some.is))

pub returns-in-Some-2 : goal.returns-in-Some-2
returns-in-Some-2 c =
    let all_is = first-shared (device_rows c.args.device.now) c.as_slice-all.result.now (spots-rows c.args.device.now c.requires.unfolded ∙ sym (c.as_slice-all.ensures ∙ c.in_ok-made.ensures)) in
    sym (shared-registers (device_rows c.args.device.now) c.as_slice-all.result.now (Some c.in-Some-2.overlap) all_is (sym c.in_ok-fields.ensures ∙ c.in_default.is) (sym c.in-Some-2.is ∙ c.in_ok-overlap.ensures))

pub returns : goal.returns
returns c =
    let all_is = first-shared (device_rows c.args.device.now) c.as_slice-all.result.now (spots-rows c.args.device.now c.requires.unfolded ∙ sym (c.as_slice-all.ensures ∙ c.in_ok-made.ensures)) in
    sym (shared-registers (device_rows c.args.device.now) c.as_slice-all.result.now None all_is (sym c.in_ok-fields.ensures ∙ c.in_default.is) (sym c.in-None.is ∙ c.in_ok-overlap.ensures))
