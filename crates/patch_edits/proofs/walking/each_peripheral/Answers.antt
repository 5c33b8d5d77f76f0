use Rattle.std.proofs.Common.{◌+◌, ◌≤◌, List, length, length-set, Some, map, refl, subst, sym, ap, ◌∙◌, rules}
use Rattle.patch_sem.specs.Selecting.{selects}
use Rattle.patch_edits.proofs.Passed.{Passed, broke_off, one, passed-end, passed-fault, passed-start, passed-step}
use Rattle.patch_edits.proofs.Recounting.{recounted-step}
use Rattle.patch_edits.specs.Edits.{Recounted, below_device}
use Rattle.patch_edits.specs.Visits.{each, visited}
use Rattle.svd_model.proofs.Entries.{set_value_at-set}
use Rattle.svd_model.specs.declared.device.Peripheral.{Peripheral}
use Rattle.svd_model.specs.declared.sibling.Sibling.{Sibling}
use Rattle.svd_model.specs.Trees.{peripheral_under}
use Rattle.svd_rows.specs.Forest.{siblings}
use Rattle.patch_edits.proofs.walking.each_peripheral.Goals as goal

pub loop-index-init : goal.loop-index-init
loop-index-init g c = (refl, passed-start (selects c.args.first.now) (λ kind. visited (g.E.Edit.edit c.args.edit.now) (map selects c.args.rest.now) (Some kind)) peripheral_under c.args.peripherals.now.entries, λ others e. e)

pub returns-in_err-one_peripheral-clause-edited : goal.returns-in_err-one_peripheral-clause-edited
returns-in_err-one_peripheral-clause-edited g c =
    broke_off (one (selects c.args.first.now) (λ kind. visited (g.E.Edit.edit c.args.edit.now) (map selects c.args.rest.now) (Some kind)) peripheral_under (c.pair_mut-peripheral.result.0.now, c.pair_mut-peripheral.result.1.now))
    (each (selects c.args.first.now) (λ kind. visited (g.E.Edit.edit c.args.edit.now) (map selects c.args.rest.now) (Some kind)) (siblings (map peripheral_under c.args.peripherals.now.entries)))
    _ c.in_err-one_peripheral.field-0.0 c.from_residual.result c.from_residual.ensures.1
    (λ e. passed-fault (selects c.args.first.now) (λ kind. visited (g.E.Edit.edit c.args.edit.now) (map selects c.args.rest.now) (Some kind)) peripheral_under c.args.peripherals.now.entries c.loop-index.peripherals.entries c.loop-index.index (c.pair_mut-peripheral.result.0.now, c.pair_mut-peripheral.result.1.now) c.in_err-one_peripheral.field-0.0 c.pair_mut-peripheral.ensures.value e c.loop-index.invariant.1)
    c.in_err-one_peripheral.ensures.edited

pub loop-index-preserved : goal.loop-index-preserved
loop-index-preserved g c =
    let written = set_value_at-set c.loop-index.peripherals.entries c.loop-index.index (c.pair_mut-peripheral.result.0.now, c.pair_mut-peripheral.result.1.now) c.one_peripheral.new.peripheral c.pair_mut-peripheral.ensures.value in (
      ap length written ∙ length-set c.loop-index.peripherals.entries c.loop-index.index (c.pair_mut-peripheral.result.0.now, c.one_peripheral.new.peripheral) ∙ c.loop-index.invariant.0,
      subst (λ (now : List (Sibling × Peripheral)). Passed (selects c.args.first.now) (λ kind. visited (g.E.Edit.edit c.args.edit.now) (map selects c.args.rest.now) (Some kind)) peripheral_under c.args.peripherals.now.entries now (c.loop-index.index + 1)) (sym written)
          (passed-step (selects c.args.first.now) (λ kind. visited (g.E.Edit.edit c.args.edit.now) (map selects c.args.rest.now) (Some kind)) peripheral_under c.args.peripherals.now.entries c.loop-index.peripherals.entries c.loop-index.index (c.pair_mut-peripheral.result.0.now, c.pair_mut-peripheral.result.1.now) (c.pair_mut-peripheral.result.0.now, c.one_peripheral.new.peripheral) c.pair_mut-peripheral.ensures.value c.in_ok-one_peripheral.ensures.edited c.loop-index.invariant.1),
      subst (λ (now : List (Sibling × Peripheral)). Recounted c.args.total.now (below_device c.args.peripherals.now.entries) c.one_peripheral.new.total (below_device now)) (sym written)
          (recounted-step peripheral_under c.args.peripherals.now.entries c.loop-index.peripherals.entries c.loop-index.index (c.pair_mut-peripheral.result.0.now, c.pair_mut-peripheral.result.1.now) (c.pair_mut-peripheral.result.0.now, c.one_peripheral.new.peripheral) c.args.total.now c.loop-index.total c.one_peripheral.new.total c.pair_mut-peripheral.ensures.value refl c.in_ok-one_peripheral.ensures.counted c.loop-index.invariant.2),
    )

pub returns-clause-edited : goal.returns-clause-edited
returns-clause-edited g c =
    let done : length c.loop-index.peripherals.entries ≤ c.loop-index.index = search rules in
    passed-end (selects c.args.first.now) (λ kind. visited (g.E.Edit.edit c.args.edit.now) (map selects c.args.rest.now) (Some kind)) peripheral_under c.args.peripherals.now.entries c.loop-index.peripherals.entries c.loop-index.index done c.loop-index.invariant.1
