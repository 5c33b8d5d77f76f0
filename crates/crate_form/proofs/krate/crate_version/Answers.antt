-- The first peripheral with an array of fields decides.
use Rattle.std.proofs.Common.{List, ◌∷◌, [], map, sym, ap, ◌∙◌, subst}
use Rattle.checked_tree.specs.Devices.{ArePeripherals}
use Rattle.reg_table.specs.Walk.{FitIn}
use Rattle.reg_table.proofs.Walks.{fit-others}
use Rattle.svd_model.specs.declared.device.Peripheral.{Peripheral}
use Rattle.svd_model.specs.declared.sibling.Sibling.{Sibling}
use Rattle.svd_model.specs.Trees.{peripheral_under}
use Rattle.svd_rows.specs.Forest.{siblings}
use Rattle.crate_form.specs.Crates.{takes_indexes, version_by}
use Rattle.crate_form.proofs.Peripherals.{device-fits, peripherals-others}
use Rattle.crate_form.proofs.Standing.{peripheral-first}
use Rattle.crate_form.proofs.Versions.{indexes-none, indexes-others, indexes-some, version-told}
use Rattle.crate_form.proofs.krate.crate_version.Goals as goal

pub loop-key-init : goal.loop-key-init
loop-key-init c =
    let device = c.device-device.result.now in
    let given = c.into_iter-key-iterator.ensures.into_iter_gives.0 in
    let fits = device-fits device c.device-device.ensures.fact in
    record {
      decide = ap (λ entries. takes_indexes device.props (siblings (map peripheral_under entries))) given;
      fit = subst (λ (entries : List (Sibling × Peripheral)). FitIn 0 device.props (siblings (map peripheral_under entries))) (sym given) fits.0;
      checked = subst (λ (entries : List (Sibling × Peripheral)). ArePeripherals device.props (siblings (map peripheral_under entries))) (sym given) fits.1;
    }

pub peripheral_has_arrays-requires : goal.peripheral_has_arrays-requires
peripheral_has_arrays-requires c =
    let outer = c.device-device.result.now.props in
    let fit = subst (λ (entries : List (Sibling × Peripheral)). FitIn 0 outer (siblings (map peripheral_under entries))) c.in-Some.ensures.steps c.loop-key.invariant.fit in
    let checked = subst (λ (entries : List (Sibling × Peripheral)). ArePeripherals outer (siblings (map peripheral_under entries))) c.in-Some.ensures.steps c.loop-key.invariant.checked in
    peripheral-first outer (peripheral_under (c.in-Some.key.now, c.in-Some.peripheral.now)) (map peripheral_under c.next.new.self) fit checked

pub loop-key-preserved : goal.loop-key-preserved
loop-key-preserved c =
    let outer = c.device-device.result.now.props in
    let x = peripheral_under (c.in-Some.key.now, c.in-Some.peripheral.now) in
    let left = map peripheral_under c.next.new.self in
    let steps = c.in-Some.ensures.steps in
    let before = c.loop-key.invariant in
    record {
      decide =
          sym (indexes-others outer x left (sym c.peripheral_has_arrays.ensures ∙ c.if-peripheral_has_arrays.false))
          ∙ (sym (ap (λ entries. takes_indexes outer (siblings (map peripheral_under entries))) steps) ∙ before.decide);
      fit = fit-others 0 outer x left (subst (λ (entries : List (Sibling × Peripheral)). FitIn 0 outer (siblings (map peripheral_under entries))) steps before.fit);
      checked = peripherals-others outer x left (subst (λ (entries : List (Sibling × Peripheral)). ArePeripherals outer (siblings (map peripheral_under entries))) steps before.checked);
    }

pub returns-then-peripheral_has_arrays : goal.returns-then-peripheral_has_arrays
returns-then-peripheral_has_arrays c =
    let outer = c.device-device.result.now.props in
    let x = peripheral_under (c.in-Some.key.now, c.in-Some.peripheral.now) in
    let left = map peripheral_under c.next.new.self in
    let some = indexes-some outer x left (sym c.peripheral_has_arrays.ensures ∙ c.if-peripheral_has_arrays.true) in
    sym (version-told c.device-device.result.now c.args.state.now c.device-device.ensures.rows
    ∙ ap version_by (sym c.loop-key.invariant.decide ∙ (ap (λ entries. takes_indexes outer (siblings (map peripheral_under entries))) c.in-Some.ensures.steps ∙ some)))

pub returns : goal.returns
returns c =
    let outer = c.device-device.result.now.props in
    sym (version-told c.device-device.result.now c.args.state.now c.device-device.ensures.rows
    ∙ ap version_by (sym c.loop-key.invariant.decide ∙ (ap (λ entries. takes_indexes outer (siblings (map peripheral_under entries))) c.in-None.ensures.steps.0 ∙ indexes-none outer)))
