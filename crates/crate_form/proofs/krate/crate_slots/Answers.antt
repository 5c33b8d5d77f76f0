-- Each slot is that of its peripheral, and the rows spell the device's tree.
use Rattle.std.proofs.Common.{List, ◌++◌, ◌∷◌, [], map, sym, ap, ap₂, ◌∙◌, subst, append_assoc, append-nil}
use Rattle.std.specs.List.{list_all}
use Rattle.checked_tree.specs.Devices.{ArePeripherals}
use Rattle.frag_tree.specs.declared.krate.Slot.{Slot}
use Rattle.frag_tree.specs.Validity.{valid_slot}
use Rattle.reg_table.specs.Walk.{FitIn}
use Rattle.reg_table.proofs.Walks.{fit-others}
use Rattle.svd_model.specs.declared.device.Peripheral.{Peripheral}
use Rattle.svd_model.specs.declared.sibling.Sibling.{Sibling}
use Rattle.svd_model.specs.Trees.{peripheral_under}
use Rattle.svd_rows.specs.Forest.{siblings}
use Rattle.crate_form.specs.Crates.{slot_of, slots_of}
use Rattle.crate_form.proofs.Peripherals.{device-fits, peripherals-others, slots-first, slots-none, slots-told}
use Rattle.crate_form.proofs.Standing.{peripheral-first}
use Rattle.crate_form.proofs.Units.{valid_more}
use Rattle.crate_form.proofs.krate.crate_slots.Goals as goal

pub loop-key-init : goal.loop-key-init
loop-key-init c =
    let device = c.device-device.result.now in
    let given = c.into_iter-key-iterator.ensures.into_iter_gives.0 in
    let fits = device-fits device c.device-device.ensures.fact in
    record {
      slots = ap₂ (λ (made : List Slot) entries. made ++ slots_of (siblings (map peripheral_under entries))) c.new-slots.ensures given;
      valid = ap (list_all valid_slot) c.new-slots.ensures;
      fit = subst (λ (entries : List (Sibling × Peripheral)). FitIn 0 device.props (siblings (map peripheral_under entries))) (sym given) fits.0;
      checked = subst (λ (entries : List (Sibling × Peripheral)). ArePeripherals device.props (siblings (map peripheral_under entries))) (sym given) fits.1;
    }

pub slot-requires : goal.slot-requires
slot-requires c =
    let outer = c.device-device.result.now.props in
    let fit = subst (λ (entries : List (Sibling × Peripheral)). FitIn 0 outer (siblings (map peripheral_under entries))) c.in-Some.ensures.steps c.loop-key.invariant.fit in
    let checked = subst (λ (entries : List (Sibling × Peripheral)). ArePeripherals outer (siblings (map peripheral_under entries))) c.in-Some.ensures.steps c.loop-key.invariant.checked in
    peripheral-first outer (peripheral_under (c.in-Some.key.now, c.in-Some.peripheral.now)) (map peripheral_under c.next.new.self) fit checked

pub loop-key-preserved : goal.loop-key-preserved
loop-key-preserved c =
    let outer = c.device-device.result.now.props in
    let x = peripheral_under (c.in-Some.key.now, c.in-Some.peripheral.now) in
    let left = map peripheral_under c.next.new.self in
    let steps = c.in-Some.ensures.steps in
    let before = c.loop-key.invariant in
    record {
      slots =
          ap (λ l. l ++ slots_of (siblings left)) (c.in_ok-push.ensures.ok ∙ ap (λ slot. c.loop-key.slots ++ slot ∷ []) c.in_ok-slot.ensures.is)
          ∙ (append_assoc c.loop-key.slots (slot_of x.0 x.1.keys ∷ []) (slots_of (siblings left))
          ∙ (ap (λ l. c.loop-key.slots ++ l) (sym (slots-first x left))
          ∙ (sym (ap (λ entries. c.loop-key.slots ++ slots_of (siblings (map peripheral_under entries))) steps)
          ∙ before.slots)));
      valid = ap (list_all valid_slot) c.in_ok-push.ensures.ok ∙ valid_more valid_slot c.loop-key.slots c.in_ok-slot.field-0 before.valid c.in_ok-slot.ensures.valid;
      fit = fit-others 0 outer x left (subst (λ (entries : List (Sibling × Peripheral)). FitIn 0 outer (siblings (map peripheral_under entries))) steps before.fit);
      checked = peripherals-others outer x left (subst (λ (entries : List (Sibling × Peripheral)). ArePeripherals outer (siblings (map peripheral_under entries))) steps before.checked);
    }

pub returns-clause-form : goal.returns-clause-form
returns-clause-form c =
    sym (append-nil c.loop-key.slots)
    ∙ (ap (λ l. c.loop-key.slots ++ l) (sym slots-none)
    ∙ (sym (ap (λ entries. c.loop-key.slots ++ slots_of (siblings (map peripheral_under entries))) c.in-None.ensures.steps.0)
    ∙ (c.loop-key.invariant.slots
    ∙ sym (slots-told c.device-device.result.now c.args.state.now c.device-device.ensures.rows))))
