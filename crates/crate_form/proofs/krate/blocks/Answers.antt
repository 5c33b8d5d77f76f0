-- Each block is that of its peripheral, and the rows spell the device's tree.
use Rattle.std.proofs.Common.{List, ◌++◌, ◌∷◌, [], map, sym, ap, ap₂, ◌∙◌, subst, append_assoc, append-nil}
use Rattle.std.specs.List.{list_all}
use Rattle.checked_tree.specs.Devices.{ArePeripherals}
use Rattle.frag_tree.specs.declared.krate.Version.TheVariants.{Two}
use Rattle.frag_tree.specs.Trees.{block_tree}
use Rattle.frag_tree.specs.Validity.{valid_block}
use Rattle.reg_table.specs.Walk.{FitIn}
use Rattle.reg_table.proofs.Walks.{fit-others}
use Rattle.svd_model.specs.declared.device.Peripheral.{Peripheral}
use Rattle.svd_model.specs.declared.sibling.Sibling.{Sibling}
use Rattle.svd_model.specs.Trees.{peripheral_under}
use Rattle.svd_rows.specs.Forest.{siblings}
use Rattle.crate_form.specs.Crates.{blocks_of}
use Rattle.crate_form.specs.Elements.{block_at}
use Rattle.crate_form.proofs.Peripherals.{blocks-first, blocks-none, blocks-told, device-fits, map_push, peripherals-others}
use Rattle.crate_form.proofs.Standing.{peripheral-first}
use Rattle.crate_form.proofs.Units.{valid_more}
use Rattle.crate_form.proofs.krate.blocks.Goals as goal

pub loop-key-init : goal.loop-key-init
loop-key-init c =
    let device = c.device-device.result.now in
    let given = c.into_iter-key-iterator.ensures.into_iter_gives.0 in
    let fits = device-fits device c.device-device.ensures.fact in
    record {
      blocks = ap₂ (λ made entries. map block_tree made ++ blocks_of device.props (siblings (map peripheral_under entries))) c.new-blocks.ensures.items given;
      valid = ap (λ made. list_all (valid_block Two) (map block_tree made)) c.new-blocks.ensures.items;
      fit = subst (λ (entries : List (Sibling × Peripheral)). FitIn 0 device.props (siblings (map peripheral_under entries))) (sym given) fits.0;
      checked = subst (λ (entries : List (Sibling × Peripheral)). ArePeripherals device.props (siblings (map peripheral_under entries))) (sym given) fits.1;
    }

pub peripheral_block-requires : goal.peripheral_block-requires
peripheral_block-requires c =
    let outer = c.device-device.result.now.props in
    let fit = subst (λ (entries : List (Sibling × Peripheral)). FitIn 0 outer (siblings (map peripheral_under entries))) c.in-Some.ensures.steps c.loop-key.invariant.fit in
    let checked = subst (λ (entries : List (Sibling × Peripheral)). ArePeripherals outer (siblings (map peripheral_under entries))) c.in-Some.ensures.steps c.loop-key.invariant.checked in
    peripheral-first outer (peripheral_under (c.in-Some.key.now, c.in-Some.peripheral.now)) (map peripheral_under c.next.new.self) fit checked

pub loop-key-preserved : goal.loop-key-preserved
loop-key-preserved c =
    let outer = c.device-device.result.now.props in
    let x = peripheral_under (c.in-Some.key.now, c.in-Some.peripheral.now) in
    let left = map peripheral_under c.next.new.self in
    let steps = c.in-Some.ensures.steps in
    let before = c.loop-key.invariant in
    let block = c.in_ok-peripheral_block.field-0 in
    record {
      blocks =
          ap (λ l. map block_tree l ++ blocks_of outer (siblings left)) c.in_ok-push.ensures.items
          ∙ (ap (λ l. l ++ blocks_of outer (siblings left)) (map_push block_tree c.loop-key.blocks.items block ∙ ap (λ tree. map block_tree c.loop-key.blocks.items ++ tree ∷ []) c.in_ok-peripheral_block.ensures.tree)
          ∙ (append_assoc (map block_tree c.loop-key.blocks.items) (block_at outer x ∷ []) (blocks_of outer (siblings left))
          ∙ (ap (λ l. map block_tree c.loop-key.blocks.items ++ l) (sym (blocks-first outer x left))
          ∙ (sym (ap (λ entries. map block_tree c.loop-key.blocks.items ++ blocks_of outer (siblings (map peripheral_under entries))) steps)
          ∙ before.blocks))));
      valid =
          ap (λ l. list_all (valid_block Two) (map block_tree l)) c.in_ok-push.ensures.items
          ∙ (ap (list_all (valid_block Two)) (map_push block_tree c.loop-key.blocks.items block)
          ∙ valid_more (valid_block Two) (map block_tree c.loop-key.blocks.items) (block_tree block) before.valid c.in_ok-peripheral_block.ensures.valid);
      fit = fit-others 0 outer x left (subst (λ (entries : List (Sibling × Peripheral)). FitIn 0 outer (siblings (map peripheral_under entries))) steps before.fit);
      checked = peripherals-others outer x left (subst (λ (entries : List (Sibling × Peripheral)). ArePeripherals outer (siblings (map peripheral_under entries))) steps before.checked);
    }

pub returns-clause-form : goal.returns-clause-form
returns-clause-form c =
    sym (append-nil (map block_tree c.loop-key.blocks.items))
    ∙ (ap (λ l. map block_tree c.loop-key.blocks.items ++ l) (sym (blocks-none c.device-device.result.now.props))
    ∙ (sym (ap (λ entries. map block_tree c.loop-key.blocks.items ++ blocks_of c.device-device.result.now.props (siblings (map peripheral_under entries))) c.in-None.ensures.steps.0)
    ∙ (c.loop-key.invariant.blocks
    ∙ sym (blocks-told c.device-device.result.now c.args.state.now c.device-device.ensures.rows))))
