-- The block is that of the peripheral of this number.
use Rattle.std.proofs.Common.{List, Some, option_map, sym, ap, ◌∙◌}
use Rattle.std.specs.List.{slice_get}
use Rattle.frag_tree.specs.Trees.{BlockTree, block_tree}
use Rattle.svd_model.specs.Trees.{peripheral_under}
use Rattle.crate_form.specs.Elements.{block_at}
use Rattle.crate_form.proofs.Peripherals.{block-at, blocks-told, device-fits, peripheral-at}
use Rattle.crate_form.proofs.Versions.{block-valid}
use Rattle.crate_form.proofs.krate.crate_block.Goals as goal

pub peripheral_block-requires : goal.peripheral_block-requires
peripheral_block-requires c =
    let device = c.device-device.result.now in
    let fits = device-fits device c.device-device.ensures.fact in
    peripheral-at device.props device.peripherals.entries c.args.number (c.in-Some.key.now, c.in-Some.peripheral.now) (sym c.in-Some.ensures.entry) fits.0 fits.1

pub returns-in_ok-block-in-Some-clause-valid : goal.returns-in_ok-block-in-Some-clause-valid
returns-in_ok-block-in-Some-clause-valid c =
    block-valid c.device-device.result.now c.args.state.now c.device-device.ensures.rows c.args.number (c.in-Some.key.now, c.in-Some.peripheral.now) (block_tree c.in_ok-block-in-Some.block) (sym c.in-Some.ensures.entry) c.in_ok-block-in-Some.ensures.tree c.in_ok-block-in-Some.ensures.valid

pub returns-in_ok-block-in-Some-clause-form : goal.returns-in_ok-block-in-Some-clause-form
returns-in_ok-block-in-Some-clause-form c =
    let device = c.device-device.result.now in
    ap Some c.in_ok-block-in-Some.ensures.tree
    ∙ (ap (option_map (λ entry. block_at device.props (peripheral_under entry))) c.in-Some.ensures.entry
    ∙ (sym (block-at device.props device.peripherals.entries c.args.number)
    ∙ sym (ap (λ (blocks : List BlockTree). slice_get blocks c.args.number) (blocks-told device c.args.state.now c.device-device.ensures.rows))))

pub returns-in-None-clause-form : goal.returns-in-None-clause-form
returns-in-None-clause-form c =
    let device = c.device-device.result.now in
    ap (option_map (λ entry. block_at device.props (peripheral_under entry))) c.in-None.ensures.entry
    ∙ (sym (block-at device.props device.peripherals.entries c.args.number)
    ∙ sym (ap (λ (blocks : List BlockTree). slice_get blocks c.args.number) (blocks-told device c.args.state.now c.device-device.ensures.rows)))
