-- The slots and blocks are those of the crate.
use Rattle.std.proofs.Common.{map, ap, ◌∙◌}
use Rattle.std.specs.List.{list_all}
use Rattle.std.proofs.lemmas.Bool.{and_from}
use Rattle.frag_tree.specs.Trees.{block_tree, crate_tree}
use Rattle.frag_tree.specs.Validity.{valid_block, valid_slot}
use Rattle.crate_form.proofs.Peripherals.{blocks-told, emitted-is}
use Rattle.crate_form.proofs.Versions.{blocks-valid}
use Rattle.crate_form.proofs.krate.crate_form.Goals as goal

pub returns-clause-form : goal.returns-clause-form
unfolding crate_tree
returns-clause-form c = emitted-is c.args.state.now c.crate_version.result (map block_tree c.in_ok-blocks.field-0.items) c.in_ok-crate_slots.field-0 c.crate_version.ensures c.in_ok-crate_slots.ensures.form c.in_ok-blocks.ensures.form

pub returns-clause-valid : goal.returns-clause-valid
unfolding crate_tree
returns-clause-valid c =
    let blocks = map block_tree c.in_ok-blocks.field-0.items in
    let rows = c.device-device.ensures.rows in
    let valid = blocks-valid c.device-device.result.now c.args.state.now rows blocks (c.in_ok-blocks.ensures.form ∙ blocks-told c.device-device.result.now c.args.state.now rows) c.in_ok-blocks.ensures.valid in
    and_from (list_all valid_slot c.in_ok-crate_slots.field-0) (list_all (valid_block c.crate_version.result) blocks) c.in_ok-crate_slots.ensures.valid
    (ap (λ version. list_all (valid_block version) blocks) c.crate_version.ensures ∙ valid)
