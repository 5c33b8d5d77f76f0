-- Without a fault the members are made; else the first fault is told.
use Rattle.std.proofs.Common.{sym, ap, ◌∙◌, subst}
use Rattle.dim_expand.proofs.FirstFault.{is-first}
use Rattle.dim_expand.proofs.Stated.{device-tree-dim}
use Rattle.dim_expand.proofs.Whole.{whole-rows, whole-fault, whole-fact, whole-narrow, none-found}
use Rattle.svd_model.specs.Facts.{IsUnfoldedTree}
use Rattle.svd_model.specs.Trees.{device_tree, device_rows}
use Rattle.svd_rows.specs.Rows.{rows}
use Rattle.dim_expand.proofs.unfolding.unfolded.Goals as goal

pub returns-in-Ok-clause-rows : goal.returns-in-Ok-clause-rows
returns-in-Ok-clause-rows c =
    let tree = device_tree c.args.device.now in
    let none = sym c.in-Ok-None.ensures.fault ∙ c.in-Ok-None.field-0-is in
    let found = none-found tree.below none in
    let made = c.in-Ok.ensures (whole-narrow tree c.requires (c.in-Ok-None.ensures.typed found) none) in
    ap rows made ∙ whole-rows tree c.requires (c.in-Ok-None.ensures.typed found) found

pub returns-in-Ok-clause-fact : goal.returns-in-Ok-clause-fact
returns-in-Ok-clause-fact c =
    let tree = device_tree c.args.device.now in
    let none = sym c.in-Ok-None.ensures.fault ∙ c.in-Ok-None.field-0-is in
    let found = none-found tree.below none in
    let made = c.in-Ok.ensures (whole-narrow tree c.requires (c.in-Ok-None.ensures.typed found) none) in
    subst IsUnfoldedTree (sym made) (whole-fact tree c.requires (device-tree-dim c.args.device.now) (c.in-Ok-None.ensures.typed found) none)

pub returns-in-Ok-clause-faultless : goal.returns-in-Ok-clause-faultless
returns-in-Ok-clause-faultless c =
    let tree = device_tree c.args.device.now in
    sym (whole-fault tree c.requires (device-tree-dim c.args.device.now) c.in-Ok-None.ensures.typed) ∙ sym c.in-Ok-None.ensures.fault ∙ c.in-Ok-None.field-0-is

pub returns-in-Ok-Some-clause-fault : goal.returns-in-Ok-Some-clause-fault
returns-in-Ok-Some-clause-fault c =
    let tree = device_tree c.args.device.now in
    is-first (device_rows c.args.device.now) c.in-Ok-Some.fault
    (sym c.in-Ok-Some.field-0-is ∙ c.in-Ok-Some.ensures.fault ∙ whole-fault tree c.requires (device-tree-dim c.args.device.now) c.in-Ok-Some.ensures.typed)
