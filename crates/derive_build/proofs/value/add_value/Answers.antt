use Rattle.std.proofs.Common.{Some, ap}
use Rattle.derive_build.specs.Nodes.{own_node}
use Rattle.derive_build.specs.Taking.{keys_by}
use Rattle.derive_build.proofs.Told.{pushed-named, value-made, no-kid, none-stands, stood, none-stood}
use Rattle.svd_model.specs.Steps.{set}
use Rattle.svd_model.specs.Trees.{value_tree}
use Rattle.derive_build.proofs.value.add_value.Goals as goal

pub returns-in_ok-push-in-Some-value : goal.returns-in_ok-push-in-Some-value
returns-in_ok-push-in-Some-value c = λ levels kid.
    let settled = c.in-Some.settled.now in
    let element = c.in-Some-value.element.now in
    let is = c.in-Some-value.ensures.is in
    pushed-named value_tree c.args.table.now levels c.args.number settled (Some set) c.args.made.now.items c.push.new.self.items c.in_ok-copied_value-in-Some-value.field-0 (value_tree element).0 (value_tree element).1
    (stood c.args.table.now c.args.number settled c.in-Some.ensures.lookup.1 c.in-Some.ensures.lookup.3.0)
    (ap value_tree c.in_ok-copied_value-in-Some-value.ensures)
    (ap (λ o. (own_node o).name) is) c.in_ok-push-in-Some-value.ensures.items
    (λ inner kids. value-made c.args.table.now inner settled (value_tree element).1.keys (ap (λ o. keys_by o settled.keys) is) (ap (λ o. (own_node o).kind) is) kids) kid

pub returns-in-None-value : goal.returns-in-None-value
returns-in-None-value c = λ levels kid.
    absurd (no-kid c.args.table.now levels c.args.number c.in-Some.settled.now (Some set) (stood c.args.table.now c.args.number c.in-Some.settled.now c.in-Some.ensures.lookup.1 c.in-Some.ensures.lookup.3.0) c.in-None-value.ensures.other kid)

pub returns-in-None : goal.returns-in-None
returns-in-None c = λ levels kid.
    absurd (none-stands c.args.table.now levels c.args.number (none-stood c.args.table.now c.args.number c.in-None.ensures.lookup.0) kid.1)
