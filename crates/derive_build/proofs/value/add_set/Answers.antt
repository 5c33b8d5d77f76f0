use Rattle.std.proofs.Common.{◌≡◌, Some, map, refl, ap, subst}
use Rattle.std.specs.List.{AllByRecursion}
use Rattle.derive_build.specs.declared.own.Own.TheVariants as own
use Rattle.derive_build.specs.Nodes.{own_node}
use Rattle.derive_build.specs.Tables.{IsKid, named}
use Rattle.derive_build.specs.Taking.{keys_by}
use Rattle.derive_build.proofs.Told.{pushed-named, placed-made, value-alone, no-kid, none-stands, stood, none-stood}
use Rattle.svd_model.specs.Steps.{field, set, value}
use Rattle.svd_model.specs.Trees.{numbered, set_tree, value_tree}
use Rattle.derive_build.proofs.value.add_set.Goals as goal

pub returns-in_ok-push-in-Some-set : goal.returns-in_ok-push-in-Some-set
returns-in_ok-push-in-Some-set c = λ levels kid.
    let settled = c.in-Some.settled.now in
    let keys = keys_by (own.Set c.in-Some-set.element) settled.keys in
    let items = c.in_ok-items-in-Some-set.items.items in
    let is = c.in-Some-set.ensures.is in
    pushed-named set_tree c.args.table.now levels c.args.number settled (Some field) c.args.made.now.items c.push.new.self.items c.in_ok-set_of-in-Some-set.field-0 (set_tree c.in-Some-set.element.now).0 (record { keys = keys; below = numbered value 0 (map value_tree items) })
    (stood c.args.table.now c.args.number settled c.in-Some.ensures.lookup.1 c.in-Some.ensures.lookup.3.0)
    c.in_ok-set_of-in-Some-set.ensures
    (ap (λ o. (own_node o).name) is) c.in_ok-push-in-Some-set.ensures.items
    (λ inner kids.
    placed-made c.args.table.now inner value_tree items set value settled keys (ap (λ o. keys_by o settled.keys) is) (ap (λ o. (own_node o).kind) is) (λ children. refl) value-alone kids
    (subst (λ ns. AllByRecursion (IsKid c.args.table.now inner (Some set)) ns → map value_tree items ≡ map (named c.args.table.now inner) ns) c.as_slice.ensures.value (c.in_ok-items-in-Some-set.ensures inner)))
    kid

pub returns-in-None-set : goal.returns-in-None-set
returns-in-None-set c = λ levels kid.
    absurd (no-kid c.args.table.now levels c.args.number c.in-Some.settled.now (Some field) (stood c.args.table.now c.args.number c.in-Some.settled.now c.in-Some.ensures.lookup.1 c.in-Some.ensures.lookup.3.0) c.in-None-set.ensures.other kid)

pub returns-in-None : goal.returns-in-None
returns-in-None c = λ levels kid.
    absurd (none-stands c.args.table.now levels c.args.number (none-stood c.args.table.now c.args.number c.in-None.ensures.lookup.0) kid.1)
