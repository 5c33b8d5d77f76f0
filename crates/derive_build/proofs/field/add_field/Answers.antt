use Rattle.std.proofs.Common.{◌≡◌, Some, map, refl, ap, ap₂, ◌∙◌, subst}
use Rattle.std.specs.List.{AllByRecursion}
use Rattle.derive_build.specs.declared.own.Own.TheVariants as own
use Rattle.derive_build.specs.Children.{step_by}
use Rattle.derive_build.specs.Nodes.{own_node}
use Rattle.derive_build.specs.Tables.{IsKid, named}
use Rattle.derive_build.specs.Taking.{keys_by}
use Rattle.derive_build.proofs.Told.{entry-last, under-is, made-at, placed-made, set-alone, no-kid, none-stands, stood, none-stood}
use Rattle.svd_model.specs.Keys.{Key}
use Rattle.svd_model.specs.Steps.{Step, register, field, set}
use Rattle.svd_model.specs.Trees.{numbered, set_tree, field_under, step_of}
use Rattle.svd_rows.specs.Forest.{Tree}
use Rattle.derive_build.proofs.field.add_field.Goals as goal

pub returns-in_ok-insert-in-Some-field : goal.returns-in_ok-insert-in-Some-field
returns-in_ok-insert-in-Some-field c = λ levels kid fresh.
    let table = c.args.table.now in
    let settled = c.in-Some.settled.now in
    let key = c.in-Some-field.key.now in
    let keys = keys_by (own.Field c.in-Some-field.key c.in-Some-field.element) settled.keys in
    let values = c.in_ok-values-in-Some-field.values.items in
    let tree : Tree Step Key = record { keys = keys; below = numbered set 0 (map set_tree values) } in
    let is = c.in-Some-field.ensures.is in
    let there = stood table c.args.number settled c.in-Some.ensures.lookup.1 c.in-Some.ensures.lookup.3.0 in
    entry-last field_under field (λ entry. refl) table levels c.args.number c.args.made.now.entries c.insert.new.self.entries c.in_ok-copied_key-in-Some-field.field-0 c.in_ok-field-in-Some-field.field
    (ap₂ (λ k t. (step_of field k, t)) c.in_ok-copied_key-in-Some-field.ensures c.in_ok-field-in-Some-field.ensures
    ∙ under-is table levels c.args.number settled (step_of field key) tree there (ap (λ o. step_by (own_node o)) is)
    (made-at table levels c.args.number settled tree there
    (λ inner less kids.
    placed-made table inner set_tree values field set settled keys (ap (λ o. keys_by o settled.keys) is) (ap (λ o. (own_node o).kind) is) (λ children. refl) set-alone kids
    (subst (λ ns. AllByRecursion (IsKid table inner (Some field)) ns → map set_tree values ≡ map (named table inner) ns) c.as_slice.ensures.value (c.in_ok-values-in-Some-field.ensures inner)))
    kid.1))
    c.in_ok-insert-in-Some-field.ensures.entries fresh

pub returns-in-None-field : goal.returns-in-None-field
returns-in-None-field c = λ levels kid fresh.
    absurd (no-kid c.args.table.now levels c.args.number c.in-Some.settled.now (Some register) (stood c.args.table.now c.args.number c.in-Some.settled.now c.in-Some.ensures.lookup.1 c.in-Some.ensures.lookup.3.0) c.in-None-field.ensures.other kid)

pub returns-in-None : goal.returns-in-None
returns-in-None c = λ levels kid fresh.
    absurd (none-stands c.args.table.now levels c.args.number (none-stood c.args.table.now c.args.number c.in-None.ensures.lookup.0) kid.1)
