use Rattle.std.proofs.Common.{◌≡◌, ◌+◌, None, Some, map, refl, ap, ap₂, ◌∙◌, subst}
use Rattle.std.specs.List.{AllByRecursion}
use Rattle.derive_build.specs.declared.own.Own.TheVariants as own
use Rattle.derive_build.specs.Children.{step_by}
use Rattle.derive_build.specs.Nodes.{own_node}
use Rattle.derive_build.specs.Tables.{IsKid, under}
use Rattle.derive_build.specs.Taking.{keys_by}
use Rattle.derive_build.proofs.Told.{entry-last, under-is, made-at, plain-made, as-cluster, same-level, no-kid, none-stands, stood, none-stood}
use Rattle.svd_model.specs.Keys.{Key}
use Rattle.svd_model.specs.Steps.{Step, peripheral, cluster}
use Rattle.svd_model.specs.Trees.{item_under, peripheral_under, step_of}
use Rattle.svd_rows.specs.Forest.{Tree, siblings}
use Rattle.derive_build.proofs.device.add_peripheral.Goals as goal

pub returns-in_ok-insert-in-Some-peripheral : goal.returns-in_ok-insert-in-Some-peripheral
returns-in_ok-insert-in-Some-peripheral c = λ kid fresh.
    let table = c.args.table.now in
    let levels = c.args.levels + 1 in
    let settled = c.in-Some.settled.now in
    let key = c.in-Some-peripheral.key.now in
    let keys = keys_by (own.Peripheral c.in-Some-peripheral.key c.in-Some-peripheral.element) settled.keys in
    let children = c.in_ok-children-in-Some-peripheral.children.items in
    let tree : Tree Step Key = record { keys = keys; below = siblings (map item_under children) } in
    let is = c.in-Some-peripheral.ensures.is in
    let there = stood table c.args.number settled c.in-Some.ensures.lookup.1 c.in-Some.ensures.lookup.3.0 in
    entry-last peripheral_under peripheral (λ entry. refl) table levels c.args.number c.args.made.now.entries c.insert.new.self.entries c.in_ok-copied_key-in-Some-peripheral.field-0 c.in_ok-peripheral-in-Some-peripheral.peripheral
    (ap₂ (λ k t. (step_of peripheral k, t)) c.in_ok-copied_key-in-Some-peripheral.ensures c.in_ok-peripheral-in-Some-peripheral.ensures
    ∙ under-is table levels c.args.number settled (step_of peripheral key) tree there (ap (λ o. step_by (own_node o)) is)
    (made-at table levels c.args.number settled tree there
    (λ inner less kids.
    plain-made table inner item_under children (Some peripheral) settled keys (ap (λ o. keys_by o settled.keys) is) (ap (λ o. (own_node o).kind) is) (λ cs. refl) kids
    (λ each apart.
    subst (λ l. AllByRecursion (IsKid table l (Some cluster)) settled.children.items → map item_under children ≡ map (under table l) settled.children.items) (same-level c.args.levels inner less)
    (subst (λ ns. AllByRecursion (IsKid table c.args.levels (Some cluster)) ns → map item_under children ≡ map (under table c.args.levels) ns) c.as_slice.ensures.value c.in_ok-children-in-Some-peripheral.ensures)
    (as-cluster table inner settled.children.items each)))
    kid.1))
    c.in_ok-insert-in-Some-peripheral.ensures.entries fresh

pub returns-in-None-peripheral : goal.returns-in-None-peripheral
returns-in-None-peripheral c = λ kid fresh.
    absurd (no-kid c.args.table.now (c.args.levels + 1) c.args.number c.in-Some.settled.now None (stood c.args.table.now c.args.number c.in-Some.settled.now c.in-Some.ensures.lookup.1 c.in-Some.ensures.lookup.3.0) c.in-None-peripheral.ensures.other kid)

pub returns-in-None : goal.returns-in-None
returns-in-None c = λ kid fresh.
    absurd (none-stands c.args.table.now (c.args.levels + 1) c.args.number (none-stood c.args.table.now c.args.number c.in-None.ensures.lookup.0) kid.1)
