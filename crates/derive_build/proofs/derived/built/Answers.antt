use Rattle.std.proofs.Common.{map, sym, ap, ◌∙◌, subst}
use Rattle.derive_build.specs.Filling.{IsFilled}
use Rattle.derive_build.specs.Nodes.{own_node}
use Rattle.derive_build.proofs.Made.{order-of-owns, sources-needed, sources-fit, device-there, device-first, device-made}
use Rattle.derive_build.proofs.Told.{if-ok, stood, none-stood}
use Rattle.derive_build.proofs.derived.built.Goals as goal

pub settle-requires-clause-order : goal.settle-requires-clause-order
settle-requires-clause-order c =
    let listed = ap (map own_node) c.as_slice.ensures.value ∙ c.in_ok-owns.ensures in
    order-of-owns c.args.device.now c.args.sources.now c.args.elements.now c.args.order.now c.as_slice.result.now c.requires.described c.requires.found c.requires.graph c.requires.faultless c.requires.order listed

pub settle-requires-clause-needed : goal.settle-requires-clause-needed
settle-requires-clause-needed c =
    let listed = ap (map own_node) c.as_slice.ensures.value ∙ c.in_ok-owns.ensures in
    sources-needed c.args.device.now c.args.sources.now c.args.elements.now c.args.order.now c.as_slice.result.now c.requires.described c.requires.found c.requires.graph c.requires.faultless c.requires.order listed

pub settle-requires-clause-takes : goal.settle-requires-clause-takes
settle-requires-clause-takes c =
    let listed = ap (map own_node) c.as_slice.ensures.value ∙ c.in_ok-owns.ensures in
    sources-fit c.args.device.now c.args.sources.now c.args.elements.now c.args.order.now c.as_slice.result.now c.requires.described c.requires.found c.requires.graph c.requires.faultless c.requires.order listed

pub device_of-requires-clause-top : goal.device_of-requires-clause-top
device_of-requires-clause-top c =
    let listed = ap (map own_node) c.as_slice.ensures.value ∙ c.in_ok-owns.ensures in
    let table = c.as_slice-table.result.now in
    let filled = subst (λ items. IsFilled c.as_slice.result.now c.args.sources.now c.args.elements.now items c.args.order.now) (sym c.as_slice-table.ensures.value) c.in_ok-filled.ensures in
    (device-first c.args.device.now c.args.sources.now c.args.elements.now c.args.order.now c.as_slice.result.now c.requires.described c.requires.found c.requires.graph c.requires.faultless c.requires.order listed table filled c.in-Some.first.now (stood table 0 c.in-Some.first.now c.in-Some.ensures.lookup.1 c.in-Some.ensures.lookup.3.0)).0

pub device_of-requires-clause-keys : goal.device_of-requires-clause-keys
device_of-requires-clause-keys c =
    let listed = ap (map own_node) c.as_slice.ensures.value ∙ c.in_ok-owns.ensures in
    let table = c.as_slice-table.result.now in
    let filled = subst (λ items. IsFilled c.as_slice.result.now c.args.sources.now c.args.elements.now items c.args.order.now) (sym c.as_slice-table.ensures.value) c.in_ok-filled.ensures in
    (device-first c.args.device.now c.args.sources.now c.args.elements.now c.args.order.now c.as_slice.result.now c.requires.described c.requires.found c.requires.graph c.requires.faultless c.requires.order listed table filled c.in-Some.first.now (stood table 0 c.in-Some.first.now c.in-Some.ensures.lookup.1 c.in-Some.ensures.lookup.3.0)).1

pub unreachable-requires : goal.unreachable-requires
unreachable-requires c =
    let listed = ap (map own_node) c.as_slice.ensures.value ∙ c.in_ok-owns.ensures in
    let table = c.as_slice-table.result.now in
    let filled = subst (λ items. IsFilled c.as_slice.result.now c.args.sources.now c.args.elements.now items c.args.order.now) (sym c.as_slice-table.ensures.value) c.in_ok-filled.ensures in
    device-there c.args.device.now c.args.sources.now c.args.elements.now c.args.order.now c.as_slice.result.now c.requires.described c.requires.found c.requires.graph c.requires.faultless c.requires.order listed table filled (none-stood table 0 c.in-None.ensures.lookup.0)

pub returns-clause-rows : goal.returns-clause-rows
returns-clause-rows c =
    let listed = ap (map own_node) c.as_slice.ensures.value ∙ c.in_ok-owns.ensures in
    let table = c.as_slice-table.result.now in
    let filled = subst (λ items. IsFilled c.as_slice.result.now c.args.sources.now c.args.elements.now items c.args.order.now) (sym c.as_slice-table.ensures.value) c.in_ok-filled.ensures in
    if-ok c.device_of.result _ _
    (λ made is. (device-made c.args.device.now c.args.sources.now c.args.elements.now c.args.order.now c.as_slice.result.now c.requires.described c.requires.found c.requires.graph c.requires.faultless c.requires.order listed table filled c.in-Some.first.now made (stood table 0 c.in-Some.first.now c.in-Some.ensures.lookup.1 c.in-Some.ensures.lookup.3.0) is).0)
    c.device_of.ensures

pub returns-clause-fact : goal.returns-clause-fact
returns-clause-fact c =
    let listed = ap (map own_node) c.as_slice.ensures.value ∙ c.in_ok-owns.ensures in
    let table = c.as_slice-table.result.now in
    let filled = subst (λ items. IsFilled c.as_slice.result.now c.args.sources.now c.args.elements.now items c.args.order.now) (sym c.as_slice-table.ensures.value) c.in_ok-filled.ensures in
    if-ok c.device_of.result _ _
    (λ made is. (device-made c.args.device.now c.args.sources.now c.args.elements.now c.args.order.now c.as_slice.result.now c.requires.described c.requires.found c.requires.graph c.requires.faultless c.requires.order listed table filled c.in-Some.first.now made (stood table 0 c.in-Some.first.now c.in-Some.ensures.lookup.1 c.in-Some.ensures.lookup.3.0) is).1)
    c.device_of.ensures
