-- The next peripheral, what is below it, and those behind it.
use Rattle.std.proofs.Common.{[], Some, map, refl, sym, ap, ◌∙◌}
use Rattle.overlap_check.specs.Meetings.{clash_named, first_clash}
use Rattle.overlap_check.proofs.Clashing.{clashes-here, clashes-below, clashes-behind, clashes-none}
use Rattle.svd_model.specs.Trees.{peripheral_under, peripheral_tree, item_under}
use Rattle.svd_rows.specs.Forest.{siblings}
use Rattle.overlap_check.proofs.clash.clash_in_peripherals.Goals as goal

pub returns-in-Some-earlier : goal.returns-in-Some-earlier
returns-in-Some-earlier c =
    ap Some c.in_ok-clash_of.ensures
    ∙ sym
    (c.loop-key.invariant
    ∙ clashes-here peripheral_under c.loop-key.key-iterator (c.in-Some.key.now, c.in-Some.peripheral.now) c.next.new.self c.loop-key.seen.entries c.in-Some.key.now.name (peripheral_tree c.in-Some.peripheral.now).below c.in-Some-earlier.first
    (record { next = c.in-Some.ensures.steps; named = refl; name_is = refl; below_is = refl })
    (sym c.in_ok-earlier.ensures.earlier ∙ c.in-Some-earlier.is))

pub returns-in-Some-found : goal.returns-in-Some-found
returns-in-Some-found c =
    sym
    (c.loop-key.invariant
    ∙ clashes-below peripheral_under c.loop-key.key-iterator (c.in-Some.key.now, c.in-Some.peripheral.now) c.next.new.self c.loop-key.seen.entries c.in-Some.key.now.name (peripheral_tree c.in-Some.peripheral.now).below c.in-Some-found.clash
    (record { next = c.in-Some.ensures.steps; named = refl; name_is = refl; below_is = refl })
    (sym c.in_ok-earlier.ensures.earlier ∙ c.in_default.is)
    (ap (clash_named c.in-Some.key.now.name) (ap (λ items. first_clash [] (siblings (map item_under items))) (sym c.as_slice.ensures.value) ∙ sym c.in_ok-below.ensures) ∙ sym c.in_ok-found.ensures ∙ c.in-Some-found.is))

pub loop-key-preserved : goal.loop-key-preserved
loop-key-preserved c =
    c.loop-key.invariant
    ∙ clashes-behind peripheral_under c.loop-key.key-iterator (c.in-Some.key.now, c.in-Some.peripheral.now) c.next.new.self c.loop-key.seen.entries c.in-Some.key.now.name (peripheral_tree c.in-Some.peripheral.now).below c.meet.new.seen.entries
    (record { next = c.in-Some.ensures.steps; named = refl; name_is = refl; below_is = refl })
    (sym c.in_ok-earlier.ensures.earlier ∙ c.in_default.is)
    (ap (clash_named c.in-Some.key.now.name) (ap (λ items. first_clash [] (siblings (map item_under items))) (sym c.as_slice.ensures.value) ∙ sym c.in_ok-below.ensures) ∙ sym c.in_ok-found.ensures ∙ c.in_default-found.is)
    (c.in_ok-earlier.ensures.kept c.in_default.is)

pub returns : goal.returns
returns c = sym (c.loop-key.invariant ∙ clashes-none peripheral_under c.loop-key.seen.entries c.loop-key.key-iterator c.in-None.ensures.steps.0)
