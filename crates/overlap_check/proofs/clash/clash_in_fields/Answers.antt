-- The next field, and those behind it.
use Rattle.std.proofs.Common.{[], Some, refl, sym, ap, ◌∙◌}
use Rattle.overlap_check.specs.Meetings.{clash_named}
use Rattle.overlap_check.proofs.Clashing.{clashes-here, clashes-behind, clashes-none, sets-free}
use Rattle.svd_model.specs.Trees.{field_under, field_tree}
use Rattle.overlap_check.proofs.clash.clash_in_fields.Goals as goal

pub returns-in-Some-earlier : goal.returns-in-Some-earlier
returns-in-Some-earlier c =
    ap Some c.in_ok-clash_of.ensures
    ∙ sym
    (c.loop-key.invariant
    ∙ clashes-here field_under c.loop-key.key-iterator (c.in-Some.key.now, c.in-Some._field.now) c.next.new.self c.loop-key.seen.entries c.in-Some.key.now.name (field_tree c.in-Some._field.now).below c.in-Some-earlier.first
    (record { next = c.in-Some.ensures.steps; named = refl; name_is = refl; below_is = refl })
    (sym c.in_ok-earlier.ensures.earlier ∙ c.in-Some-earlier.is))

pub loop-key-preserved : goal.loop-key-preserved
loop-key-preserved c =
    c.loop-key.invariant
    ∙ clashes-behind field_under c.loop-key.key-iterator (c.in-Some.key.now, c.in-Some._field.now) c.next.new.self c.loop-key.seen.entries c.in-Some.key.now.name (field_tree c.in-Some._field.now).below c.meet.new.seen.entries
    (record { next = c.in-Some.ensures.steps; named = refl; name_is = refl; below_is = refl })
    (sym c.in_ok-earlier.ensures.earlier ∙ c.in_default.is)
    (ap (clash_named c.in-Some.key.now.name) (sets-free [] 0 c.in-Some._field.now.values.items))
    (c.in_ok-earlier.ensures.kept c.in_default.is)

pub returns : goal.returns
returns c = sym (c.loop-key.invariant ∙ clashes-none field_under c.loop-key.seen.entries c.loop-key.key-iterator c.in-None.ensures.steps.0)
