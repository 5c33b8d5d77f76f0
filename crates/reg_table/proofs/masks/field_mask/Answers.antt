-- The bits of the members, one after the other.
use Rattle.std.proofs.Common.{◌≤◌, ◌<◌, unwrap_or, sym, ap, ap₂, ◌∙◌, arith}
use Rattle.std.specs.Prelude.{bit_or}
use Rattle.bits_word.specs.Places.{mask}
use Rattle.reg_table.specs.Masks.{places_of}
use Rattle.reg_table.specs.Members.{member_count}
use Rattle.reg_table.proofs.FieldMembers.{number-within}
use Rattle.reg_table.proofs.Masking.{all-places, bits_below, member-more, no-members, places-few}
use Rattle.reg_table.proofs.masks.field_mask.Goals as goal

pub loop-number-init : goal.loop-number-init
loop-number-init c = no-members c.args.field.now

pub loop-number-preserved : goal.loop-number-preserved
loop-number-preserved c =
    let field = c.args.field.now in
    let n = c.loop-number.number in
    let few : places_of field.dim ≤ unwrap_or (member_count field) 1 = places-few field in
    let less : n < unwrap_or (member_count field) 1 = omega (arith, few, c.loop-number-test.true, c.places_of-number-end.ensures) in
    ap₂ bit_or c.loop-number.invariant (c.mask-mask.ensures ∙ ap (λ o. mask o field.width) c.member_bit.ensures)
    ∙ sym (member-more field n (number-within 64 field n c.requires less))

pub returns : goal.returns
returns c =
    c.loop-number.invariant
    ∙ (ap (bits_below c.args.field.now) {x = c.loop-number.number} {y = places_of c.args.field.now.dim} (omega (arith, c.loop-number-test.false, c.loop-number.auto.number-end, c.places_of-number-end.ensures))
    ∙ all-places c.args.field.now)
