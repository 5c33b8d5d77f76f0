use Rattle.std.proofs.Common.{◌-◌, ◌/◌, false, drop, sym, ap, ◌∙◌, arith}
use Rattle.std.proofs.Math.ListN.{length-set, drop_of_length-le}
use Rattle.std.specs.Fmt.{digits_onto}
use Rattle.pac_io.proofs.HexadecimalDigits.{onto_nothing, onto_first, onto_next, drop-set-before}
use Rattle.pac_io.proofs.numeral.write_hexadecimal.Goals as goal

pub loop-at-init : goal.loop-at-init
loop-at-init c = (
  omega arith,
  c.told-text,
  ap (digits_onto 64 16 false c.args.number) (drop_of_length-le c.args.text.now {i = 64} (omega (arith, c.told-text))) ∙ onto_nothing _,
)

pub loop-at-preserved : goal.loop-at-preserved
loop-at-preserved c =
    let l = c.loop-at in
    let kept = length-set l.text (l.at - 1) c.hexadecimal_digit.result ∙ l.invariant.1 in
    let written = ap (digits_onto (l.at - 1) 16 false (l.rest / 16)) (drop-set-before l.text l.at _ _ c.loop-at-test.true (omega arith) (c.hexadecimal_digit.ensures (omega arith))) in
    (omega arith, kept, written ∙ sym (onto_next l.rest (drop l.at l.text) l.at c.loop-at-test.true c.if-rest-eq0.false) ∙ l.invariant.2)

pub returns-then-rest-eq0 : goal.returns-then-rest-eq0
returns-then-rest-eq0 c =
    let l = c.loop-at in
    let written = drop-set-before l.text l.at _ _ c.loop-at-test.true (omega arith) (c.hexadecimal_digit.ensures (omega arith)) in
    record { within = omega arith; digits = written ∙ sym (onto_first l.rest (drop l.at l.text) l.at c.loop-at-test.true c.if-rest-eq0.true) ∙ l.invariant.2 }
