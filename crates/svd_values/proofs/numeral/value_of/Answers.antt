use Rattle.std.proofs.Common.{ap, sym, ◌∙◌}
use Rattle.svd_values.specs.Readers.{bounded}
use Rattle.svd_values.proofs.Reading.{no_digits, some_digits, digit_stops, digit_goes, digits_end, is_none, is_some}
use Rattle.svd_values.proofs.numeral.value_of.Goals as goal

pub returns-then-is_empty : goal.returns-then-is_empty
returns-then-is_empty c = no_digits c.args.digits c.args.text.now (is_none c.args.text.now (sym c.is_empty.ensures ∙ c.if-is_empty.true))

pub returns-in_err-value : goal.returns-in_err-value
returns-in_err-value c =
    c.from_residual.ensures ∙ (digit_stops c.args.digits c.loop-byte.value c.args.text.now c.loop-byte.byte-index c.loop-byte-test.true c.in_err-value.ensures
    ∙ (c.loop-byte.invariant.0 ∙ sym (ap bounded (some_digits c.args.digits c.args.text.now (is_some c.args.text.now (sym c.is_empty.ensures ∙ c.if-is_empty.false))))))

pub loop-byte-preserved : goal.loop-byte-preserved
loop-byte-preserved c = (
  ap bounded (digit_goes c.args.digits c.loop-byte.value c.in_ok-value.value c.args.text.now c.loop-byte.byte-index c.loop-byte-test.true c.in_ok-value.ensures.0 c.in_ok-value.ensures.1)
      ∙ c.loop-byte.invariant.0,
  c.in_ok-value.ensures.2,
)

pub returns : goal.returns
returns c =
    digits_end c.args.digits c.loop-byte.value c.args.text.now c.loop-byte.byte-index c.loop-byte-test.false c.loop-byte.invariant.1
    ∙ (c.loop-byte.invariant.0 ∙ sym (ap bounded (some_digits c.args.digits c.args.text.now (is_some c.args.text.now (sym c.is_empty.ensures ∙ c.if-is_empty.false)))))
