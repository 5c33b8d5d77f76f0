use Rattle.std.proofs.Common.{subst, sym}
use Rattle.block_form.specs.Numbers.{ArrayIsNumbered}
use Rattle.block_form.proofs.form.numbers.Goals as goal

pub returns-in-Some : goal.returns-in-Some
returns-in-Some c = record {
  named = c.bytes-name.ensures.form;
  offset = c.number.ensures;
  array = subst ArrayIsNumbered (sym c.in-Some.is) (c.number-in-Some.ensures, c.number-in-Some-2.ensures);
}
