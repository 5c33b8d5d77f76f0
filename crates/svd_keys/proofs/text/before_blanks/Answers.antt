use Rattle.std.proofs.Common.{arith, sym, ◌∙◌}
use Rattle.std.proofs.lemmas.List.{nil_from_length}
use Rattle.svd_keys.proofs.Trimming.{blanks_less, blanks_same, blanks_nothing}
use Rattle.svd_keys.proofs.text.before_blanks.Goals as goal

pub loop-rest-preserved : goal.loop-rest-preserved
loop-rest-preserved c = blanks_less c.loop-rest.rest.now (omega arith) (sym c.has.ensures ∙ c.if-not-has.false) ∙ c.loop-rest.invariant

pub returns-in_default : goal.returns-in_default
returns-in_default c = blanks_nothing c.loop-rest.rest.now (nil_from_length c.loop-rest.rest.now (omega arith)) ∙ c.loop-rest.invariant

pub returns-then-not-has : goal.returns-then-not-has
returns-then-not-has c = blanks_same c.loop-rest.rest.now (omega arith) (sym c.has.ensures ∙ c.if-not-has.true) ∙ c.loop-rest.invariant
