use Rattle.std.proofs.Common.{◌≡◌, ◌∙◌, ap, map, drop, arith}
use Rattle.std.specs.List.{position_from}
use Rattle.derive_sources.specs.Entries.{plain}
use Rattle.derive_sources.specs.Numbers.{is_owned, first_owned}
use Rattle.derive_sources.proofs.index.indexed.Goals as goal

pub returns : goal.returns
unfolding first_owned
returns c = λ owner text.
    c.loop-number.invariant.held owner text
    ∙ ap (λ n. position_from (is_owned (map plain c.args.entries.now) c.args.sets owner text) n (drop n (map plain c.args.entries.now))) none
  where
    none : c.loop-number.number ≡ 0
    none = omega (arith, c.loop-number-test.false)
