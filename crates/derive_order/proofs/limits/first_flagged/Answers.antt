use Rattle.std.proofs.Common.{◌∙◌, false, get_or, map, sym, arith}
use Rattle.std.proofs.lemmas.List.{length-map}
use Rattle.derive_order.proofs.Told.{found_here, further, none_found}
use Rattle.derive_sources.specs.Entries.{plain}
use Rattle.derive_order.proofs.limits.first_flagged.Goals as goal

pub returns-then-is_flagged : goal.returns-then-is_flagged
returns-then-is_flagged c =
    found_here (λ d. get_or c.args.flags.now d false) (map plain c.args.entries.now) c.loop-number.number (omega (arith, c.loop-number-test.true, length-map c.args.entries.now plain)) c.loop-number.invariant (sym c.is_flagged.ensures ∙ c.if-is_flagged.true)

pub loop-number-preserved : goal.loop-number-preserved
loop-number-preserved c =
    further (λ d. get_or c.args.flags.now d false) (map plain c.args.entries.now) c.loop-number.number (omega (arith, c.loop-number-test.true, length-map c.args.entries.now plain)) c.loop-number.invariant (sym c.is_flagged.ensures ∙ c.if-is_flagged.false)

pub returns : goal.returns
returns c = none_found (λ d. get_or c.args.flags.now d false) (map plain c.args.entries.now) c.loop-number.number (omega (arith, c.loop-number-test.false, length-map c.args.entries.now plain)) c.loop-number.invariant
