use Rattle.std.proofs.Common.{◌∙◌, map, sym, arith}
use Rattle.std.proofs.lemmas.List.{length-map}
use Rattle.derive_sources.specs.Entries.{plain}
use Rattle.derive_sources.proofs.Seats.{as_many}
use Rattle.derive_sources.proofs.Told.{missing_here, none_missing}
use Rattle.derive_sources.proofs.finding.first_missing.Goals as goal

pub returns-then-is_missing : goal.returns-then-is_missing
returns-then-is_missing g c =
    missing_here g.all c.loop-number.number (omega (arith, c.loop-number-test.true, as_many g.all (map plain c.args.entries.now) c.requires.0, length-map c.args.entries.now plain)) (sym c.is_missing.ensures ∙ c.if-is_missing.true) c.loop-number.invariant

pub returns : goal.returns
returns g c =
    none_missing g.all c.loop-number.number (omega (arith, c.loop-number-test.false, as_many g.all (map plain c.args.entries.now) c.requires.0, length-map c.args.entries.now plain)) c.loop-number.invariant
