use Rattle.pac_io.proofs.WrittenUpTo.{went_on_to, broke_off_within}
use Rattle.pac_io.proofs.std_sink.write_whole.Goals as goal

pub returns-in_default-clause-broken : goal.returns-in_default-clause-broken
returns-in_default-clause-broken g c = broke_off_within c.writes.invariant c.in_default.ensures.broken

pub writes-preserved : goal.writes-preserved
writes-preserved g c = went_on_to _ c.writes.invariant c.in-Some.ensures.some
