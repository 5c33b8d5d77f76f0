use Rattle.pac_io.proofs.WrittenUpTo.{first_written, kept}
use Rattle.pac_io.proofs.std_sink.write_some.Goals as goal

pub returns-in-Ok-eq0-clause-broken : goal.returns-in-Ok-eq0-clause-broken
returns-in-Ok-eq0-clause-broken g c = record {
  left = _;
  so_far = first_written c.in-Ok-eq0.field-0 _ _ _ (rw c.in-Ok-eq0.is at c.write.ensures.bytes);
}

pub returns-in-Err-2-clause-broken : goal.returns-in-Err-2-clause-broken
returns-in-Err-2-clause-broken g c = record { left = _; so_far = kept _ _ _ c.in-Err-2.ensures.bytes }
