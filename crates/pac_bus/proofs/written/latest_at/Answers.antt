-- One more entry.
use Rattle.pac_bus.proofs.Bytes.{latest_step}
use Rattle.pac_bus.proofs.written.latest_at.Goals as goal

pub loop-entry-preserved : goal.loop-entry-preserved
loop-entry-preserved c = latest_step c.args.written.now c.loop-entry.entry-index _ c.args.address c.loop-entry.byte c.byte_after-byte.result c.loop-entry-test.true c.loop-entry.invariant c.byte_after-byte.ensures
