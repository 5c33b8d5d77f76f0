-- One more byte, and none left.
use Rattle.std.proofs.Common.{arith}
use Rattle.pac_bus.specs.Stores.{memory_of}
use Rattle.pac_bus.proofs.Memories.{put_more, put_all}
use Rattle.pac_bus.proofs.store.Store.put_value.Goals as goal

pub loop-at-preserved : goal.loop-at-preserved
loop-at-preserved c = let l = c.loop-at in (omega (arith, c.loop-at-test.true), omega (arith, l.invariant.1, c.put.ensures.room), put_more (memory_of c.args.self.now) (memory_of l.self) (memory_of c.put.new.self) c.args.address l.at c.args.bytes c.args.value l.rest c.loop-at-test.true l.invariant.2 c.put.ensures.memory)

pub returns-clause-memory : goal.returns-clause-memory
returns-clause-memory c = let l = c.loop-at in put_all (memory_of c.args.self.now) (memory_of l.self) c.args.address l.at c.args.bytes c.args.value l.rest c.loop-at-test.false l.invariant.2
