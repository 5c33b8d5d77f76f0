-- One more byte.
use Rattle.std.proofs.Common.{rules, arith, ◌-◌}
use Rattle.pac_bus.specs.Stores.{memory_of}
use Rattle.pac_bus.proofs.Memories.{value_more, below_more, few_bytes}
use Rattle.pac_bus.proofs.store.Store.value.Goals as goal

pub overflow_mul-value : goal.overflow_mul-value
overflow_mul-value c = let l = c.loop-at in let count = c.args.bytes - (l.at - 1) in
    omega (arith, below_more (c.args.bytes - l.at) count l.value 0 (omega (arith, c.loop-at-test.true)) l.invariant.2 (omega arith), few_bytes count (omega (arith, c.requires.few)))

pub overflow_add-value : goal.overflow_add-value
overflow_add-value c = let l = c.loop-at in let count = c.args.bytes - (l.at - 1) in
    omega (arith, below_more (c.args.bytes - l.at) count l.value c.from.result (omega (arith, c.loop-at-test.true)) l.invariant.2 (search rules), few_bytes count (omega (arith, c.requires.few)))

pub loop-at-preserved : goal.loop-at-preserved
loop-at-preserved c = let l = c.loop-at in (omega arith, value_more (memory_of c.args.self.now) c.args.address l.at c.args.bytes l.value c.from.result c.loop-at-test.true l.invariant.0 l.invariant.1 (search rules), below_more (c.args.bytes - l.at) _ l.value c.from.result (omega (arith, c.loop-at-test.true)) l.invariant.2 (search rules))
