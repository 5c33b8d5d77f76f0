-- Steps down to those so far.
use Rattle.std.proofs.Common.{◌≡◌, ◌++◌, map, take, Some}
use Rattle.derive_order.proofs.gone.add_steps.Given as goal

abbrev pub invariant-loop-number : goal.invariant-loop-number
invariant-loop-number l = l.todo.items ≡ l.fn.todo.items ++ map Some (take l.number-index l.numbers)
