use Rattle.std.proofs.Common.{length}
use Rattle.frag_sem.specs.ProxyTypes.{number_calls}
use Rattle.frag_tree.specs.declared.register.NumberCall.{NumberCall}
use Rattle.frag_index.proofs.Calling.{TakenSoFar}
use Rattle.frag_index.proofs.calls.numbers_in.Given as goal

abbrev pub invariant-loop-first : goal.invariant-loop-first
invariant-loop-first l = TakenSoFar (λ (call : NumberCall). call.name) number_calls l.held l.rest l.fn.values

abbrev pub decreases-loop-first : goal.decreases-loop-first
decreases-loop-first l = length l.rest
