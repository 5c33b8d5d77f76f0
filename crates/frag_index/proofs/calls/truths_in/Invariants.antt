use Rattle.std.proofs.Common.{length}
use Rattle.frag_sem.specs.ProxyTypes.{truth_calls}
use Rattle.frag_tree.specs.declared.register.TruthCall.{TruthCall}
use Rattle.frag_index.proofs.Calling.{TakenSoFar}
use Rattle.frag_index.proofs.calls.truths_in.Given as goal

abbrev pub invariant-loop-first : goal.invariant-loop-first
invariant-loop-first l = TakenSoFar (λ (call : TruthCall). call.name) truth_calls l.held l.rest l.fn.values

abbrev pub decreases-loop-first : goal.decreases-loop-first
decreases-loop-first l = length l.rest
