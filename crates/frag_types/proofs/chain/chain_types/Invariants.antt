use Rattle.std.proofs.Common.{◌≡◌, length}
use Rattle.frag_sem.specs.ScriptTyping.{chain_types}
use Rattle.frag_sem.specs.TextSurface.{register_calls}
use Rattle.frag_types.specs.Telling.{names_of}
use Rattle.frag_types.proofs.chain.chain_types.Given as goal

abbrev pub invariant-loop-link : goal.invariant-loop-link
invariant-loop-link l = chain_types (names_of l.fn.names) (register_calls l.fn.unit) l.rest ≡ chain_types (names_of l.fn.names) (register_calls l.fn.unit) l.fn.chain

abbrev pub decreases-loop-link : goal.decreases-loop-link
decreases-loop-link l = length l.rest
