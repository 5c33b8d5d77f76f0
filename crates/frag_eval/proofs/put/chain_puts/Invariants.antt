use Rattle.std.proofs.Common.{ℕ, List, ◌≡◌, length}
use Rattle.pac_base.specs.Widths.{bits_of}
use Rattle.frag_sem.specs.Meaning.{Bound, chain_written}
use Rattle.frag_sem.specs.TextMeaning.{text_acts}
use Rattle.frag_eval.specs.Deeds.{all_put}
use Rattle.frag_eval.specs.Lowering.{Knows, finds}
use Rattle.frag_eval.proofs.put.chain_puts.Given as goal

abbrev pub invariant-loop-link : goal.invariant-loop-link
invariant-loop-link l =
    (words : List ℕ) (bindings : List Bound) (word : ℕ) → Knows words (finds l.fn.names) bindings
    → chain_written (text_acts l.fn.unit) bindings (all_put (bits_of l.fn.unit.word) words word l.puts.items) l.rest ≡ chain_written (text_acts l.fn.unit) bindings word l.fn.chain

abbrev pub decreases-loop-link : goal.decreases-loop-link
decreases-loop-link l = length l.rest
