-- One more event is added, modulo 2^64.
use Rattle.std.proofs.Common.{ℕ, ◌≡◌, ◌<◌, ◌+◌, ◌%◌, ◌^◌, List, length, get_or, take, ap, sym, ◌∙◌}
use Rattle.std.proofs.Math.Nat.{mod-add-mod}
use Rattle.std.proofs.lemmas.List.{take_all}
use Rattle.std.proofs.lemmas.List.Sums.{sum_by_more}
use Rattle.std.specs.List.{sum_by}
use Rattle.frag_tree.specs.declared.event.Event.{Event}
use Rattle.pac_sample.specs.Summary.{written_by}
use Rattle.pac_sample.proofs.summary.written_sum.Goals as goal

added : (events : List Event) (i sum modulus : ℕ) (past : Event) → i < length events → sum ≡ sum_by written_by (take i events) % modulus → (sum + written_by (get_or events i past)) % modulus ≡ sum_by written_by (take (i + 1) events) % modulus
added events i sum modulus past within before =
    ap (λ so_far. (so_far + written_by (get_or events i past)) % modulus) before
    ∙ (mod-add-mod (sum_by written_by (take i events)) modulus (written_by (get_or events i past))
    ∙ ap (λ all. all % modulus) (sym (sum_by_more written_by events i past within)))

pub loop-event-preserved : goal.loop-event-preserved
loop-event-preserved c =
    ap (λ value. (c.loop-event.sum + value) % 2 ^ 64) c.written_by-value.ensures
    ∙ added c.args.events.now c.loop-event.event-index c.loop-event.sum (2 ^ 64) _ c.loop-event-test.true c.loop-event.invariant

pub returns : goal.returns
returns c =
    c.loop-event.invariant ∙ ap (λ events. sum_by written_by events % 2 ^ 64) (take_all c.loop-event.event-index c.args.events.now c.loop-event-test.false)
