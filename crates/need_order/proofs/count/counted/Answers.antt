-- One more element is counted, and in the end all are.
use Rattle.std.proofs.Common.{ℕ, ◌+◌, length, get_or, sum_by, length-set, ap, ap₂, ◌∙◌, arith}
use Rattle.need_order.specs.Children.{flag_weight, size, told}
use Rattle.need_order.specs.Needs.{needs}
use Rattle.need_order.proofs.Following.{order_length}
use Rattle.need_order.proofs.Steps.{all_told, follows, inside_at, sum_next}
use Rattle.need_order.proofs.Sums.{at_place, size_here, told_more}
use Rattle.need_order.proofs.count.counted.Goals as goal

pub index_mut-requires : goal.index_mut-requires
index_mut-requires g c =
    let at = inside_at c.args.elements.now c.args.dropped.now g.children (length c.args.elements.now) c.args.order.now c.requires.0 c.requires.1 c.loop-number.number-index c.loop-number-test.true in
    omega (arith, at, c.loop-number.invariant.sums_long, c.loop-number.sums.ok.0)

pub index_mut-requires-in-loop-number : goal.index_mut-requires-in-loop-number
index_mut-requires-in-loop-number g c =
    let at = inside_at c.args.elements.now c.args.dropped.now g.children (length c.args.elements.now) c.args.order.now c.requires.0 c.requires.1 c.loop-number.number-index c.loop-number-test.true in
    omega (arith, at, c.loop-number.invariant.counts_long, c.loop-number.counts.ok.0)

pub loop-number-preserved : goal.loop-number-preserved
loop-number-preserved g c =
    let n = length c.args.elements.now in
    let order = c.args.order.now in
    let l = c.loop-number in
    let weight : ℕ → ℕ = λ d. told (size c.args.flags.now g.children n d) in
    let at = inside_at c.args.elements.now c.args.dropped.now g.children n order c.requires.0 c.requires.1 l.number-index c.loop-number-test.true in
    let sum = sum_next c.args.elements.now c.args.dropped.now g.children n order c.requires.0 c.requires.1 weight l.counts.items l.sums.items c.as_slice.result.now c.as_slice-in-loop-number.result.now l.number-index c.in_ok-sum.sum c.loop-number-test.true l.invariant.counts l.invariant.sums c.as_slice.ensures.value c.as_slice-in-loop-number.ensures.value c.in_ok-sum.ensures in
    let count = c.count_with.ensures ∙ ap₂ (λ b s. told (flag_weight b + s)) c.flag_at.ensures sum ∙ size_here c.args.flags.now g.children n order (get_or order l.number-index 0) (follows c.args.elements.now c.args.dropped.now g.children n order c.requires.0 c.requires.1) (order_length (needs c.args.elements.now) n order c.requires.1) (at_place order l.number-index c.loop-number-test.true) in
    record {
      sums_long = length-set l.sums.items (get_or order l.number-index 0) c.in_ok-sum.sum ∙ l.invariant.sums_long;
      counts_long = length-set l.counts.items (get_or order l.number-index 0) c.count_with.result ∙ l.invariant.counts_long;
      sums = told_more 0 (λ e. sum_by weight (g.children e)) order l.number-index l.sums.items c.in_ok-sum.sum c.loop-number-test.true (omega (arith, at, l.invariant.sums_long)) l.invariant.sums sum;
      counts = told_more 0 weight order l.number-index l.counts.items c.count_with.result c.loop-number-test.true (omega (arith, at, l.invariant.counts_long)) l.invariant.counts count;
    }

pub returns : goal.returns
returns g c = let n = length c.args.elements.now in let l = c.loop-number in
    all_told c.args.elements.now c.args.dropped.now g.children n c.args.order.now c.requires.0 c.requires.1 0 (λ e. told (size c.args.flags.now g.children n e)) l.counts.items l.number-index c.loop-number-test.false l.invariant.counts_long l.invariant.counts
