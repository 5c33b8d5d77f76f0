-- One more element is told, and in the end all are.
use Rattle.std.proofs.Common.{ℕ, Bool, false, length, get_or, nat_lt, sum_by, length-set, ap, ◌∙◌, arith, List}
use Rattle.std.specs.List.{list_any}
use Rattle.need_order.specs.Below.{weigh}
use Rattle.need_order.specs.Children.{flag_weight}
use Rattle.need_order.proofs.Steps.{all_told, inside_at, some_flag, sum_next, weight_of_flag}
use Rattle.need_order.proofs.Sums.{told_more}
use Rattle.need_order.proofs.depth.deeper.Goals as goal

pub index_mut-requires : goal.index_mut-requires
index_mut-requires g c =
    let at = inside_at c.args.elements.now c.args.dropped.now g.children (length c.args.elements.now) c.args.order.now c.requires.0 c.requires.1 c.loop-number.number-index c.loop-number-test.true in
    omega (arith, at, c.loop-number.invariant.sums_long, c.loop-number.sums.ok.0)

pub index_mut-requires-in-loop-number : goal.index_mut-requires-in-loop-number
index_mut-requires-in-loop-number g c =
    let at = inside_at c.args.elements.now c.args.dropped.now g.children (length c.args.elements.now) c.args.order.now c.requires.0 c.requires.1 c.loop-number.number-index c.loop-number-test.true in
    omega (arith, at, c.loop-number.invariant.next_long, c.loop-number.next.ok.0)

pub loop-number-preserved : goal.loop-number-preserved
loop-number-preserved g c =
    let n = length c.args.elements.now in
    let order = c.args.order.now in
    let l = c.loop-number in
    let test : ℕ → Bool = λ d. get_or c.args.flags.now d false in
    let weight : ℕ → ℕ = λ d. flag_weight (get_or c.args.flags.now d false) in
    let at = inside_at c.args.elements.now c.args.dropped.now g.children n order c.requires.0 c.requires.1 l.number-index c.loop-number-test.true in
    let sum = sum_next c.args.elements.now c.args.dropped.now g.children n order c.requires.0 c.requires.1 weight c.in_ok-weights.weights.items l.sums.items c.as_slice.result.now c.as_slice-in-loop-number.result.now l.number-index c.in_ok-sum.sum c.loop-number-test.true
    (λ d p. ap (λ (ws : List ℕ). weigh ws d) c.in_ok-weights.ensures ∙ weight_of_flag c.args.flags.now d) l.invariant.sums c.as_slice.ensures.value c.as_slice-in-loop-number.ensures.value c.in_ok-sum.ensures in
    let flag = ap (nat_lt 0) sum ∙ some_flag test (g.children (get_or order l.number-index 0)) in
    record {
      sums_long = length-set l.sums.items (get_or order l.number-index 0) c.in_ok-sum.sum ∙ l.invariant.sums_long;
      next_long = length-set l.next.items (get_or order l.number-index 0) (nat_lt 0 c.in_ok-sum.sum) ∙ l.invariant.next_long;
      sums = told_more 0 (λ e. sum_by weight (g.children e)) order l.number-index l.sums.items c.in_ok-sum.sum c.loop-number-test.true (omega (arith, at, l.invariant.sums_long)) l.invariant.sums sum;
      next = told_more false (λ e. list_any test (g.children e)) order l.number-index l.next.items (nat_lt 0 c.in_ok-sum.sum) c.loop-number-test.true (omega (arith, at, l.invariant.next_long)) l.invariant.next flag;
    }

pub returns : goal.returns
returns g c = let l = c.loop-number in
    all_told c.args.elements.now c.args.dropped.now g.children (length c.args.elements.now) c.args.order.now c.requires.0 c.requires.1 false (λ e. list_any (λ d. get_or c.args.flags.now d false) (g.children e)) l.next.items l.number-index c.loop-number-test.false l.invariant.next_long l.invariant.next
