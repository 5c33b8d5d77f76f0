use Rattle.std.proofs.Common.{◌≡◌, ◌+◌, sym, ap, subst, inl, inr, false, arith}
use Rattle.std.proofs.lemmas.Bool.{cases_eq, cases_lt}
use Rattle.need_order.specs.Needs.{needs}
use Rattle.need_order.specs.Ranks.{rises_to, rank_of}
use Rattle.need_order.proofs.Reaching.{needs-past, falls-here}
use Rattle.need_order.proofs.circle.is_falling.Goals as goal

pub loop-element-preserved : goal.loop-element-preserved
loop-element-preserved c = record {
  index = ap (λ i. i + 1) c.loop-element.invariant.index;
  falls = λ e h. elim (cases_eq e c.loop-element.number) [
    | inl same ↦ subst (λ i. rises_to c.args.ranks.now (rank_of c.args.ranks.now i + 1) (needs c.args.elements.now i) ≡ false) (sym same)
        (falls-here c.args.elements.now c.args.ranks.now c.loop-element.number c.loop-element.element-index c.element-item.result c.rank_of-rank.result c.loop-element.invariant.index c.loop-element-test.true c.element-item.is c.rank_of-rank.ensures (sym c.if-rises_to.ensures))
    | inr other ↦ c.loop-element.invariant.falls e (Rattle.need_order.proofs.Numbers.less_one e c.loop-element.number h other)
  ];
}

pub returns : goal.returns
returns c = λ _ e. elim (cases_lt e c.loop-element.number) [
  | inl p ↦ c.loop-element.invariant.falls e p
  | inr q ↦ ap (rises_to c.args.ranks.now (rank_of c.args.ranks.now e + 1)) (needs-past c.args.elements.now e (omega (arith, q, c.loop-element-test.false, c.loop-element.invariant.index)))
]
