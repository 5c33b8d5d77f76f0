use Rattle.std.proofs.Common.{sym, ◌∙◌, ap}
use Rattle.std.proofs.lemmas.Bool.{true≢false}
use Rattle.need_order.specs.Needs.{needs}
use Rattle.need_order.specs.Ranks.{rises_to, rank_of}
use Rattle.need_order.proofs.Reaching.{needs-at, no_way_back}
use Rattle.need_order.proofs.circle.is_on_circle.Goals as goal

pub returns-then-not-rises_to : goal.returns-then-not-rises_to
returns-then-not-rises_to c = (
  λ e. absurd (true≢false (sym e)),
  λ on. absurd (no_way_back (needs c.args.elements.now) c.args.ranks.now (c.requires.ranks c.if-falling.true) c.args.number
      (ap (rises_to c.args.ranks.now (rank_of c.args.ranks.now c.args.number)) (needs-at c.args.elements.now c.args.number c.args.element.now c.requires.here)
      ∙ ap (λ r. rises_to c.args.ranks.now r (Rattle.need_order.specs.Needs.needs_of c.args.element.now)) (sym c.rank_of.ensures) ∙ sym c.if-not-rises_to.ensures)
      on.1),
)
