use Rattle.std.proofs.Common.{refl, arith}
use Rattle.std.proofs.lemmas.List.{length-map}
use Rattle.derive_sources.specs.Entries.{plain}
use Rattle.derive_order.proofs.judging.judge.Goals as goal

pub within_limits-requires : goal.within_limits-requires
within_limits-requires g c = (
  record {
    some = omega (arith, c.requires.0, length-map c.args.entries.now plain);
    numbered = c.requires.1.0;
    found = c.requires.1.1.0;
    graph = c.in_ok-arranged.ensures.graph;
    ordered = c.in_ok-arranged.ensures.order;
    no_circle = c.in_ok-arranged.ensures.no_circle;
    children = refl;
  },
  c.requires.1.1.1,
)
