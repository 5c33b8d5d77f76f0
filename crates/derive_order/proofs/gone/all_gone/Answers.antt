use Rattle.std.proofs.Common.{arith}
use Rattle.derive_order.proofs.Meeting.{all_met, bases_within}
use Rattle.derive_order.proofs.Walks.{all_told}
use Rattle.derive_order.proofs.gone.all_gone.Goals as goal

pub walked-requires : goal.walked-requires
walked-requires g c = (c.requires.0, (c.requires.1.0, bases_within c.args.elements.now c.requires.1.1.0 c.requires.1.1.1))

pub returns : goal.returns
returns g c =
    let walk = c.in_ok-walked.field-0 in
    all_told c.args.elements.now c.args.keys.now g.children walk c.in_ok-walked.ensures.stands
    (λ e inside. all_met c.args.elements.now c.requires.1.1.0 c.requires.1.1.1 walk.done.items walk.current c.in_ok-walked.ensures.goes e (omega (arith, inside, c.in_ok-walked.ensures.stands.done_long)))
