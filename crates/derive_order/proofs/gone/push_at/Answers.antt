use Rattle.std.proofs.Common.{◌∙◌, Some, ap, sym, rules}
use Rattle.std.proofs.lemmas.Option.{slice_get-get_or}
use Rattle.derive_order.proofs.Moving.{pushed, unpushed}
use Rattle.derive_order.proofs.gone.push_at.Goals as goal

pub returns-in_ok-push-in-Some-clause-tops : goal.returns-in_ok-push-in-Some-clause-tops
returns-in_ok-push-in-Some-clause-tops c = λ id inside.
    pushed c.args.tops.now.items c.args.key c.args.number c.in-Some.list.now _
    (slice_get-get_or c.args.tops.now.items c.args.key c.in-Some.list.now c.in-Some.ensures.item.3.0 ∙ ap Some (sym c.in-Some.ensures.value))
    c.in_ok-push-in-Some.ensures.items id

pub returns-in-None-clause-tops : goal.returns-in-None-clause-tops
returns-in-None-clause-tops c = λ id inside. unpushed c.args.tops.now.items c.args.key c.args.number (search rules) id inside
