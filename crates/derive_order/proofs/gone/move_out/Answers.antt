use Rattle.std.proofs.Common.{◌∙◌, ◌++◌, Some, ap, sym, append-nil, rules}
use Rattle.std.proofs.lemmas.Option.{slice_get-get_or}
use Rattle.derive_order.proofs.Moving.{moved, nothing_at, there_at, unmoved}
use Rattle.derive_order.proofs.gone.move_out.Goals as goal

pub returns-in_ok-append-in-Some-clause-taken : goal.returns-in_ok-append-in-Some-clause-taken
returns-in_ok-append-in-Some-clause-taken c =
    c.in_ok-append-in-Some.ensures.items
    ∙ ap (λ xs. c.args.taken.now.items ++ xs)
    (sym (there_at c.args.tops.now.items c.args.key c.in-Some.list.now (slice_get-get_or c.args.tops.now.items c.args.key c.in-Some.list.now c.in-Some.ensures.item.3.0 ∙ ap Some (sym c.in-Some.ensures.value))))

pub returns-in_ok-append-in-Some-clause-tops : goal.returns-in_ok-append-in-Some-clause-tops
returns-in_ok-append-in-Some-clause-tops c =
    moved c.args.tops.now.items c.args.key c.in-Some.list.now c.append.new.other
    (slice_get-get_or c.args.tops.now.items c.args.key c.in-Some.list.now c.in-Some.ensures.item.3.0 ∙ ap Some (sym c.in-Some.ensures.value))
    c.in_ok-append-in-Some.ensures.other_items

pub returns-in-None-clause-taken : goal.returns-in-None-clause-taken
returns-in-None-clause-taken c =
    sym (ap (λ xs. c.args.taken.now.items ++ xs) (nothing_at c.args.tops.now.items c.args.key (search rules)) ∙ append-nil c.args.taken.now.items)

pub returns-in-None-clause-tops : goal.returns-in-None-clause-tops
returns-in-None-clause-tops c = unmoved c.args.tops.now.items c.args.key (search rules)
