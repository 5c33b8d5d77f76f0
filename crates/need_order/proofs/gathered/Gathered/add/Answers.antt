use Rattle.std.proofs.Common.{◌<◌, sym, ◌∙◌, set, true, subst, length, arith}
use Rattle.need_order.specs.Gathering.{FlagsTell}
use Rattle.need_order.proofs.Numbers.{flags_push}
use Rattle.std.proofs.lemmas.List.{get_or_read}
use Rattle.need_order.proofs.gathered.Gathered.add.Goals as goal

pub invariant_of-self-2 : goal.invariant_of-self-2
invariant_of-self-2 c =
    let inside : c.args.item < length c.self.inside.flags.items = omega (arith, c.len.ensures, c.if-item-len.false, c.self.inside.flags.ok.0) in
    subst (FlagsTell (set c.self.inside.flags.items c.args.item true)) (sym c.in_ok-push.ensures.items)
    (flags_push c.self.inside.flags.items c.self.inside.items.items c.args.item c.self.invariant inside
    (sym (c.self.invariant.told c.args.item) ∙ sym (get_or_read c.self.inside.flags.items c.args.item c.index.result.now inside c.index.ensures _) ∙ c.if-index.false))
