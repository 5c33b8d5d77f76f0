use Rattle.std.proofs.Common.{◌+◌, sym, ◌∙◌, ap, length, subst, arith}
use Rattle.need_order.specs.Needs.{needs}
use Rattle.need_order.specs.Gathering.{Gathering, with_items}
use Rattle.need_order.proofs.Reaching.{Searched, search_begun, search_more, search_done, adds_limit, adds_items, past_end}
use Rattle.need_order.proofs.Numbers.{length_within}
use Rattle.need_order.proofs.reach.reaches.Goals as goal

pub loop-place-init : goal.loop-place-init
loop-place-init c =
    let fits = ap (λ (g : Gathering). g.limit) c.in_ok-set.ensures in
    record {
      limit = adds_limit (length c.args.elements.now) (needs c.args.elements.now c.args.from) c.in_ok-set.set c.add_needs.new.set c.in_ok-add_needs.ensures fits;
      searched = subst (Searched (length c.args.elements.now) (needs c.args.elements.now) c.args.from 0)
          (sym (adds_items (length c.args.elements.now) (needs c.args.elements.now c.args.from) c.in_ok-set.set c.add_needs.new.set c.in_ok-add_needs.ensures fits
          ∙ ap (λ (g : Gathering). with_items (length c.args.elements.now) (needs c.args.elements.now c.args.from) g.items) c.in_ok-set.ensures))
          (search_begun (length c.args.elements.now) (needs c.args.elements.now) c.args.from c.requires);
    }

pub returns-in-None : goal.returns-in-None
returns-in-None c =
    search_done (length c.args.elements.now) (needs c.args.elements.now) c.args.from c.loop-place.place c.args.to c.loop-place.set.items c.has.result c.loop-place.invariant.searched (past_end c.loop-place.set.items c.loop-place.place (sym c.in-None.ensures)) c.has.ensures

pub loop-place-preserved : goal.loop-place-preserved
loop-place-preserved c = record {
  limit = adds_limit (length c.args.elements.now) (needs c.args.elements.now c.in-Some.number.now) c.loop-place.set c.add_needs-in-loop-place.new.set c.in_ok-add_needs-2.ensures c.loop-place.invariant.limit;
  searched = subst (Searched (length c.args.elements.now) (needs c.args.elements.now) c.args.from (c.loop-place.place + 1))
      (sym (adds_items (length c.args.elements.now) (needs c.args.elements.now c.in-Some.number.now) c.loop-place.set c.add_needs-in-loop-place.new.set c.in_ok-add_needs-2.ensures c.loop-place.invariant.limit))
      (search_more (length c.args.elements.now) (needs c.args.elements.now) c.args.from c.loop-place.place c.in-Some.number.now c.loop-place.set.items c.requires c.loop-place.invariant.searched (sym c.in-Some.ensures));
}

pub returns : goal.returns
returns c =
    let few = length_within c.set-2.inside.flags.items c.set-2.inside.items.items c.set-2.invariant in
    let items = ap (λ (g : Gathering). length g.items) c.set-2.view_is in
    let limit = ap (λ (g : Gathering). g.limit) c.set-2.view_is in
    search_done (length c.args.elements.now) (needs c.args.elements.now) c.args.from c.loop-place.place c.args.to c.loop-place.set.items c.has-2.result c.loop-place.invariant.searched
    (omega (arith, few, items, limit, c.loop-place.invariant.limit, c.loop-place-test.false)) c.has-2.ensures
