use Rattle.std.proofs.Common.{◌≡◌, sym, ap, length, subst, true, arith}
use Rattle.need_order.specs.Needs.{needs, among}
use Rattle.need_order.specs.Gathering.{Gathering}
use Rattle.need_order.proofs.Settling.{Sound, sound-none, swept_limit, swept_sound, swept_longer, swept_done, is_full}
use Rattle.need_order.proofs.settle.settle_all.Goals as goal

pub loop-round-init : goal.loop-round-init
loop-round-init c =
    let fits = ap (λ (g : Gathering). g.limit) c.in_ok-set.ensures in
    let begun = subst (Sound (needs c.args.elements.now) (length c.args.elements.now)) (sym (ap (λ (g : Gathering). g.items) c.in_ok-set.ensures)) (sound-none (needs c.args.elements.now) (length c.args.elements.now)) in
    record {
      limit = swept_limit (needs c.args.elements.now) (length c.args.elements.now) c.args.hint.now c.in_ok-set.set c.sweep.new.set c.in_ok-sweep.ensures fits;
      sound = swept_sound (needs c.args.elements.now) (length c.args.elements.now) c.args.hint.now c.in_ok-set.set c.sweep.new.set c.in_ok-sweep.ensures fits begun;
      many = omega arith;
    }

pub returns-then-len-before : goal.returns-then-len-before
returns-then-len-before c =
    swept_done (needs c.args.elements.now) (length c.args.elements.now) c.as_slice.result.now c.loop-round.set c.sweep-in-loop-round.new.set c.in_ok-sweep-2.ensures c.loop-round.invariant.limit c.loop-round.invariant.sound (omega arith)
    (λ e inside. subst (λ xs. among e xs ≡ true) (sym c.as_slice.ensures.value) (c.in_ok-all.ensures e inside))

pub loop-round-preserved : goal.loop-round-preserved
loop-round-preserved c =
    let longer = swept_longer (needs c.args.elements.now) (length c.args.elements.now) c.as_slice.result.now c.loop-round.set c.sweep-in-loop-round.new.set c.in_ok-sweep-2.ensures c.loop-round.invariant.limit in
    record {
      limit = swept_limit (needs c.args.elements.now) (length c.args.elements.now) c.as_slice.result.now c.loop-round.set c.sweep-in-loop-round.new.set c.in_ok-sweep-2.ensures c.loop-round.invariant.limit;
      sound = swept_sound (needs c.args.elements.now) (length c.args.elements.now) c.as_slice.result.now c.loop-round.set c.sweep-in-loop-round.new.set c.in_ok-sweep-2.ensures c.loop-round.invariant.limit c.loop-round.invariant.sound;
      many = omega arith;
    }

pub returns : goal.returns
returns c = is_full (needs c.args.elements.now) (length c.args.elements.now) c.loop-round.set.items c.loop-round.invariant.sound (omega arith)
