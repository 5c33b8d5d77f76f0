use Rattle.std.proofs.Common.{◌∙◌, ◌++◌, ◌∷◌, [], cond, get_or, nat_eq, ap, refl, arith}
use Rattle.derive_order.proofs.Moving.{with_step}
use Rattle.need_order.specs.Children.{items_at}
use Rattle.derive_order.proofs.gone.push_all.Goals as goal

pub loop-number-preserved : goal.loop-number-preserved
loop-number-preserved c = record {
  long = c.in_ok-push_at.ensures.long ∙ c.loop-number.invariant.long;
  tops = λ id inside.
      with_step c.args.keys.now c.args.numbers.now c.loop-number.number-index (get_or c.args.numbers.now c.loop-number.number-index 0) c.loop-number-test.true refl (items_at c.args.tops.now.items id) (items_at c.loop-number.tops.items id) (items_at c.push_at.new.tops.items id) id
      (c.loop-number.invariant.tops id inside)
      (c.in_ok-push_at.ensures.tops id (omega (arith, inside, c.loop-number.invariant.long)) ∙ ap (λ k. cond (nat_eq id k) (items_at c.loop-number.tops.items id ++ get_or c.args.numbers.now c.loop-number.number-index 0 ∷ []) (items_at c.loop-number.tops.items id)) c.key_of.ensures);
}
