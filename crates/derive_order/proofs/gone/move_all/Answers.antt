use Rattle.std.proofs.Common.{◌∙◌, ◌++◌, get_or, ap, refl, arith}
use Rattle.derive_order.specs.Gone.{without}
use Rattle.derive_order.proofs.Moving.{taken_end, taken_step, tops_step}
use Rattle.need_order.specs.Children.{items_at}
use Rattle.derive_order.proofs.gone.move_all.Goals as goal

pub loop-part-preserved : goal.loop-part-preserved
loop-part-preserved c = record {
  long = c.in_ok-move_out.ensures.long ∙ c.loop-part.invariant.long;
  tops = λ id.
      tops_step c.args.keys.now c.args.parts.now c.loop-part.part-index (get_or c.args.parts.now c.loop-part.part-index 0) c.loop-part-test.true refl (items_at c.args.tops.now.items) (items_at c.loop-part.tops.items) (items_at c.move_out.new.tops.items) c.loop-part.invariant.tops
      (λ i. c.in_ok-move_out.ensures.tops i ∙ ap (λ k. without k (items_at c.loop-part.tops.items) i) c.key_of.ensures) id;
  taken =
      taken_step c.args.keys.now c.args.parts.now c.loop-part.part-index (get_or c.args.parts.now c.loop-part.part-index 0) c.loop-part-test.true refl c.loop-part.taken.items c.move_out.new.taken.items _ (items_at c.loop-part.tops.items) (items_at c.move_out.new.tops.items) c.loop-part.invariant.taken
      (c.in_ok-move_out.ensures.taken ∙ ap (λ k. c.loop-part.taken.items ++ items_at c.loop-part.tops.items k) c.key_of.ensures)
      (λ i. c.in_ok-move_out.ensures.tops i ∙ ap (λ k. without k (items_at c.loop-part.tops.items) i) c.key_of.ensures);
}

pub returns-clause-taken : goal.returns-clause-taken
returns-clause-taken c = taken_end c.args.keys.now c.args.parts.now c.loop-part.part-index (omega (arith, c.loop-part-test.false)) c.loop-part.taken.items _ (items_at c.loop-part.tops.items) c.loop-part.invariant.taken
