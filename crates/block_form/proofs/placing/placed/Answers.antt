use Rattle.std.proofs.Common.{◌∙◌, ◌+◌, map, drop, sym, ap, subst, arith}
use Rattle.std.specs.List.{AllByRecursion}
use Rattle.block_form.specs.Children.{IsSound}
use Rattle.block_form.specs.Fields.{taken_from}
use Rattle.block_form.specs.Placings.{IsPart, IsWhole}
use Rattle.block_form.proofs.Advancing.{advance, few_more, first_part, from_here, none_left, whole}
use Rattle.block_form.proofs.Ordering.{all_ordered}
use Rattle.block_form.proofs.placing.placed.Goals as goal

pub loop-child-init : goal.loop-child-init
loop-child-init c = record {
  part = first_part (taken_from 0 (map (λ child. child.now) c.deref-child-items.result.now)) c.new.result c.new-2.result c.new.ensures c.new-2.ensures.empty;
  sound =
      subst (AllByRecursion IsSound) (sym (ap (map (λ child. child.now)) c.deref-child-items.ensures.value ∙ c.in_ok-order.ensures))
      (all_ordered IsSound (λ child. child.offset) c.args.children.now c.requires.sound);
  few = omega arith;
}

pub loop-child-preserved : goal.loop-child-preserved
loop-child-preserved c =
    let items = c.deref-child-items.result.now in
    let i = c.loop-child.child-index in
    let old = c.loop-child.placing in
    let new = c.take.new.self in
    let all = taken_from 0 (map (λ child. child.now) items) in
    let child = c.child-item.result.now in
    let others = map (λ child. child.now) (drop (i + 1) items) in
    let split = from_here items i c.child-item.result c.loop-child-test.true c.child-item.is in
    record {
      part =
          advance all others child old new c.in_ok-take.ensures
          (subst (λ rest. IsPart old (taken_from old.end rest) all) split c.loop-child.invariant.part);
      sound = (subst (AllByRecursion IsSound) split c.loop-child.invariant.sound).1;
      few = few_more i child old new c.in_ok-take.ensures c.loop-child.invariant.few;
    }

pub returns : goal.returns
returns c =
    let items = c.deref-child-items.result.now in
    let i = c.loop-child.child-index in
    let placing = c.loop-child.placing in
    let all = taken_from 0 (map (λ child. child.now) items) in
    let is = ap (map (λ child. child.now)) c.deref-child-items.ensures.value ∙ c.in_ok-order.ensures in
    subst (λ order. IsWhole placing (taken_from 0 order)) is
    (whole placing all
    (subst (λ rest. IsPart placing (taken_from placing.end rest) all) (none_left items i c.loop-child-test.false) c.loop-child.invariant.part))
