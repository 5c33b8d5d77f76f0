use Rattle.std.proofs.lemmas.Grind.{common_steps}
use Rattle.std.proofs.Common.{rules, arith, ◌≡◌, ◌∙◌, map, ap}
use Rattle.std.proofs.lemmas.List.Sorted.{answers_always, IsNonDecreasingBy-from_sort_by_key}
use Rattle.block_form.specs.Order.{ordered_by}
use Rattle.block_form.proofs.Ordering.{ordered_map, sorted_is}
use Rattle.block_form.proofs.order.by_offset.Goals as goal

pub returns : goal.returns
returns c =
    let sorted = IsNonDecreasingBy-from_sort_by_key (λ child. child.now.offset) _ c.in_ok-sort_by_key.ensures.sorted (λ a r q k. search rules) in
    let stable = c.in_ok-sort_by_key.ensures.stable (λ child. child.now.offset) (answers_always _ _ _ (λ f a r g h. search rules)) in
    let all : map (λ child. child.now) c.loop-child.order.items ≡ c.args.children.now = grind (arith, common_steps) in
    ap (map (λ child. child.now)) (sorted_is (λ child. child.now.offset) _ _ sorted stable)
    ∙ (ordered_map (λ child. child.now) (λ child. child.offset) c.loop-child.order.items ∙ ap (ordered_by (λ child. child.offset)) all)
