-- What is sorted, and stable, is the order.
use Rattle.std.proofs.Common.{◌∙◌, ap, map, rules}
use Rattle.std.proofs.lemmas.List.Sorted.{answers_always, IsNonDecreasingBy-from_sort_by_key}
use Rattle.patch_arrays.proofs.Ordering.{ordered_map, sorted_is}
use Rattle.patch_arrays.specs.Arranging.{offset_of}
use Rattle.patch_arrays.specs.Members.{under_key}
use Rattle.patch_arrays.proofs.checking.order.Goals as goal

pub returns : goal.returns
returns g c =
    let sorted = IsNonDecreasingBy-from_sort_by_key (λ entry. offset_of (under_key g.M.Member.seen entry)) _ c.in_ok-sort_by_key.ensures.sorted (λ a r q k. search rules) in
    let stable = c.in_ok-sort_by_key.ensures.stable (λ entry. offset_of (under_key g.M.Member.seen entry)) (answers_always _ _ _ (λ f a r g h. search rules)) in
    ap (map (under_key g.M.Member.seen)) (sorted_is (λ entry. offset_of (under_key g.M.Member.seen entry)) _ _ sorted stable)
    ∙ ordered_map (under_key g.M.Member.seen) offset_of c.args.members.now.items
