use Rattle.std.proofs.Common.{◌∙◌, ◌+◌, length, ap}
use Rattle.std.proofs.lemmas.List.{length_push}
use Rattle.derive_order.proofs.Moving.{none_more, none_new}
use Rattle.need_order.specs.Children.{items_at}
use Rattle.derive_order.proofs.gone.empty_lists.Goals as goal

pub loop-list-init : goal.loop-list-init
loop-list-init c = record {
  lists = none_new c.new-made.result.items c.new-made.ensures.items;
  long = ap (λ made. length made) c.new-made.ensures.items;
}

pub loop-list-preserved : goal.loop-list-preserved
loop-list-preserved c = record {
  lists = λ id. ap (λ made. items_at made id) c.in_ok-push.ensures.items ∙ none_more c.loop-list.made.items c.new.result c.new.ensures.items c.loop-list.invariant.lists id;
  long = ap (λ made. length made) c.in_ok-push.ensures.items ∙ length_push c.loop-list.made.items c.new.result ∙ ap (λ n. n + 1) c.loop-list.invariant.long;
}
