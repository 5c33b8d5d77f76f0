use Rattle.std.proofs.Common.{[], ◌∷◌, ◌++◌, map, ap, sym, ◌∙◌}
use Rattle.std.proofs.lemmas.List.{map-append}
use Rattle.yaml_block.proofs.Answers.{on_err}
use Rattle.yaml_block.specs.Nodes.{item_under}
use Rattle.yaml_block.proofs.Nodes.{items_under-is, items_under-roll}
use Rattle.yaml_block.proofs.node.Items.push.Goals as goal

pub returns-in_err-push-clause-memory : goal.returns-in_err-push-clause-memory
returns-in_err-push-clause-memory c =
    on_err c.from_residual.result (items_under-roll _ ∙ ap (map item_under) c.in_err-push.ensures.items ∙ sym (items_under-is c.args.self.now))

pub returns-clause-ok : goal.returns-clause-ok
returns-clause-ok c =
    items_under-roll _ ∙ ap (map item_under) c.in_ok-push.ensures.items ∙ map-append item_under _ (c.args.item ∷ []) ∙ ap (λ before. before ++ item_under c.args.item ∷ []) (sym (items_under-is c.args.self.now))
