use Rattle.std.proofs.Common.{[], ◌∷◌, ◌++◌, map, ap, sym, ◌∙◌}
use Rattle.std.proofs.lemmas.List.{map-append}
use Rattle.yaml_block.proofs.Answers.{on_err}
use Rattle.yaml_block.specs.Nodes.{entry_under}
use Rattle.yaml_block.proofs.Nodes.{entries_under-is, entries_under-roll}
use Rattle.yaml_block.proofs.node.Entries.push.Goals as goal

pub returns-in_err-push-clause-memory : goal.returns-in_err-push-clause-memory
returns-in_err-push-clause-memory c =
    on_err c.from_residual.result (entries_under-roll _ ∙ ap (map entry_under) c.in_err-push.ensures.items ∙ sym (entries_under-is c.args.self.now))

pub returns-clause-ok : goal.returns-clause-ok
returns-clause-ok c =
    entries_under-roll _ ∙ ap (map entry_under) c.in_ok-push.ensures.items ∙ map-append entry_under _ (c.args.entry ∷ []) ∙ ap (λ before. before ++ entry_under c.args.entry ∷ []) (sym (entries_under-is c.args.self.now))
