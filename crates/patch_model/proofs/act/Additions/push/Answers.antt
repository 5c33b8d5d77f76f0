use Rattle.std.proofs.Common.{[], ◌∷◌, ◌++◌, map, ap, sym, ◌∙◌}
use Rattle.std.proofs.lemmas.List.{map-append}
use Rattle.yaml_block.proofs.Answers.{on_err}
use Rattle.patch_model.specs.Acts.{addition_under}
use Rattle.patch_model.proofs.Adding.{additions_under-is, additions_under-roll}
use Rattle.patch_model.proofs.act.Additions.push.Goals as goal

pub returns-in_err-push-clause-memory : goal.returns-in_err-push-clause-memory
returns-in_err-push-clause-memory c =
    on_err c.from_residual.result (additions_under-roll _ ∙ ap (map addition_under) c.in_err-push.ensures.items ∙ sym (additions_under-is c.args.self.now))

pub returns-clause-ok : goal.returns-clause-ok
returns-clause-ok c =
    additions_under-roll _ ∙ ap (map addition_under) c.in_ok-push.ensures.items ∙ map-append addition_under _ (c.args.addition ∷ []) ∙ ap (λ before. before ++ addition_under c.args.addition ∷ []) (sym (additions_under-is c.args.self.now))
