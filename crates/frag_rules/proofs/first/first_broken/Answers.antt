use Rattle.std.proofs.Common.{ap, ap₂, ◌∙◌, map}
use Rattle.frag_sem.specs.CrateTyping.{first_failed}
use Rattle.frag_tree.specs.Trees.{crate_tree}
use Rattle.frag_rules.specs.Rules.{tested}
use Rattle.frag_rules.proofs.Firsts.{all-tests}
use Rattle.frag_rules.proofs.Insides.{if_ok}
use Rattle.frag_rules.proofs.first.first_broken.Goals as goal

pub returns : goal.returns
returns c =
    if_ok c.first_of.result _ _
    (λ found is. is ∙ (ap₂ (λ laid rules. first_failed (map (tested laid) rules)) c.in_ok-parts.ensures c.all_rules.ensures ∙ ap first_failed (all-tests (crate_tree c.args.krate.now))))
    c.first_of.ensures
