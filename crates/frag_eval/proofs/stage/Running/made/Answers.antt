use Rattle.std.proofs.Common.{subst}
use Rattle.frag_tree.specs.Trees.{crate_tree}
use Rattle.frag_eval.specs.Prefixes.{IsUnderWay}
use Rattle.frag_eval.specs.Runs.{UnderWay}
use Rattle.frag_eval.proofs.Coursing.{is_under_way}
use Rattle.frag_eval.proofs.stage.Running.made.Goals as goal

pub returns-clause-prefix : goal.returns-clause-prefix
returns-clause-prefix c = subst (λ (seen : UnderWay). IsUnderWay (crate_tree seen.krate) seen.script seen.events) c.self.view_is (is_under_way c.self.inside.course c.self.invariant)
