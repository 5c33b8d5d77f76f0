use Rattle.std.proofs.Common.{◌≡◌, Option, Some, ap, length, option_map, subst}
use Rattle.std.specs.Prelude.{slice_get}
use Rattle.frag_tree.specs.Trees.{crate_tree}
use Rattle.frag_eval.specs.Prefixes.{Due, accesses_in, dues}
use Rattle.frag_eval.specs.Runs.{UnderWay}
use Rattle.frag_eval.proofs.Coursing.{first_due}
use Rattle.frag_eval.proofs.stage.Running.role.Goals as goal

pub returns : goal.returns
returns c =
    subst (λ (seen : UnderWay). option_map (λ due. due.role) (slice_get (dues (crate_tree seen.krate) seen.script) (length (accesses_in seen.events))) ≡ Some c.target.result.now.role) c.self.view_is
    (ap (λ (due : Option Due). option_map (λ one. one.role) due) (first_due c.self.inside.course c.target.result.now c.self.invariant c.target.ensures))
