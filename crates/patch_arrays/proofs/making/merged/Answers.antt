-- All members but the first.
use Rattle.std.proofs.Common.{ap, map, sym, ◌∙◌}
use Rattle.patch_arrays.proofs.Arranged.{no-items}
use Rattle.patch_arrays.specs.Makings.{behind}
use Rattle.patch_arrays.specs.Members.{under_key}
use Rattle.svd_model.specs.Counting.{elements_in, told_count}
use Rattle.svd_rows.specs.Elements.{count}
use Rattle.svd_rows.specs.Forest.{siblings}
use Rattle.patch_arrays.proofs.making.merged.Goals as goal

pub returns-in-None : goal.returns-in-None
unfolding count siblings
returns-in-None g c = ap (λ members. told_count (elements_in (siblings (behind (map (under_key g.M.Member.seen) members))))) (sym (no-items c.args.members.now c.in-None.ensures.cases))

pub returns-in-Some : goal.returns-in-Some
returns-in-Some g c = c.elements_of.ensures ∙ ap (λ members. told_count (elements_in (siblings (behind (map (under_key g.M.Member.seen) members))))) (sym c.in-Some.ensures.cases.0)
