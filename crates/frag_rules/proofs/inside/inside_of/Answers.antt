use Rattle.std.proofs.Common.{◌∙◌, refl, Option, Some, None, option_map, ◌≡◌}
use Rattle.frag_rules.specs.Insides.{found_inside, is_there}
use Rattle.frag_rules.proofs.ByName.{none-left}
use Rattle.frag_rules.proofs.Insides.{knows-begin, knows-done, knows-more}
use Rattle.frag_rules.proofs.inside.inside_of.Goals as goal

pub loop-first-init : goal.loop-first-init
loop-first-init c = knows-begin (λ known. known) is_there c.new-inside.result c.args.modules.now c.new-inside.ensures

pub loop-first-preserved : goal.loop-first-preserved
loop-first-preserved c =
    knows-more (λ known. known) is_there c.loop-first.inside c.keep.new.self c.loop-first.rest.now c.in-Some.others.now c.args.modules.now c.in-Some.first.now tt c.in-Some.ensures.cases.0 refl c.in_ok-keep.ensures c.loop-first.invariant

same : {T : Type 0} (o : Option T) → o ≡ option_map (λ known. known) o
same None = refl
same (Some x) = refl

pub returns : goal.returns
returns c element = same (found_inside c.loop-first.inside element) ∙ knows-done (λ known. known) is_there c.loop-first.inside c.loop-first.rest.now c.args.modules.now (none-left _ c.in_default.ensures.cases) c.loop-first.invariant element
