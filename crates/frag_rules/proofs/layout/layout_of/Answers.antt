use Rattle.std.proofs.Common.{refl}
use Rattle.frag_rules.specs.Insides.{found_inside}
use Rattle.frag_rules.specs.Measures.{type_found}
use Rattle.frag_rules.proofs.ByName.{none-left}
use Rattle.frag_rules.proofs.Measuring.{laid-begin, laid-done, laid-more}
use Rattle.frag_rules.proofs.layout.layout_of.Goals as goal

pub loop-first-init : goal.loop-first-init
loop-first-init c = laid-begin (type_found (found_inside c.args.inside.now)) c.args.fields.now _ refl refl c.new.ensures

pub loop-first-preserved : goal.loop-first-preserved
loop-first-preserved c =
    laid-more (type_found (found_inside c.args.inside.now)) c.args.fields.now c.loop-first.rest.now c.in-Some.others.now c.in-Some.first.now c.loop-first.layout c.place.new.self c.in-Some.ensures.cases.0
    c.in_ok-place.ensures.end c.in_ok-place.ensures.align c.in_ok-place.ensures.places c.loop-first.invariant

pub returns : goal.returns
returns c = laid-done (type_found (found_inside c.args.inside.now)) c.args.fields.now c.loop-first.rest.now c.loop-first.layout (none-left _ c.in_default.ensures.cases) c.loop-first.invariant
