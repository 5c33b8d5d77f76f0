use Rattle.std.proofs.Common.{sym, ap, ◌∙◌, refl}
use Rattle.frag_sem.specs.AddressEnds.{greater}
use Rattle.frag_rules.specs.Insides.{found_inside}
use Rattle.frag_rules.specs.Measures.{access_cut, accessors_cut, place_found}
use Rattle.frag_rules.specs.Naming.{named_in}
use Rattle.frag_rules.proofs.ByName.{none-left}
use Rattle.frag_rules.proofs.Measuring.{greater-none, later-more}
use Rattle.frag_rules.proofs.measure.accessors_end.Goals as goal

pub loop-first-preserved : goal.loop-first-preserved
unfolding accessors_cut
loop-first-preserved c =
    later-more (access_cut (named_in c.args.fields.now) (place_found c.args.layout.now) (found_inside c.args.inside.now)) (accessors_cut (named_in c.args.fields.now) (place_found c.args.layout.now) (found_inside c.args.inside.now))
    c.loop-first.greatest c.later-greatest.result c.loop-first.rest.now c.in-Some.others.now c.in-Some.first.now c.in-Some.ensures.cases.0 refl (c.later-greatest.ensures ∙ ap (greater c.loop-first.greatest) c.access_end.ensures)
    ∙ c.loop-first.invariant

pub returns : goal.returns
unfolding accessors_cut
returns c =
    greater-none c.loop-first.greatest
    ∙ (ap (λ left. greater c.loop-first.greatest (accessors_cut (named_in c.args.fields.now) (place_found c.args.layout.now) (found_inside c.args.inside.now) left)) (sym (none-left _ c.in_default.ensures.cases)) ∙ c.loop-first.invariant)
