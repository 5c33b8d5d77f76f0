use Rattle.frag_rules.proofs.ByName.{finds-begin, finds-done, finds-more, none-left}
use Rattle.frag_rules.proofs.named.by_name.Goals as goal

pub loop-first-init : goal.loop-first-init
loop-first-init g c = finds-begin g.T.HasName.name_of c.new-named.result _ c.new-named.ensures

pub loop-first-preserved : goal.loop-first-preserved
loop-first-preserved g c =
    finds-more g.T.HasName.name_of c.loop-first.named c.keep.new.self c.in-Some.first c.own_name.result.now c.loop-first.rest.now c.in-Some.others.now c.args.items.now c.in-Some.ensures.cases.0 c.own_name.ensures c.in_ok-keep.ensures c.loop-first.invariant

pub returns : goal.returns
returns g c = finds-done g.T.HasName.name_of c.loop-first.named c.loop-first.rest.now c.args.items.now (none-left _ c.in_default.ensures.cases) c.loop-first.invariant
