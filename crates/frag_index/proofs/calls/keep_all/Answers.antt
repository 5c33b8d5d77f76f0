use Rattle.frag_rules.proofs.ByName.{none-left}
use Rattle.frag_rules.specs.Keys.{key_seen}
use Rattle.frag_index.proofs.Calling.{kept-all, kept-more, kept-none}
use Rattle.frag_index.proofs.calls.keep_all.Goals as goal

pub loop-first-init : goal.loop-first-init
loop-first-init g c = kept-none (key_seen c.args.on) g.T.HasName.name_of c.args.held.now c.args.calls.now

pub loop-first-preserved : goal.loop-first-preserved
loop-first-preserved g c =
    kept-more (key_seen c.args.on) g.T.HasName.name_of c.args.held.now c.loop-first.held c.keep.new.held c.loop-first.rest.now c.in-Some.others.now c.args.calls.now c.in-Some.first.now c.own_name-name.result.now c.in-Some.ensures.cases.0 c.own_name-name.ensures
    c.in_ok-keep.ensures c.loop-first.invariant

pub returns : goal.returns
returns g c = kept-all (key_seen c.args.on) g.T.HasName.name_of c.args.held.now c.loop-first.held c.loop-first.rest.now c.args.calls.now (none-left _ c.in_default.ensures.cases) c.loop-first.invariant
