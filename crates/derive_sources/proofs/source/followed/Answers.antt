use Rattle.std.proofs.Common.{◌+◌, ◌∙◌, map, drop, option_map, option_and_then, sym, ap, arith}
use Rattle.std.proofs.lemmas.List.{length-map}
use Rattle.derive_sources.specs.Entries.{plain}
use Rattle.derive_sources.specs.Numbers.{path_at, first_owned}
use Rattle.derive_sources.proofs.Seats.{step_on, owned_inside}
use Rattle.derived_rows.specs.Sources.{followed}
use Rattle.svd_model.proofs.Lists.{from_place, drop_past}
use Rattle.derive_sources.proofs.source.followed.Goals as goal

pub returns-in-None-clause-found : goal.returns-in-None-clause-found
returns-in-None-clause-found g c =
    let found = c.get.ensures ∙ c.requires.1.0 c.loop-name.at c.bytes.result.now ∙ ap (first_owned (map plain c.args.entries.now) _ c.loop-name.at) c.bytes.ensures.same in
    sym (ap (λ o. option_and_then (followed g.all (drop (c.loop-name.name-index + 1) c.args.names.now)) (option_map (path_at g.all) o)) c.in-None.is)
    ∙ sym (step_on g.all (map plain c.args.entries.now) c.requires.0 c.loop-name.at (omega (arith, c.loop-name.invariant.inside, length-map c.args.entries.now plain)) c.name-item.result (drop (c.loop-name.name-index + 1) c.args.names.now) c.get.result found)
    ∙ sym (ap (λ names. followed g.all names (path_at g.all c.loop-name.at)) (from_place c.args.names.now c.loop-name.name-index c.name-item.result c.loop-name-test.true c.name-item.is))
    ∙ c.loop-name.invariant.leads

pub loop-name-preserved : goal.loop-name-preserved
loop-name-preserved g c =
    let found = c.get.ensures ∙ c.requires.1.0 c.loop-name.at c.bytes.result.now ∙ ap (first_owned (map plain c.args.entries.now) _ c.loop-name.at) c.bytes.ensures.same in
    let below = owned_inside g.all (map plain c.args.entries.now) c.requires.0 _ c.loop-name.at c.name-item.result.name c.in-Some.next (sym found ∙ c.in-Some.is) in
    record {
      inside = omega (arith, below, length-map c.args.entries.now plain);
      leads =
          sym (ap (λ o. option_and_then (followed g.all (drop (c.loop-name.name-index + 1) c.args.names.now)) (option_map (path_at g.all) o)) c.in-Some.is)
          ∙ sym (step_on g.all (map plain c.args.entries.now) c.requires.0 c.loop-name.at (omega (arith, c.loop-name.invariant.inside, length-map c.args.entries.now plain)) c.name-item.result (drop (c.loop-name.name-index + 1) c.args.names.now) c.get.result found)
          ∙ sym (ap (λ names. followed g.all names (path_at g.all c.loop-name.at)) (from_place c.args.names.now c.loop-name.name-index c.name-item.result c.loop-name-test.true c.name-item.is))
          ∙ c.loop-name.invariant.leads;
    }

pub returns-clause-found : goal.returns-clause-found
unfolding followed
returns-clause-found g c =
    sym (ap (λ names. followed g.all names (path_at g.all c.loop-name.at)) (drop_past c.args.names.now c.loop-name.name-index c.loop-name-test.false))
    ∙ c.loop-name.invariant.leads
