use Rattle.std.proofs.Common.{Option, option_and_then, ap, ◌∙◌}
use Rattle.frag_tree.specs.declared.statement.Place.{Place}
use Rattle.frag_tree.specs.Trees.{crate_tree}
use Rattle.frag_sem.specs.CallPlaces.{register_at}
use Rattle.frag_eval.proofs.script.called_at.Goals as goal

pub returns-in-Some : goal.returns-in-Some
returns-in-Some c =
    c.register_at.ensures (c.requires.range c.in-Some.place.now) ∙ ap (λ (o : Option Place). option_and_then (register_at (crate_tree c.args.index.now.krate.now)) o) c.in-Some.ensures

pub returns-in-None : goal.returns-in-None
returns-in-None c = ap (λ (o : Option Place). option_and_then (register_at (crate_tree c.args.index.now.krate.now)) o) c.in-None.ensures
