use Rattle.std.proofs.Common.{ap, ◌∙◌}
use Rattle.frag_tree.specs.Trees.{block_tree}
use Rattle.frag_rules.specs.Insides.{found_inside}
use Rattle.frag_rules.specs.Measures.{accessors_cut, place_found}
use Rattle.frag_rules.specs.Naming.{named_in}
use Rattle.frag_rules.proofs.Measuring.{own-measured}
use Rattle.frag_rules.proofs.measure.measure_laid.Goals as goal

pub returns : goal.returns
returns c has =
    own-measured (block_tree c.args.block.now) c.args.inside.now c.args.layout.now (named_in c.args.fields.now) c.round_up.result c.accessors_end.result has.laid c.round_up.ensures has.found
    (c.accessors_end.ensures ∙ ap (accessors_cut (named_in c.args.fields.now) (place_found c.args.layout.now) (found_inside c.args.inside.now)) c.accessors_of.ensures) has.knows
