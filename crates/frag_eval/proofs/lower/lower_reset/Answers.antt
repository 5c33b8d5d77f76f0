use Rattle.std.proofs.Common.{ap, ◌++◌, ◌∷◌, [], ◌∙◌}
use Rattle.frag_eval.specs.declared.deed.Deed.TheVariants as deed
use Rattle.frag_eval.specs.declared.deed.Start.TheVariants as start
use Rattle.frag_eval.proofs.Growing.{reset_grows}
use Rattle.frag_eval.proofs.lower.lower_reset.Goals as goal

pub returns : goal.returns
returns c =
    reset_grows c.args.lowering.now c.push.new.self c.args.found c.args.line c.new.result c.target.result c.requires c.target.ensures
    (c.in_ok-push.ensures.items ∙ ap (λ word. c.args.lowering.now.deeds.items ++ deed.Write c.target.result (start.Word word) c.new.result ∷ []) c.reset.ensures) c.new.ensures.items
