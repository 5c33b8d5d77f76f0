use Rattle.std.proofs.Common.{ap, sym, option_map, ◌∙◌}
use Rattle.std.specs.Borrow.{Bor}
use Rattle.frag_tree.specs.declared.access.Access.{Access}
use Rattle.frag_tree.specs.Trees.{block_tree}
use Rattle.frag_rules.specs.Naming.{named_in}
use Rattle.frag_index.proofs.Stepping.{copied-now}
use Rattle.frag_index.proofs.Walking.{goes_nowhere, goes_through}
use Rattle.frag_index.proofs.place.into_block.Goals as goal

pub returns-in-Some : goal.returns-in-Some
returns-in-Some c =
    λ sites fits.
    goes_through sites c.through.result (block_tree c.args.site.now.block.now) c.args.start c.args.step.now c.in-Some.access.now.now
    (sym (fits.accessors_are c.args.step.now.name) ∙ (ap (named_in c.args.site.now.accessors) (sym c.bytes.ensures.same) ∙ (sym (copied-now c.get.result _ c.get.ensures) ∙ ap (option_map (λ (access : Bor (Bor Access)). access.now.now)) c.in-Some.is)))
    (c.through.ensures sites fits)

pub returns-in-None : goal.returns-in-None
returns-in-None c =
    λ sites fits.
    goes_nowhere sites (block_tree c.args.site.now.block.now) c.args.start c.args.step.now
    (sym (fits.accessors_are c.args.step.now.name) ∙ (ap (named_in c.args.site.now.accessors) (sym c.bytes.ensures.same) ∙ (sym (copied-now c.get.result _ c.get.ensures) ∙ ap (option_map (λ (access : Bor (Bor Access)). access.now.now)) c.in-None.is)))
