use Rattle.std.proofs.Common.{sym, ap, ◌∙◌, option_map}
use Rattle.std.specs.Borrow.{Bor}
use Rattle.frag_tree.specs.declared.access.Access.{Access}
use Rattle.frag_tree.specs.Trees.{block_tree}
use Rattle.frag_index.proofs.Stepping.{copied-now, named-behind, none-named}
use Rattle.frag_index.proofs.site.Site.behind.Goals as goal

pub returns-in-Some : goal.returns-in-Some
returns-in-Some c sites fits =
    named-behind sites (block_tree c.args.self.now.block.now) c.args.name.now c.in-Some.access.now.now c.through.result
    (sym (fits.accessors_are c.args.name.now) ∙ (sym (copied-now c.get.result _ c.get.ensures) ∙ ap (option_map (λ (access : Bor (Bor Access)). access.now.now)) c.in-Some.is)) (c.through.ensures sites fits)

pub returns-in-None : goal.returns-in-None
returns-in-None c sites fits =
    none-named sites (block_tree c.args.self.now.block.now) c.args.name.now
    (sym (fits.accessors_are c.args.name.now) ∙ (sym (copied-now c.get.result _ c.get.ensures) ∙ ap (option_map (λ (access : Bor (Bor Access)). access.now.now)) c.in-None.is))
