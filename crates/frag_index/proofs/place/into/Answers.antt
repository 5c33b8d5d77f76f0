use Rattle.std.proofs.Common.{ap, sym, subst, option_map, None, ◌∙◌}
use Rattle.std.specs.Borrow.{Bor}
use Rattle.frag_tree.specs.declared.block.Block.{Block}
use Rattle.frag_tree.specs.Trees.{ModuleTree, block_tree, one_block}
use Rattle.frag_index.specs.declared.site.Inner.{Inner}
use Rattle.frag_index.specs.declared.site.Site.{Site}
use Rattle.frag_index.specs.Sites.{IsNumbered, inner_tree}
use Rattle.frag_index.specs.Walks.{Goes}
use Rattle.frag_index.proofs.Stepping.{no-site, site-fits, site-of-block}
use Rattle.frag_index.proofs.Walking.{past_register}
use Rattle.frag_index.proofs.place.into.Goals as goal

pub returns-in-Register : goal.returns-in-Register
returns-in-Register c =
    subst (λ (tree : ModuleTree). Goes c.args.index.now.tops.sites.items None tree c.args.at.start c.args.step.now) (sym (ap inner_tree c.in-Register.is)) (past_register c.args.index.now.tops.sites.items c.in-Register.field-0 c.args.at.start c.args.step.now)

pub returns-in-Some : goal.returns-in-Some
returns-in-Some c =
    let sites = c.args.index.now.tops.sites.items in
    let is = sym (ap (option_map (λ (site : Bor Site). site.now)) c.in-Some.is) ∙ c.site_at.ensures in
    let stands = subst (λ (unit : Inner). IsNumbered sites unit) c.in-Block.is c.requires.numbered in
    let own = site-of-block sites c.in-Block.field-0.now c.in-Block.number c.in-Some.site.now stands is in
    subst (λ (tree : ModuleTree). Goes sites c.into_block.result tree c.args.at.start c.args.step.now) (ap (λ (unit : Block). one_block (block_tree unit)) own ∙ sym (ap inner_tree c.in-Block.is))
    (c.into_block.ensures sites (site-fits sites c.in-Block.number c.in-Some.site.now c.requires.index.blocks.fit is))

pub returns-in-None : goal.returns-in-None
returns-in-None c =
    let sites = c.args.index.now.tops.sites.items in
    no-site sites c.in-Block.field-0.now c.in-Block.number (subst (λ (unit : Inner). IsNumbered sites unit) c.in-Block.is c.requires.numbered) (sym (ap (option_map (λ (site : Bor Site). site.now)) c.in-None.is) ∙ c.site_at.ensures)
