use Rattle.std.proofs.Common.{refl, sym, ap, ◌∙◌, subst, option_map}
use Rattle.std.specs.Borrow.{Bor}
use Rattle.frag_sem.specs.PlaceTyping.{inner_named}
use Rattle.frag_tree.specs.declared.block.Block.{Block}
use Rattle.frag_tree.specs.Trees.{ModuleTree, block_tree, one_block, one_register}
use Rattle.frag_index.specs.declared.site.Inner.{Inner}
use Rattle.frag_index.specs.declared.site.Site.{Site}
use Rattle.frag_index.specs.Sites.{IsNumbered, LeadsBehind, inner_tree}
use Rattle.frag_index.proofs.Stepping.{no-site, none-on-register, site-fits, site-of-block}
use Rattle.frag_index.proofs.index.Index.found_behind.Goals as goal

pub returns-in-Register : goal.returns-in-Register
returns-in-Register c =
    none-on-register c.args.self.now.tops.sites.items c.args.unit.now c.args.unit.now c.args.name.now (one_register c.in-Register.field-0) refl (ap inner_tree c.in-Register.is)

pub returns-in-Some : goal.returns-in-Some
returns-in-Some c =
    let sites = c.args.self.now.tops.sites.items in
    let is = sym (ap (option_map (λ (site : Bor Site). site.now)) c.in-Some.is) ∙ c.site_at.ensures in
    let stands = subst (λ (unit : Inner). IsNumbered sites unit) c.in-Block.is c.requires.numbered in
    let own = site-of-block sites c.in-Block.field-0.now c.in-Block.number c.in-Some.site.now stands is in
    subst (λ (tree : ModuleTree). LeadsBehind sites (inner_named tree c.args.name.now) c.behind.result) (ap (λ (unit : Block). one_block (block_tree unit)) own ∙ sym (ap inner_tree c.in-Block.is))
    (c.behind.ensures sites (site-fits sites c.in-Block.number c.in-Some.site.now c.requires.index.blocks.fit is))

pub returns-in-None : goal.returns-in-None
returns-in-None c =
    let sites = c.args.self.now.tops.sites.items in
    no-site sites c.in-Block.field-0.now c.in-Block.number (subst (λ (unit : Inner). IsNumbered sites unit) c.in-Block.is c.requires.numbered) (sym (ap (option_map (λ (site : Bor Site). site.now)) c.in-None.is) ∙ c.site_at.ensures)
