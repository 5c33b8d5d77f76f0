use Rattle.std.proofs.Common.{ℕ, ap, sym, subst, Option, Some, ◌≡◌, option_map, ◌∙◌}
use Rattle.frag_tree.specs.Trees.{block_tree}
use Rattle.frag_rules.specs.Insides.{found_inside}
use Rattle.frag_sem.specs.CallPlaces.{admits, leads, through}
use Rattle.frag_index.specs.declared.place.Stand.{Stand}
use Rattle.frag_index.specs.declared.site.Inner.{Inner}
use Rattle.frag_index.specs.Sites.{AreNumbered, inner_tree}
use Rattle.frag_index.specs.Walks.{GoesOn}
use Rattle.frag_index.proofs.Walking.{no_module, not_admitted, passed, stuck}
use Rattle.frag_index.proofs.place.through.Goals as goal

pub returns-then-not-admits : goal.returns-then-not-admits
returns-then-not-admits c =
    λ sites fits.
    not_admitted sites (block_tree c.args.site.now.block.now) c.args.start c.args.step.now c.args.access.now (ap (λ (count : Option ℕ). admits count c.args.step.now.index) (sym (c.count_of.ensures sites fits)) ∙ (sym c.admits.ensures ∙ c.if-not-admits.true))

pub returns-in_err-unit : goal.returns-in_err-unit
returns-in_err-unit c =
    λ sites fits.
    let unit = block_tree c.args.site.now.block.now in
    subst (λ (found : Option Stand). GoesOn sites found (λ steps. through unit c.args.start c.args.step.now c.args.access.now (leads steps))) (sym c.from_residual.ensures)
    (no_module sites unit c.args.start c.args.step.now c.args.access.now (sym (fits.inside.units_are c.args.access.now.element) ∙ ap (option_map inner_tree) (sym c.in_err-unit.ensures)))

pub returns-in_err-start : goal.returns-in_err-start
returns-in_err-start c =
    λ sites fits.
    let unit = block_tree c.args.site.now.block.now in
    let found : found_inside c.args.site.now.within.units c.args.access.now.element ≡ Some c.in_ok-unit.unit.now = sym c.in_ok-unit.ensures in
    subst (λ (found : Option Stand). GoesOn sites found (λ steps. through unit c.args.start c.args.step.now c.args.access.now (leads steps))) (sym c.from_residual-in_err-start.ensures)
    (stuck sites unit c.args.start c.args.step.now c.args.access.now (inner_tree c.in_ok-unit.unit.now)
    (ap (λ (count : Option ℕ). admits count c.args.step.now.index) (sym (c.count_of.ensures sites fits)) ∙ (sym c.admits.ensures ∙ c.if-not-admits.false))
    (sym (fits.inside.units_are c.args.access.now.element) ∙ ap (option_map inner_tree) found)
    (c.in_err-start.ensures ∙ c.offset_of.ensures sites fits c.args.start))

pub returns : goal.returns
returns c =
    λ sites fits.
    let unit = block_tree c.args.site.now.block.now in
    let found : found_inside c.args.site.now.within.units c.args.access.now.element ≡ Some c.in_ok-unit.unit.now = sym c.in_ok-unit.ensures in
    passed sites unit c.args.start c.args.step.now c.args.access.now (record { start = c.in_ok-start.start; unit = c.in_ok-unit.unit })
    (ap (λ (count : Option ℕ). admits count c.args.step.now.index) (sym (c.count_of.ensures sites fits)) ∙ (sym c.admits.ensures ∙ c.if-not-admits.false))
    (sym (fits.inside.units_are c.args.access.now.element) ∙ ap (option_map inner_tree) found)
    (c.in_ok-start.ensures ∙ c.offset_of.ensures sites fits c.args.start)
    (subst (λ (o : Option Inner). AreNumbered sites o) found (fits.inside.numbered c.args.access.now.element))
