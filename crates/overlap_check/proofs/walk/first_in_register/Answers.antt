-- A register breaks the rule, or its fields decide.
use Rattle.std.proofs.Common.{Some, sym, ap, ◌∙◌}
use Rattle.overlap_check.specs.Walks.{fails}
use Rattle.overlap_check.proofs.Firsts.{found_as, found_here, found_below}
use Rattle.overlap_check.proofs.Stated.{entered-register}
use Rattle.svd_model.specs.Steps.{register}
use Rattle.svd_model.specs.Trees.{register_tree}
use Rattle.overlap_check.proofs.walk.first_in_register.Goals as goal

pub returns-then-fails_register : goal.returns-then-fails_register
unfolding fails
returns-then-fails_register c =
    ap Some c.new.ensures
    ∙ sym (found_here c.args.rule register c.args.outer.now c.enter-place.result (register_tree c.args.element.now) (entered-register c.args.element.now c.args.outer.now ∙ sym c.enter-place.ensures) (sym c.fails_register.ensures ∙ c.if-fails_register.true))

pub returns : goal.returns
unfolding fails
returns c =
    found_as c.first_in_fields.result _ _
    (sym (found_below c.args.rule register c.args.outer.now c.enter-place.result (register_tree c.args.element.now) (entered-register c.args.element.now c.args.outer.now ∙ sym c.enter-place.ensures) (sym c.fails_register.ensures ∙ c.if-fails_register.false)))
    c.first_in_fields.ensures
