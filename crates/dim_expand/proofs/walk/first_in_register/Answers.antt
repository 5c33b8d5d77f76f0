-- A register is itself at fault, or its fields decide.
use Rattle.std.proofs.Common.{refl, sym, ◌∙◌}
use Rattle.dim_expand.proofs.Firsts.{found_as, found_itself, found_below, cause-says}
use Rattle.dim_expand.proofs.Stated.{register-dim}
use Rattle.svd_model.specs.Steps.{register}
use Rattle.svd_model.specs.Trees.{register_tree, register_places}
use Rattle.svd_rows.specs.Ranks.{stated}
use Rattle.dim_expand.proofs.walk.first_in_register.Goals as goal

pub returns-in-Some : goal.returns-in-Some
returns-in-Some c =
    found_itself register c.args.name.now (register_tree c.args.element.now) c.in-Some.cause c.itself.result
    (cause-says register c.args.name.now (stated (register_places c.args.element.now)) c.args.element.now.dim refl (register-dim c.args.element.now) ∙ sym c.dim_cause.ensures ∙ c.in-Some.is)
    c.itself.ensures.inner c.itself.ensures.cause

pub returns : goal.returns
returns c =
    found_as c.first_in_fields.result _ _
    (sym (found_below register c.args.name.now (register_tree c.args.element.now)
    (cause-says register c.args.name.now (stated (register_places c.args.element.now)) c.args.element.now.dim refl (register-dim c.args.element.now) ∙ sym c.dim_cause.ensures ∙ c.in_default.is)))
    c.first_in_fields.ensures
