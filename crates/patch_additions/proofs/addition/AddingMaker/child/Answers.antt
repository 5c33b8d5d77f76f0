use Rattle.std.proofs.Common.{Ok, sym, ap, ◌∙◌, subst}
use Rattle.patch_additions.proofs.Refused.{makes, refuses}
use Rattle.patch_additions.specs.Additions.{Builds}
use Rattle.patch_model.specs.Acts.{addition_under}
use Rattle.svd_model.proofs.Trees.{child_tree-register}
use Rattle.svd_model.specs.Steps.{register}
use Rattle.svd_model.specs.Trees.{register_tree}
use Rattle.patch_additions.proofs.addition.AddingMaker.child.Goals as goal

pub returns-in-Ok-clause-in_peripheral : goal.returns-in-Ok-clause-in_peripheral
returns-in-Ok-clause-in_peripheral c =
    let one = addition_under c.args.self.now.addition.now in
    makes c.args.self.now.line register one register_tree c.in-Ok.made (subst (Builds register_tree register one) c.in-Ok.is c.made_register.ensures) ∙ ap Ok (sym (child_tree-register c.in-Ok.made))

pub returns-in-Err-clause-in_peripheral : goal.returns-in-Err-clause-in_peripheral
returns-in-Err-clause-in_peripheral c =
    let one = addition_under c.args.self.now.addition.now in
    refuses c.args.self.now.line register one c.in-Err.why c.refusal.result (subst (Builds register_tree register one) c.in-Err.is c.made_register.ensures) c.refusal.ensures

pub returns-in-Ok-clause-in_cluster : goal.returns-in-Ok-clause-in_cluster
returns-in-Ok-clause-in_cluster c =
    let one = addition_under c.args.self.now.addition.now in
    makes c.args.self.now.line register one register_tree c.in-Ok.made (subst (Builds register_tree register one) c.in-Ok.is c.made_register.ensures) ∙ ap Ok (sym (child_tree-register c.in-Ok.made))

pub returns-in-Err-clause-in_cluster : goal.returns-in-Err-clause-in_cluster
returns-in-Err-clause-in_cluster c =
    let one = addition_under c.args.self.now.addition.now in
    refuses c.args.self.now.line register one c.in-Err.why c.refusal.result (subst (Builds register_tree register one) c.in-Err.is c.made_register.ensures) c.refusal.ensures
