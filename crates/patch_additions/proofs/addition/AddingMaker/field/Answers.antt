use Rattle.std.proofs.Common.{subst}
use Rattle.patch_additions.proofs.Refused.{makes, refuses}
use Rattle.patch_additions.specs.Additions.{Builds}
use Rattle.patch_model.specs.Acts.{addition_under}
use Rattle.svd_model.specs.Steps.{field}
use Rattle.svd_model.specs.Trees.{field_tree}
use Rattle.patch_additions.proofs.addition.AddingMaker.field.Goals as goal

pub returns-in-Ok : goal.returns-in-Ok
returns-in-Ok c =
    let one = addition_under c.args.self.now.addition.now in
    makes c.args.self.now.line field one field_tree c.in-Ok.made (subst (Builds field_tree field one) c.in-Ok.is c.made_field.ensures)

pub returns-in-Err : goal.returns-in-Err
returns-in-Err c =
    let one = addition_under c.args.self.now.addition.now in
    refuses c.args.self.now.line field one c.in-Err.why c.refusal.result (subst (Builds field_tree field one) c.in-Err.is c.made_field.ensures) c.refusal.ensures
