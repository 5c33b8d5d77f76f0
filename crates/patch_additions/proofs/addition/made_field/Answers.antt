use Rattle.std.proofs.Common.{sym, ◌∙◌, subst}
use Rattle.patch_additions.proofs.MadeElements.{field-lacks, field-made}
use Rattle.patch_additions.proofs.Parts.{addition-keys}
use Rattle.patch_model.specs.Acts.{addition_under}
use Rattle.patch_settings.specs.Setting.{IsSet}
use Rattle.svd_model.specs.Trees.{field_tree}
use Rattle.svd_schema.specs.declared.container.Container.TheVariants as container
use Rattle.patch_additions.proofs.addition.made_field.Goals as goal

pub returns-then-not-is_placed : goal.returns-then-not-is_placed
returns-then-not-is_placed c =
    let old = c.bare_field-made.result in
    let made = c.set_field.new.field in
    let keys = c.as_slice.ensures ∙ sym (addition-keys c.args.addition.now) in
    field-lacks (addition_under c.args.addition.now) old made c.bare_field-made.ensures.keys c.bare_field-made.ensures.below
    (subst (λ texts. IsSet container.Field texts (field_tree old) (field_tree made)) keys c.in_ok-set_field.ensures)
    (sym c.is_placed.ensures ∙ c.if-not-is_placed.true)

pub returns : goal.returns
returns c =
    let old = c.bare_field-made.result in
    let made = c.set_field.new.field in
    let keys = c.as_slice.ensures ∙ sym (addition-keys c.args.addition.now) in
    field-made (addition_under c.args.addition.now) old made c.bare_field-made.ensures.keys c.bare_field-made.ensures.below
    (subst (λ texts. IsSet container.Field texts (field_tree old) (field_tree made)) keys c.in_ok-set_field.ensures)
    (sym c.is_placed.ensures ∙ c.if-not-is_placed.false)
