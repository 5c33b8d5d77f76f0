use Rattle.std.proofs.Common.{map, sym, ap, ◌∙◌, subst}
use Rattle.patch_additions.proofs.MadeElements.{register-lacks, register-made, register-within}
use Rattle.patch_additions.proofs.Parts.{addition-fields, addition-keys}
use Rattle.patch_additions.proofs.Refused.{not-built}
use Rattle.patch_additions.specs.Additions.{IsUnmade, put_fields}
use Rattle.patch_model.specs.Acts.{added_of, addition_under}
use Rattle.patch_sem.specs.Additions.{first_missing}
use Rattle.patch_settings.specs.Setting.{IsSet, sets_rank}
use Rattle.svd_model.specs.Steps.{register, field}
use Rattle.svd_model.specs.Trees.{register_tree}
use Rattle.svd_rows.specs.Forest.{leaf}
use Rattle.svd_schema.specs.declared.container.Container.TheVariants as container
use Rattle.patch_additions.proofs.addition.made_register.Goals as goal

pub returns-then-not-branch : goal.returns-then-not-branch
returns-then-not-branch c =
    let keys = c.as_slice-keys.ensures ∙ sym (addition-keys c.args.addition.now) in
    let sets = sym (c.in_ok-sets_offset.ensures ∙ ap (sets_rank 6 container.Register) keys) in
    register-lacks (addition_under c.args.addition.now) (sets ∙ c.if-not-branch.true)

pub returns-in_err-fields : goal.returns-in_err-fields
returns-in_err-fields c =
    let one = addition_under c.args.addition.now in
    let why = c.in_err-fields.field-0.0 in
    let keys = c.as_slice-keys.ensures ∙ sym (addition-keys c.args.addition.now) in
    let sets = sym (c.in_ok-sets_offset.ensures ∙ ap (sets_rank 6 container.Register) keys) in
    let fields = ap (λ items. added_of (map addition_under items)) c.as_slice.ensures.value ∙ sym (addition-fields c.args.addition.now) in
    not-built register_tree register one why c.from_residual-in_err-fields.result c.from_residual-in_err-fields.ensures.1
    (subst (λ lack. IsUnmade lack why) (ap (first_missing field) fields ∙ sym (register-within one (sets ∙ c.if-not-branch.false))) c.in_err-fields.ensures)

pub returns : goal.returns
returns c =
    let one = addition_under c.args.addition.now in
    let old = c.bare_register-made.result in
    let made = c.set_register.new.register in
    let keys = c.as_slice-keys.ensures ∙ sym (addition-keys c.args.addition.now) in
    let sets = sym (c.in_ok-sets_offset.ensures ∙ ap (sets_rank 6 container.Register) keys) in
    let fields = ap (λ items. added_of (map addition_under items)) c.as_slice.ensures.value ∙ sym (addition-fields c.args.addition.now) in
    register-made one old made c.bare_register-made.ensures.keys
    (c.bare_register-made.ensures.below ∙ c.in_ok-fields.ensures.1 ∙ ap (λ all. put_fields all leaf) fields)
    (sym (ap (first_missing field) fields) ∙ c.in_ok-fields.ensures.0)
    (subst (λ texts. IsSet container.Register texts (register_tree old) (register_tree made)) keys c.in_ok-set_register.ensures)
    (sets ∙ c.if-not-branch.false)
