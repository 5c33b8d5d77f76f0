use Rattle.std.proofs.Common.{map, sym, ap, ◌∙◌, subst}
use Rattle.patch_additions.proofs.MadeElements.{peripheral-lacks, peripheral-made, peripheral-within}
use Rattle.patch_additions.proofs.Parts.{addition-registers, addition-keys}
use Rattle.patch_additions.proofs.Refused.{not-built}
use Rattle.patch_additions.specs.Additions.{IsUnmade, put_registers}
use Rattle.patch_model.specs.Acts.{added_of, addition_under}
use Rattle.patch_sem.specs.Additions.{first_missing}
use Rattle.patch_settings.specs.Setting.{IsSet, sets_rank}
use Rattle.svd_model.specs.Steps.{peripheral, register}
use Rattle.svd_model.specs.Trees.{peripheral_tree}
use Rattle.svd_schema.specs.declared.container.Container.TheVariants as container
use Rattle.patch_additions.proofs.addition.made_peripheral.Goals as goal

pub returns-then-not-branch : goal.returns-then-not-branch
returns-then-not-branch c =
    let keys = c.as_slice-keys.ensures ∙ sym (addition-keys c.args.addition.now) in
    let sets = sym (c.in_ok-sets_base.ensures ∙ ap (sets_rank 5 container.Peripheral) keys) in
    peripheral-lacks (addition_under c.args.addition.now) (sets ∙ c.if-not-branch.true)

pub returns-in_err-registers : goal.returns-in_err-registers
returns-in_err-registers c =
    let one = addition_under c.args.addition.now in
    let why = c.in_err-registers.field-0.0 in
    let keys = c.as_slice-keys.ensures ∙ sym (addition-keys c.args.addition.now) in
    let sets = sym (c.in_ok-sets_base.ensures ∙ ap (sets_rank 5 container.Peripheral) keys) in
    let registers = ap (λ items. added_of (map addition_under items)) c.as_slice.ensures.value ∙ sym (addition-registers c.args.addition.now) in
    not-built peripheral_tree peripheral one why c.from_residual-in_err-registers.result c.from_residual-in_err-registers.ensures.1
    (subst (λ lack. IsUnmade lack why) (ap (first_missing register) registers ∙ sym (peripheral-within one (sets ∙ c.if-not-branch.false))) c.in_err-registers.ensures)

pub returns : goal.returns
returns c =
    let one = addition_under c.args.addition.now in
    let old = c.bare_peripheral-made.result in
    let made = c.set_peripheral.new.peripheral in
    let keys = c.as_slice-keys.ensures ∙ sym (addition-keys c.args.addition.now) in
    let sets = sym (c.in_ok-sets_base.ensures ∙ ap (sets_rank 5 container.Peripheral) keys) in
    let registers = ap (λ items. added_of (map addition_under items)) c.as_slice.ensures.value ∙ sym (addition-registers c.args.addition.now) in
    peripheral-made one old made c.bare_peripheral-made.ensures.keys
    (c.bare_peripheral-made.ensures.below ∙ c.in_ok-registers.ensures.1 ∙ ap put_registers registers)
    (sym (ap (first_missing register) registers) ∙ c.in_ok-registers.ensures.0)
    (subst (λ texts. IsSet container.Peripheral texts (peripheral_tree old) (peripheral_tree made)) keys c.in_ok-set_peripheral.ensures)
    (sets ∙ c.if-not-branch.false)
