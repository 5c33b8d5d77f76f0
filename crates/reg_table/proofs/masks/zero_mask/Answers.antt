use Rattle.std.proofs.Common.{◌&&◌, cond, sym, ap, ap₂, ◌∙◌}
use Rattle.std.specs.Prelude.{bit_or}
use Rattle.reg_table.specs.Masks.{field_mask, is_by_zero}
use Rattle.reg_table.proofs.Masking.{mask_none, mask_more}
use Rattle.reg_table.proofs.masks.zero_mask.Goals as goal

pub loop-field-init : goal.loop-field-init
loop-field-init c = mask_none is_by_zero

pub loop-field-preserved : goal.loop-field-preserved
loop-field-preserved c =
    ap₂ bit_or c.loop-field.invariant (c.bits_of_field-mask.ensures ∙ ap (λ b. cond (c.field-item.result.writable && b) (field_mask c.field-item.result) 0) c.is_by_zero.ensures)
    ∙ sym (mask_more is_by_zero c.args.fields.now c.loop-field.field-index c.field-item.result c.loop-field-test.true c.field-item.is)
