-- The row from the declared register is that from its rows.
use Rattle.std.proofs.Common.{◌≡◌, ◌%◌, ◌^◌, List, map, sym, ap, ap₂, ◌∙◌, subst, bit_and}
use Rattle.std.specs.Prelude.{All}
use Rattle.pac_base.specs.Widths.{bits_of}
use Rattle.reg_table.specs.Fields.{field_part, field_row}
use Rattle.reg_table.specs.Listing.{FitsIn}
use Rattle.reg_table.specs.Masks.{is_by_one, is_by_zero, mask_of}
use Rattle.reg_table.specs.declared.row.FieldRow.{FieldRow}
use Rattle.reg_table.specs.declared.row.Row.{Row as TableRow}
use Rattle.svd_model.specs.Checking.{width_of, is_size}
use Rattle.svd_model.specs.Properties.{register_properties, size_at, reset_value_at, reset_mask_at}
use Rattle.reg_table.proofs.Gathering.{row-register, rows-fit, word-register}
use Rattle.reg_table.proofs.register.register_row.Goals as goal

pub one_mask-requires : goal.one_mask-requires
one_mask-requires c =
    subst (λ (fields : List FieldRow). All (FitsIn 64) fields) (sym (c.as_slice.ensures ∙ c.in_ok-fields.ensures))
    (rows-fit (width_of (size_at (register_properties c.args.register.now c.args.outer.now))) c.facts-facts.result.readable c.facts-facts.result.writable c.args.register.now.kind c.args.register.now.fields.entries c.requires.fields)

pub zero_mask-requires : goal.zero_mask-requires
zero_mask-requires c =
    subst (λ (fields : List FieldRow). All (FitsIn 64) fields) (sym (c.as_slice-2.ensures ∙ c.in_ok-fields.ensures))
    (rows-fit (width_of (size_at (register_properties c.args.register.now c.args.outer.now))) c.facts-facts.result.readable c.facts-facts.result.writable c.args.register.now.kind c.args.register.now.fields.entries c.requires.fields)

pub returns : goal.returns
returns c =
    let size = c.facts-facts.ensures.size in
    let value = reset_value_at (register_properties c.args.register.now c.args.outer.now) in
    let mask = reset_mask_at (register_properties c.args.register.now c.args.outer.now) in
    let width = c.width_of-width.ensures ∙ ap width_of size in
    let readable = c.facts-facts.ensures.readable in
    let writable = c.facts-facts.ensures.writable in
    let reset =
    word-register c.facts-facts.result.size value mask c.facts-facts.result.reset (ap is_size size ∙ c.requires.size) c.facts-facts.ensures.reset
    ∙ ap (λ n. bit_and (value % 2 ^ bits_of (width_of n)) (mask % 2 ^ bits_of (width_of n))) size in
    let fields = c.in_ok-fields.ensures ∙ ap₂ (λ r w. map (λ entry. field_row r w c.args.register.now.kind (field_part entry)) c.args.register.now.fields.entries) readable writable in
    let one = c.one_mask.ensures ∙ ap (mask_of is_by_one) (c.as_slice.ensures ∙ fields) in
    let zeros = c.zero_mask.ensures ∙ ap (mask_of is_by_zero) (c.as_slice-2.ensures ∙ fields) in
    let made : ◌≡◌ {A = TableRow} (record {
      path = c.args.path;
      address = c.args.address;
      width = c.width_of-width.result;
      readable = c.facts-facts.result.readable;
      writable = c.facts-facts.result.writable;
      reset = c.facts-facts.result.reset;
      one = c.one_mask.result;
      zero = c.zero_mask.result;
      fields = c.in_ok-fields.fields;
    }) _ = λ i. record {
      path = c.args.path;
      address = c.args.address;
      width = width i;
      readable = readable i;
      writable = writable i;
      reset = reset i;
      one = one i;
      zero = zeros i;
      fields = fields i;
    } in
    made ∙ sym (row-register c.args.register.now c.requires.distinct c.args.path c.args.address c.args.outer.now)
