-- The row from the declared field is that from its rows.
use Rattle.std.proofs.Common.{◌≡◌, map, sym, ◌∙◌, ap₂}
use Rattle.reg_table.specs.Calls.{plain_set, set_calls_of, serves_reading, serves_writing}
use Rattle.reg_table.specs.declared.row.FieldRow.{FieldRow}
use Rattle.reg_table.proofs.Parts.{row-field}
use Rattle.svd_values.specs.AccessorNames.{is_call_name, variant_call_name}
use Rattle.reg_table.proofs.fields.field_row.Goals as goal

pub returns : goal.returns
returns c =
    let name = c.in_ok-accessor.ensures in
    let offset = c.bits_of_place-offset.ensures.offset in
    let width = c.bits_of_place-offset.ensures.width in
    let readable = c.facts-facts.ensures.readable in
    let writable = c.facts-facts.ensures.writable in
    let kind = c.facts-facts.ensures.kind in
    let is_calls = c.in_ok-calls_of_sets.ensures ∙ ap₂ (λ n sets. set_calls_of serves_reading is_call_name n (map plain_set sets)) width c.as_slice.ensures.value in
    let set_calls = c.in_ok-calls_of_sets-2.ensures ∙ ap₂ (λ n sets. set_calls_of serves_writing variant_call_name n (map plain_set sets)) width c.as_slice-2.ensures.value in
    let made : ◌≡◌ {A = FieldRow} (record {
      name = c.in_ok-accessor.field-0;
      offset = c.bits_of_place-offset.result.0;
      width = c.bits_of_place-offset.result.1;
      dim = c.field_dim.result;
      readable = c.facts-facts.result.readable;
      writable = c.facts-facts.result.writable;
      kind = c.facts-facts.result.kind;
      is_calls = c.in_ok-calls_of_sets.field-0;
      set_calls = c.in_ok-calls_of_sets-2.field-0;
    }) _ = λ i. record {
      name = name i;
      offset = offset i;
      width = width i;
      dim = c.field_dim.ensures i;
      readable = readable i;
      writable = writable i;
      kind = kind i;
      is_calls = is_calls i;
      set_calls = set_calls i;
    } in
    made ∙ sym (row-field c.args.key.now c.args.field.now c.args.facts.now.readable c.args.facts.now.writable c.args.register.now.kind c.requires.distinct)
