use Rattle.std.proofs.Common.{◌+◌, zero-add, refl, map, arith, ap, ◌∙◌}
use Rattle.svd_model.specs.Counting.{told_count, elements_in}
use Rattle.svd_model.specs.Steps.{field, set}
use Rattle.svd_model.specs.Trees.{set_tree, numbered, field_under, field_tree, step_of}
use Rattle.svd_rows.specs.Forest.{siblings}
use Rattle.svd_model.proofs.Counts.{counted_on, counted_all, told-fits}
use Rattle.svd_model.proofs.counting.fields_in.Goals as goal

pub loop-field-init : goal.loop-field-init
loop-field-init c = record { sum = ap told_count (zero-add _) ∙ ap (λ entries. told_count (elements_in (siblings (map field_under entries)))) c.into_iter-field-iterator.ensures.into_iter_gives.0; fits = omega arith }

pub loop-field-preserved : goal.loop-field-preserved
loop-field-preserved c = record {
  sum =
      counted_on c.more-total.result c.loop-field.total c.values_in.result (told_count (elements_in (siblings (map field_under c.args.fields.now.entries)))) (step_of field c.in-Some.field-0-0.now) (field_tree c.in-Some.field.now) (map field_under c.next.new.self) (map field_under c.loop-field.field-iterator)
      refl (ap (map field_under) c.in-Some.ensures.steps) (c.values_in.ensures ∙ ap (λ sets. told_count (elements_in (numbered set 0 (map set_tree sets)))) c.as_slice.ensures.value)
      (c.more-total.ensures ∙ ap (λ n. told_count (c.loop-field.total + n)) c.more.ensures) c.loop-field.invariant.sum;
  fits = told-fits c.more-total.result _ c.more-total.ensures;
}

pub returns : goal.returns
returns c =
    counted_all c.loop-field.total (told_count (elements_in (siblings (map field_under c.args.fields.now.entries)))) (map field_under c.loop-field.field-iterator) c.loop-field.invariant.fits (ap (map field_under) c.in-None.ensures.steps.0) c.loop-field.invariant.sum
