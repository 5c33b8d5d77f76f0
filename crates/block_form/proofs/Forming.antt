-- Children have one form.
use Rattle.std.proofs.Common.{refl, ap, ◌∙◌}
use Rattle.std.specs.Int.{next_multiple_of}
use Rattle.block_form.specs.Forms.{accessors_for}
use Rattle.block_form.specs.Fields.{end_from, fields_from, greatest_align, taken_from}
use Rattle.block_form.specs.Laws.{FormIs, OneForm}
use Rattle.block_form.specs.Order.{by_offset}
use Rattle.block_form.proofs.Ordering.{is_by_offset, one_order}

pub form_is : FormIs
form_is children = record { order = by_offset children; by_offset = is_by_offset children; fields = refl; accessors = refl; align = refl; size = refl }

pub one_form : OneForm
one_form children form is =
    let same = one_order children is.order is.by_offset in
    λ i. record {
      fields = (is.fields ∙ ap (λ order. fields_from 0 0 (taken_from 0 order)) same) i;
      accessors = (is.accessors ∙ ap (λ order. accessors_for (taken_from 0 order) children) same) i;
      size = (is.size ∙ ap (λ order. next_multiple_of (end_from 0 (taken_from 0 order)) (greatest_align (taken_from 0 order))) same) i;
      align = (is.align ∙ ap (λ order. greatest_align (taken_from 0 order)) same) i;
    }
