-- What becomes of the items, as a list again.
use Rattle.std.proofs.Common.{◌+◌, sym, ap, ◌∙◌}
use Rattle.svd_model.specs.Counting.{elements_in}
use Rattle.svd_rows.specs.Forest.{siblings}
use Rattle.patch_arrays.proofs.arranging.arrange_items.Goals as goal

pub returns-clause-counted : goal.returns-clause-counted
returns-clause-counted c = λ others e.
    c.in_ok-made.ensures.counted others (e ∙ ap (λ all. others + elements_in (siblings all)) (sym c.in-Ok.ensures))
    ∙ ap (λ all. others + elements_in (siblings all)) (sym c.in-Ok-items_of.ensures)
