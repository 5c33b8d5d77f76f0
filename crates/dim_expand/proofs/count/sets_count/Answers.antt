-- Only values count in sets.
use Rattle.std.proofs.Common.{sym, ap, ◌∙◌}
use Rattle.svd_model.specs.Counting.{told_count}
use Rattle.dim_expand.proofs.Counting.{of_values, sets-count, sets-no_count}
use Rattle.dim_expand.proofs.count.sets_count.Goals as goal

pub returns-in-Elements : goal.returns-in-Elements
returns-in-Elements c = c.all_values-values.ensures ∙ sym (ap told_count (sets-count c.args.counted c.args.sets.now (ap of_values c.in-Elements.is)))

pub returns-in-Registers : goal.returns-in-Registers
returns-in-Registers c = sym (sets-no_count c.args.counted c.args.sets.now (ap of_values c.in-Registers.is))

pub returns-in-Fields : goal.returns-in-Fields
returns-in-Fields c = sym (sets-no_count c.args.counted c.args.sets.now (ap of_values c.in-Fields.is))

pub returns-in-Values : goal.returns-in-Values
returns-in-Values c = c.all_values-values.ensures ∙ sym (ap told_count (sets-count c.args.counted c.args.sets.now (ap of_values c.in-Values.is)))
