-- A register counts as often as it has members, and so do its fields.
use Rattle.std.proofs.Common.{refl}
use Rattle.dim_expand.proofs.Counting.{weighed-says}
use Rattle.dim_expand.proofs.Stated.{register-dim, register-typed}
use Rattle.svd_model.specs.Steps.{register}
use Rattle.svd_model.specs.Trees.{register_tree, step_of}
use Rattle.dim_expand.proofs.count.register_count.Goals as goal

pub returns-clause-count : goal.returns-clause-count
returns-clause-count c =
    weighed-says c.args.counted (step_of register c.args.key.now) (register_tree c.args.element.now) c.args.element.now.dim c.counts_register.result c.weight-weight.result c.fields_count-below.result c.times.result refl (register-dim c.args.element.now) c.counts_register.ensures c.weight-weight.ensures.weight c.fields_count-below.ensures.count c.times.ensures

pub returns-clause-typed : goal.returns-clause-typed
returns-clause-typed c =
    (refl, register-typed (step_of register c.args.key.now) c.args.element.now refl c.weight-weight.ensures.named c.weight-weight.ensures.small, c.fields_count-below.ensures.typed)
