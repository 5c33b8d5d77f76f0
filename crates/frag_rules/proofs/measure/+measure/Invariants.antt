use Rattle.std.proofs.Common.{drop}
use Rattle.frag_rules.proofs.Sizes.{MeasuredSoFar}
use Rattle.frag_rules.proofs.measure.+measure.Given as goal

abbrev pub invariant-measure_modules-loop-unit : goal.invariant-measure_modules-loop-unit
invariant-measure_modules-loop-unit l = MeasuredSoFar l.inside l.sizes.large l.fn.sizes.large (drop l.unit-index l.modules) l.modules
