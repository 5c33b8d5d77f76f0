-- What is made and what is left, reversed, are the whole path reversed.
use Rattle.std.proofs.Common.{◌≡◌, ◌++◌, reverse}
use Rattle.dim_expand.proofs.unfolding.turned.Given as goal

abbrev pub invariant-loop-step : goal.invariant-loop-step
invariant-loop-step l = l.path ++ reverse l.step-iterator.iter.rest.now ≡ reverse l.inner
