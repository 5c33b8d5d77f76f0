use Rattle.std.proofs.Common.{drop}
use Rattle.frag_index.proofs.Adding.{AddedSoFar}
use Rattle.frag_index.proofs.built.+add.Given as goal

abbrev pub invariant-add_modules-loop-unit : goal.invariant-add_modules-loop-unit
invariant-add_modules-loop-unit l = AddedSoFar l.fn.sites.items l.sites.items l.within (drop l.unit-index l.modules) l.modules
