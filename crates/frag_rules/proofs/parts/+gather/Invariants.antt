use Rattle.std.proofs.Common.{◌≡◌, drop}
use Rattle.frag_rules.specs.Parts.{laid_in}
use Rattle.frag_rules.proofs.Gathering.{with_rest}
use Rattle.frag_rules.proofs.parts.+gather.Given as goal

abbrev pub invariant-gather_modules-loop-module : goal.invariant-gather_modules-loop-module
invariant-gather_modules-loop-module l = with_rest (laid_in l.parts) (drop l.module-index l.modules) ≡ with_rest (laid_in l.fn.parts) l.modules
