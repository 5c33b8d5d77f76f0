use Rattle.std.proofs.Common.{◌+◌, ◌*◌, length}
use Rattle.frag_words.specs.Words.{words_in}
use Rattle.frag_parse.proofs.ModuleSteps.{all_modules}
use Rattle.frag_parse.proofs.Depth.{SoFar}
use Rattle.frag_parse.proofs.module.+modules.Given as goal

abbrev pub decreases-modules : goal.decreases-modules
decreases-modules l = 3 * l.depth + 2

abbrev pub decreases-module : goal.decreases-module
decreases-module l = 3 * l.depth + 1

abbrev pub decreases-block : goal.decreases-block
decreases-block l = 3 * l.inside + 3

abbrev pub invariant-modules-loop-alloc : goal.invariant-modules-loop-alloc
invariant-modules-loop-alloc l = SoFar l.version l.depth l.modules.items (words_in l.rest) (all_modules l.version (words_in l.text))

abbrev pub decreases-modules-loop-alloc : goal.decreases-modules-loop-alloc
decreases-modules-loop-alloc l = length (words_in l.rest)
