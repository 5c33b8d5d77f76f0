use Rattle.std.proofs.Common.{◌≡◌, length}
use Rattle.frag_sem.specs.PlaceTyping.{module_fault, module_scope}
use Rattle.frag_sem.specs.ScriptTyping.{lines_fault}
use Rattle.frag_tree.specs.Trees.{crate_tree}
use Rattle.frag_types.specs.Telling.{names_in}
use Rattle.frag_types.proofs.script.first_unfit.Given as goal

abbrev pub invariant-loop-first : goal.invariant-loop-first
invariant-loop-first l = lines_fault (module_scope (crate_tree l.fn.index.krate.now)) l.rest (names_in l.bound) ≡ module_fault (crate_tree l.fn.index.krate.now) l.fn.script

abbrev pub decreases-loop-first : goal.decreases-loop-first
decreases-loop-first l = length l.rest
