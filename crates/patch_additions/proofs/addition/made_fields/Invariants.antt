use Rattle.std.proofs.Common.{map, drop}
use Rattle.patch_additions.proofs.Loops.{FieldsSoFar}
use Rattle.patch_model.specs.Acts.{addition_under}
use Rattle.patch_additions.proofs.addition.made_fields.Given as goal

abbrev pub invariant-loop-addition : goal.invariant-loop-addition
invariant-loop-addition l = FieldsSoFar (map addition_under l.additions) l.made.entries (map addition_under (drop l.addition-index l.additions))
