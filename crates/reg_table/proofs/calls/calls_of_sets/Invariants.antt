-- The sets that are left decide as all do.
use Rattle.std.proofs.Common.{◌≡◌, drop, map}
use Rattle.reg_table.specs.Calls.{serves, name_for, plain_set, set_calls_of}
use Rattle.reg_table.proofs.calls.calls_of_sets.Given as goal

abbrev pub invariant-loop-set : goal.invariant-loop-set
invariant-loop-set l = set_calls_of (serves l.direction) (name_for l.direction) l.width (map plain_set (drop l.set-index l.sets)) ≡ set_calls_of (serves l.direction) (name_for l.direction) l.width (map plain_set l.sets)
