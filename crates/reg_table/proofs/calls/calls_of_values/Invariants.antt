-- The calls that are made, and those of the values that are left, are the calls of all; the names of those that are made
-- are taken.
use Rattle.std.proofs.Common.{◌≡◌, drop, map, filter_map}
use Rattle.reg_table.specs.Calls.{call_name, call_of, name_for, plain_value, calls_of}
use Rattle.reg_table.proofs.Calling.{calls_left}
use Rattle.reg_table.proofs.calls.calls_of_values.Given as goal

abbrev pub invariant-loop-value : goal.invariant-loop-value
invariant-loop-value l = record {
  calls : calls_left l.calls (filter_map (call_of (name_for l.direction) l.width) (map plain_value (drop l.value-index l.values))) ≡ calls_of (name_for l.direction) l.width (map plain_value l.values);
  taken : l.taken.keys ≡ map call_name l.calls;
}
