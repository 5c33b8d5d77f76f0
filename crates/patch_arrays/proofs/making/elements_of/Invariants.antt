use Rattle.std.proofs.Common.{◌≡◌, ◌+◌, ◌-◌, ◌^◌, ◌≤◌, drop}
use Rattle.patch_arrays.specs.Members.{listed}
use Rattle.svd_model.specs.Counting.{elements_in, told_count}
use Rattle.patch_arrays.proofs.making.elements_of.Given as goal

abbrev pub invariant-loop-member : goal.invariant-loop-member
invariant-loop-member g l = record {
  sum : told_count (l.total + elements_in (listed g.M.Member.seen (drop l.member-index l.members))) ≡ told_count (elements_in (listed g.M.Member.seen l.members));
  fits : l.total ≤ 2 ^ 64 - 1;
}
