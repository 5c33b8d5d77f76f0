-- The members one after the other.
use Rattle.std.proofs.Common.{◌+◌, ◌∷◌, map, drop, arith, ap, sym, zero-add, ◌∙◌}
use Rattle.std.proofs.lemmas.List.{drop_all, drop_more}
use Rattle.patch_arrays.proofs.Merged.{known-counted}
use Rattle.patch_arrays.specs.Members.{listed, under_key}
use Rattle.svd_model.proofs.Counts.{counted_all, counted_on, told-fits}
use Rattle.svd_model.specs.Counting.{elements_in, told_count}
use Rattle.patch_arrays.proofs.making.elements_of.Goals as goal

pub loop-member-init : goal.loop-member-init
loop-member-init g c = record { sum = ap told_count (zero-add _); fits = omega arith }

pub loop-member-preserved : goal.loop-member-preserved
loop-member-preserved g c = record {
  sum =
      counted_on c.one_more-total.result c.loop-member.total c.below.result (told_count (elements_in (listed g.M.Member.seen c.args.members.now))) (under_key g.M.Member.seen c.member-item.result).0 (under_key g.M.Member.seen c.member-item.result).1
      (map (under_key g.M.Member.seen) (drop (c.loop-member.member-index + 1) c.args.members.now)) (map (under_key g.M.Member.seen) (drop c.loop-member.member-index c.args.members.now))
      (known-counted (g.M.Member.seen c.member-item.result.1).0 c.member-item.result.0 (g.M.Member.known c.member-item.result.1))
      (ap (map (under_key g.M.Member.seen)) (drop_more c.args.members.now c.loop-member.member-index c.member-item.result c.loop-member-test.true ∙ ap (λ x. x ∷ drop (c.loop-member.member-index + 1) c.args.members.now) (sym c.member-item.is)))
      c.below.ensures c.one_more-total.ensures c.loop-member.invariant.sum;
  fits = told-fits c.one_more-total.result _ c.one_more-total.ensures;
}

pub returns : goal.returns
returns g c =
    counted_all c.loop-member.total (told_count (elements_in (listed g.M.Member.seen c.args.members.now))) (map (under_key g.M.Member.seen) (drop c.loop-member.member-index c.args.members.now)) c.loop-member.invariant.fits
    (ap (map (under_key g.M.Member.seen)) (drop_all c.loop-member.member-index c.args.members.now c.loop-member-test.false)) c.loop-member.invariant.sum
