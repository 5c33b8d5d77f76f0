-- The members in their order, checked, and the array that they are.
use Rattle.std.proofs.Common.{◌≡◌, ◌⊎◌, Err, map, ap, subst, ◌∙◌}
use Rattle.std.proofs.lemmas.Result.{err_from_is_err_and}
use Rattle.patch_edits.specs.Visits.{Below}
use Rattle.patch_sem.specs.declared.fault.PatchFault.TheVariants.{Memory}
use Rattle.patch_sem.specs.Steps.{Outcome}
use Rattle.patch_arrays.proofs.Arranged.{order-some}
use Rattle.patch_arrays.specs.Arranging.{array_of}
use Rattle.patch_arrays.proofs.Merged.{merged-counted}
use Rattle.patch_arrays.specs.Makings.{behind, capped, unless_unfit}
use Rattle.svd_model.specs.Counting.{elements_in, told_count}
use Rattle.svd_rows.specs.Forest.{siblings}
use Rattle.patch_arrays.specs.Members.{under_key}
use Rattle.patch_arrays.proofs.making.arrange_parted.Goals as goal

pub returns-in_err-check-clause-made : goal.returns-in_err-check-clause-made
returns-in_err-check-clause-made g c =
    let p = err_from_is_err_and c.from_residual.result c.from_residual.ensures.1 in
    rw (p.1, p.2) (subst (λ ordered. (c.in_err-check.field-0.0 ≡ Memory) ⊎ ((rest : Outcome Below) → unless_unfit c.args.line ordered rest ≡ Err c.in_err-check.field-0.0)) (ap (map (under_key g.M.Member.seen)) c.as_slice.ensures.value ∙ c.in-Ok.ensures) c.in_err-check.ensures)

pub array_of-requires : goal.array_of-requires
array_of-requires g c = order-some (under_key g.M.Member.seen) c.args.parted.members.items c.order.new.members.items c.requires.some c.in-Ok.ensures

pub returns-clause-made : goal.returns-clause-made
returns-clause-made g c = record {
  array = c.in-Ok-array_of.array;
  put = c.in-Ok-put_in.ensures;
  key = c.in-Ok-array_of.ensures.key;
  stands = c.in-Ok-array_of.ensures.array ∙ ap (array_of capped c.args.name.now) c.in-Ok.ensures;
  fits = subst (λ ordered. (rest : Outcome Below) → unless_unfit c.args.line ordered rest ≡ rest) (ap (map (under_key g.M.Member.seen)) c.as_slice.ensures.value ∙ c.in-Ok.ensures) c.in_ok-check.ensures;
}

pub returns-clause-counted : goal.returns-clause-counted
returns-clause-counted g c =
    merged-counted g.M.Member.seen c.args.line c.args.name.now c.args.parted.members.items c.args.parted.others.items c.args.parted.place c.in-Ok-put_in.made.items c.args.total.now c.merged.result c.without.result (returns-clause-made g c)
    (c.merged.ensures ∙ ap (λ all. told_count (elements_in (siblings (behind all)))) (ap (map (under_key g.M.Member.seen)) c.as_slice-2.ensures.value ∙ c.in-Ok.ensures)) c.without.ensures.fits c.without.ensures.less
