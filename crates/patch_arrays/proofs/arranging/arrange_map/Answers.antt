-- What becomes of the entries, put back.
use Rattle.std.proofs.Common.{◌≡◌, ◌⊎◌, ◌+◌, Ok, Err, map, sym, ap, subst, ◌∙◌}
use Rattle.std.proofs.lemmas.Result.{err_from_is_err_and}
use Rattle.patch_sem.specs.declared.fault.PatchFault.TheVariants.{Memory}
use Rattle.patch_arrays.specs.Arranging.{arraying_in}
use Rattle.patch_arrays.specs.Makings.{capped}
use Rattle.patch_arrays.specs.Members.{listed, under_key}
use Rattle.svd_model.specs.Counting.{elements_in}
use Rattle.svd_rows.specs.Forest.{siblings}
use Rattle.patch_arrays.proofs.arranging.arrange_map.Goals as goal

pub returns-in_err-made-clause-edited : goal.returns-in_err-made-clause-edited
returns-in_err-made-clause-edited g c =
    let p = err_from_is_err_and c.from_residual.result c.from_residual.ensures.1 in
    rw (p.1, p.2) (subst (λ entries. (c.in_err-made.field-0.0 ≡ Memory) ⊎ (arraying_in capped c.args.line c.args.pattern.now c.args.name.now (map (under_key g.M.Member.seen) entries) ≡ Err c.in_err-made.field-0.0)) c.in-Ok.ensures.same c.in_err-made.ensures.arranged)

pub returns-clause-edited : goal.returns-clause-edited
returns-clause-edited g c =
    ap (λ entries. arraying_in capped c.args.line c.args.pattern.now c.args.name.now (map (under_key g.M.Member.seen) entries)) (sym c.in-Ok.ensures.same)
    ∙ c.in_ok-made.ensures.arranged
    ∙ ap (λ entries. Ok (siblings (map (under_key g.M.Member.seen) entries))) (sym c.in-Ok-put_back.ensures)

pub returns-clause-counted : goal.returns-clause-counted
returns-clause-counted g c = λ others e.
    c.in_ok-made.ensures.counted others (e ∙ ap (λ entries. others + elements_in (listed g.M.Member.seen entries)) (sym c.in-Ok.ensures.same))
    ∙ ap (λ entries. others + elements_in (listed g.M.Member.seen entries)) (sym c.in-Ok-put_back.ensures)
