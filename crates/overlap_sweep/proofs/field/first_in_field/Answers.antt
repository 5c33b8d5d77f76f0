-- The next member meets one that is kept, or is kept.
use Rattle.std.proofs.Common.{◌+◌, ◌<◌, ◌≤◌, option_map, unwrap_or, drop, sym, ap, ◌∙◌, arith}
use Rattle.overlap_sweep.specs.Fields.{field_meets, told_fields}
use Rattle.overlap_sweep.specs.Kept.{declared_spot, declared_spots, kept_all, kept_pair, kept_too}
use Rattle.overlap_sweep.specs.Search.{first_against}
use Rattle.overlap_sweep.proofs.Sharing.{kept-next, nothing-kept, pair-met, pair-unmet, spots-end, spots-here}
use Rattle.reg_table.specs.Walk.{index_at}
use Rattle.overlap_sweep.proofs.field.first_in_field.Goals as goal

pub returns-in-Some-clause-found : goal.returns-in-Some-clause-found
returns-in-Some-clause-found c =
    let readable = c.args.facts.now.readable in
    let writable = c.args.facts.now.writable in
    let key = c.args.key.now in
    let field = c.args.field.now in
    let number = c.loop-number.number in
    let spot_is = c.in_ok-spot.ensures ∙ ap (declared_spot readable writable key field) c.index_at.ensures in
    let less : number < unwrap_or field.dim.count 1 = omega (arith, c.loop-number-test.true, c.loop-number.auto.number-end, c.unwrap_or-number-end.ensures) in
    let found = sym c.in-Some.is ∙ c.in_ok-found.ensures ∙ (λ i. option_map (λ first. told_fields (first, spot_is i)) (first_against field_meets (spot_is i) (c.as_slice.ensures i))) in
    sym (ap (option_map told_fields) (c.loop-number.invariant.left ∙ ap (kept_pair c.loop-number.kept) (spots-here readable writable key field number less))
    ∙ pair-met c.loop-number.kept (declared_spot readable writable key field (index_at field.dim.count number)) (drop (number + 1) (declared_spots readable writable key field)) c.in-Some.pair found)

pub loop-number-preserved : goal.loop-number-preserved
loop-number-preserved c =
    let readable = c.args.facts.now.readable in
    let writable = c.args.facts.now.writable in
    let key = c.args.key.now in
    let field = c.args.field.now in
    let number = c.loop-number.number in
    let spot = declared_spot readable writable key field (index_at field.dim.count number) in
    let others = drop (number + 1) (declared_spots readable writable key field) in
    let spot_is = c.in_ok-spot.ensures ∙ ap (declared_spot readable writable key field) c.index_at.ensures in
    let less : number < unwrap_or field.dim.count 1 = omega (arith, c.loop-number-test.true, c.loop-number.auto.number-end, c.unwrap_or-number-end.ensures) in
    let found = sym c.in_default.is ∙ c.in_ok-found.ensures ∙ (λ i. option_map (λ first. told_fields (first, spot_is i)) (first_against field_meets (spot_is i) (c.as_slice.ensures i))) in
    let kept_is = c.in_ok-keep.ensures ∙ ap (kept_too c.loop-number.kept) spot_is in
    record {
      left = c.loop-number.invariant.left ∙ ap (kept_pair c.loop-number.kept) (spots-here readable writable key field number less) ∙ pair-unmet c.loop-number.kept spot others found ∙ ap (λ kept. kept_pair kept others) (sym kept_is);
      kept = c.loop-number.invariant.kept ∙ ap (kept_all c.loop-number.kept) (spots-here readable writable key field number less) ∙ kept-next c.loop-number.kept spot others ∙ ap (λ kept. kept_all kept others) (sym kept_is);
    }

pub returns-clause-found : goal.returns-clause-found
returns-clause-found c =
    let past : unwrap_or c.args.field.now.dim.count 1 ≤ c.loop-number.number = omega (arith, c.loop-number-test.false, c.loop-number.auto.number-end, c.unwrap_or-number-end.ensures) in
    sym (ap (option_map told_fields) (c.loop-number.invariant.left ∙ ap (kept_pair c.loop-number.kept) (spots-end c.args.facts.now.readable c.args.facts.now.writable c.args.key.now c.args.field.now c.loop-number.number past) ∙ (nothing-kept c.loop-number.kept).0))

pub returns-clause-kept : goal.returns-clause-kept
returns-clause-kept c =
    let past : unwrap_or c.args.field.now.dim.count 1 ≤ c.loop-number.number = omega (arith, c.loop-number-test.false, c.loop-number.auto.number-end, c.unwrap_or-number-end.ensures) in
    λ _. sym (c.loop-number.invariant.kept ∙ ap (kept_all c.loop-number.kept) (spots-end c.args.facts.now.readable c.args.facts.now.writable c.args.key.now c.args.field.now c.loop-number.number past) ∙ (nothing-kept c.loop-number.kept).1)
