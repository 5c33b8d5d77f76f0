-- One field after the other.
use Rattle.std.proofs.Common.{◌≡◌, ◌≤◌, length, sym, subst, ◌∙◌}
use Rattle.patch_arrays.proofs.Pointwise.{same-ends, step-at, stops-at}
use Rattle.patch_arrays.specs.Unplaced.{same_field}
use Rattle.patch_arrays.proofs.resembling.same_fields.Goals as goal

pub returns-then-not-same_field : goal.returns-then-not-same_field
returns-then-not-same_field c =
    stops-at same_field c.args.one.now.entries c.args.other.now.entries c.loop-index.index _ _ (sym c.in-Some.ensures.entry) (sym c.in-Some-get_index.ensures.entry) (sym c.same_field.ensures ∙ c.if-not-same_field.true) c.loop-index.invariant

pub loop-index-preserved : goal.loop-index-preserved
loop-index-preserved c =
    step-at same_field c.args.one.now.entries c.args.other.now.entries c.loop-index.index _ _ (sym c.in-Some.ensures.entry) (sym c.in-Some-get_index.ensures.entry) (sym c.same_field.ensures ∙ c.if-not-same_field.false) c.loop-index.invariant

pub returns : goal.returns
returns c =
    let first : length c.args.one.now.entries ≤ c.loop-index.index = subst (λ n. n ≤ c.loop-index.index) c.len-index-end.ensures.len c.loop-index-test.false in
    let same : length c.args.one.now.entries ≡ length c.args.other.now.entries = sym c.len.ensures.len ∙ c.if-len.false ∙ c.len-2.ensures.len in
    same-ends same_field c.args.one.now.entries c.args.other.now.entries c.loop-index.index first (subst (λ n. n ≤ c.loop-index.index) same first) c.loop-index.invariant
