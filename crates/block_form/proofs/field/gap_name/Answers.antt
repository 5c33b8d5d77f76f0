use Rattle.std.proofs.Common.{IfOk, ◌≡◌, ◌∙◌, ◌++◌, subst, sym}
use Rattle.rust_names.specs.Identifiers.{IsIdentifier}
use Rattle.block_form.specs.Gaps.{gap_name}
use Rattle.block_form.proofs.GapNames.{gap-identifier}
use Rattle.block_form.proofs.field.gap_name.Goals as goal

pub known-requires : goal.known-requires
unfolding gap_name
known-requires c =
    subst IsIdentifier
    (sym (c.as_slice-2.ensures.value ∙ (c.in_ok-extend_from_slice.ensures.items ∙ λ i. (c.in_ok-bytes.ensures.items ∙ c.as_slice.ensures) i ++ (c.as_bytes.ensures.value ∙ c.format.ensures.text) i)))
    (gap-identifier c.args.number)

pub returns : goal.returns
unfolding gap_name
returns c =
    subst (λ name. IfOk c.known.result (λ made. made ≡ name))
    (c.as_slice-2.ensures.value ∙ (c.in_ok-extend_from_slice.ensures.items ∙ λ i. (c.in_ok-bytes.ensures.items ∙ c.as_slice.ensures) i ++ (c.as_bytes.ensures.value ∙ c.format.ensures.text) i))
    c.known.ensures
