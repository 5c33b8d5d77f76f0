use Rattle.std.proofs.Common.{sym, ap₂, ◌∙◌}
use Rattle.std.specs.Cmp.Lexicographic.{pointwise}
use Rattle.patch_arrays.proofs.Same.{and-else, and-then, field-like}
use Rattle.patch_arrays.specs.Unplaced.{same_set}
use Rattle.patch_arrays.proofs.resembling.is_like_field.Goals as goal

pub returns-then-same_field_keys : goal.returns-then-same_field_keys
returns-then-same_field_keys c =
    and-then _ _ _ _ (sym c.same_field_keys.ensures ∙ c.if-same_field_keys.true) (c.same_sets.ensures ∙ ap₂ (pointwise same_set) c.as_slice.ensures.value c.as_slice-then-same_field_keys.ensures.value) (field-like c.args.one.now c.args.other.now)

pub returns-else-same_field_keys : goal.returns-else-same_field_keys
returns-else-same_field_keys c = c.if-same_field_keys.false ∙ and-else _ _ _ (sym c.same_field_keys.ensures ∙ c.if-same_field_keys.false) (field-like c.args.one.now c.args.other.now)
