use Rattle.std.proofs.Common.{sym, ap₂, ◌∙◌}
use Rattle.std.specs.Cmp.Lexicographic.{pointwise}
use Rattle.patch_arrays.proofs.Same.{and-else, and-then, peripheral-like}
use Rattle.patch_arrays.specs.Unplaced.{same_item}
use Rattle.patch_arrays.proofs.resembling.is_like_peripheral.Goals as goal

pub returns-then-same_peripheral_keys : goal.returns-then-same_peripheral_keys
returns-then-same_peripheral_keys c =
    and-then _ _ _ _ (sym c.same_peripheral_keys.ensures ∙ c.if-same_peripheral_keys.true) (c.same_items.ensures ∙ ap₂ (pointwise same_item) c.as_slice.ensures.value c.as_slice-then-same_peripheral_keys.ensures.value) (peripheral-like c.args.one.now c.args.other.now)

pub returns-else-same_peripheral_keys : goal.returns-else-same_peripheral_keys
returns-else-same_peripheral_keys c = c.if-same_peripheral_keys.false ∙ and-else _ _ _ (sym c.same_peripheral_keys.ensures ∙ c.if-same_peripheral_keys.false) (peripheral-like c.args.one.now c.args.other.now)
