use Rattle.std.proofs.Common.{sym, ap₂, ◌∙◌}
use Rattle.std.specs.Cmp.Lexicographic.{pointwise}
use Rattle.std.specs.Str.{bytes_eq}
use Rattle.patch_arrays.proofs.Same.{and-second, and-third, is_so, set-same}
use Rattle.patch_arrays.specs.Unplaced.{same_value}
use Rattle.patch_arrays.proofs.sameness.ValuesCompared.is_same.Goals as goal

pub returns-then-same_set_keys : goal.returns-then-same_set_keys
returns-then-same_set_keys c =
    and-third _ _ _ _ _ (sym (ap₂ bytes_eq c.written.ensures c.written-2.ensures) ∙ is_so _ (sym c.ne.ensures ∙ c.if-ne.false)) (sym c.same_set_keys.ensures ∙ c.if-same_set_keys.true)
    (c.all_same.ensures ∙ ap₂ (pointwise same_value) c.as_slice.ensures.value c.as_slice-then-same_set_keys.ensures.value) (set-same c.args.self.now c.args.other.now)

pub returns-else-same_set_keys : goal.returns-else-same_set_keys
returns-else-same_set_keys c =
    c.if-same_set_keys.false ∙ and-second _ _ _ _ (sym c.same_set_keys.ensures ∙ c.if-same_set_keys.false) (set-same c.args.self.now c.args.other.now)
