use Rattle.std.proofs.Common.{sym, ap₂, ◌∙◌}
use Rattle.std.specs.Str.{bytes_eq}
use Rattle.patch_arrays.proofs.Same.{and-then, value-same}
use Rattle.patch_arrays.proofs.sameness.VariantCompared.is_same.Goals as goal

pub returns-then-eq : goal.returns-then-eq
returns-then-eq c =
    and-then _ _ _ _ (sym (ap₂ bytes_eq c.as_str.ensures c.as_str-2.ensures) ∙ sym c.eq.ensures ∙ c.if-eq.true) c.eq-then-eq.ensures (value-same c.args.self.now c.args.other.now)
