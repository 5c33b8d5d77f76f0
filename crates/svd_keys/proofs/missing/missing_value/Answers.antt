use Rattle.std.proofs.Common.{sym, ◌∙◌}
use Rattle.svd_text.specs.Views.{element_of}
use Rattle.svd_keys.proofs.Lacks.{default-value, other-value}
use Rattle.svd_keys.proofs.missing.missing_value.Goals as goal

pub returns-then-is_default : goal.returns-then-is_default
returns-then-is_default c = default-value (element_of c.args.element.now) (sym c.is_default.ensures ∙ c.if-is_default.true)

pub returns : goal.returns
returns c = c.lack.ensures ∙ other-value (element_of c.args.element.now) (sym c.is_default.ensures ∙ c.if-is_default.false)
