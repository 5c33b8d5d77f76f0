use Rattle.std.proofs.Common.{sym, ◌∙◌}
use Rattle.svd_text.specs.Views.{element_of}
use Rattle.svd_keys.proofs.Loops.{within-one, within-other}
use Rattle.svd_keys.proofs.child.unknown_within.Goals as goal

pub returns-then-has_name : goal.returns-then-has_name
returns-then-has_name c =
    c.unknown_in_key.ensures ∙ within-one c.args.name.now (element_of c.args.element.now) (sym c.has_name.ensures ∙ c.if-has_name.true)

pub returns-else-has_name : goal.returns-else-has_name
returns-else-has_name c = within-other c.args.name.now (element_of c.args.element.now) (sym c.has_name.ensures ∙ c.if-has_name.false)
