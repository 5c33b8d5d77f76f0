use Rattle.std.proofs.Common.{ap, sym, ◌∙◌, Some}
use Rattle.svd_text.specs.Views.{element_of}
use Rattle.svd_keys.proofs.Lacks.{none-missing, some-missing}
use Rattle.svd_keys.proofs.missing.missing_fault.Goals as goal

pub returns-in-None : goal.returns-in-None
returns-in-None c = none-missing c.args.container (element_of c.args.element.now) (sym c.in-None.is ∙ c.missing_of.ensures)

pub returns-in-Some : goal.returns-in-Some
returns-in-Some c =
    ap Some c.missing.ensures ∙ some-missing c.args.container (element_of c.args.element.now) c.in-Some.wanted (sym c.in-Some.is ∙ c.missing_of.ensures)
