use Rattle.std.proofs.Common.{ap, sym, ◌∙◌, Some}
use Rattle.svd_schema.specs.Table.{role_of}
use Rattle.svd_text.specs.Views.{element_of}
use Rattle.svd_keys.proofs.Loops.{known, not_known}
use Rattle.svd_keys.proofs.Seen.{name-of}
use Rattle.svd_keys.proofs.child.unknown_at.Goals as goal

pub returns-in-Some : goal.returns-in-Some
returns-in-Some c =
    known c.args.container (element_of c.args.element.now) c.in-Some.field-0
    (sym (ap (role_of c.args.container) (name-of c.args.element.now)) ∙ sym c.role.ensures ∙ c.in-Some.is)

pub returns-in-None : goal.returns-in-None
returns-in-None c =
    ap Some c.unknown.ensures
    ∙ not_known c.args.container (element_of c.args.element.now)
    (sym (ap (role_of c.args.container) (name-of c.args.element.now)) ∙ sym c.role.ensures ∙ c.in-None.is)
