use Rattle.std.proofs.Common.{sym, ap, ◌∙◌}
use Rattle.svd_schema.specs.Table.{role_of}
use Rattle.svd_keys.proofs.Seen.{name-of}
use Rattle.svd_reader.specs.Walk.{held_as}
use Rattle.svd_reader.proofs.element.held.Goals as goal

pub returns-in-Some : goal.returns-in-Some
returns-in-Some c =
    c.held_as.ensures ∙ ap held_as (sym c.in-Some.is ∙ c.role.ensures ∙ ap (role_of c.args.container) (name-of c.args.element.now))

pub returns-in-None : goal.returns-in-None
returns-in-None c = ap held_as (sym c.in-None.is ∙ c.role.ensures ∙ ap (role_of c.args.container) (name-of c.args.element.now))
