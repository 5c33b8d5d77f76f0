use Rattle.std.proofs.Common.{◌∙◌}
use Rattle.patch_form.proofs.Coding.{kind-none, kind-some}
use Rattle.patch_form.proofs.table.key_kind.Goals as goal

pub returns-in-None : goal.returns-in-None
returns-in-None c = kind-none c.args.key.now c.element_code.result c.element_code.ensures c.in-None.is

pub returns-in-Some : goal.returns-in-Some
returns-in-Some c = c.kind_at.ensures ∙ kind-some c.args.key.now c.element_code.result c.in-Some.code c.element_code.ensures c.in-Some.is
