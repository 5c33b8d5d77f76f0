use Rattle.std.proofs.Common.{◌≡◌, Some, map, refl, ◌∙◌, subst}
use Rattle.std.specs.List.{AllByRecursion, IsDistinct}
use Rattle.derive_build.specs.Tables.{IsKid, steps_in, under}
use Rattle.derive_build.specs.Taking.{register_by}
use Rattle.derive_build.proofs.Told.{if-ok, plain-made}
use Rattle.svd_model.specs.Steps.{register, same_key}
use Rattle.svd_model.specs.Trees.{field_under}
use Rattle.svd_rows.specs.Ranks.{stated}
use Rattle.derive_build.proofs.field.register_of.Goals as goal

pub returns : goal.returns
returns c =
    let table = c.args.table.now in
    let settled = c.args.settled.now in
    let keys = stated (register_by c.args.element.now settled.keys) in
    let fields = c.in_ok-fields.fields.entries in
    if-ok c.with_fields.result _ _
    (λ made is levels kids.
    is ∙ plain-made table levels field_under fields (Some register) settled keys c.requires.keys c.requires.kind (λ children. refl) kids
    (subst (λ ns. AllByRecursion (IsKid table levels (Some register)) ns → IsDistinct same_key (steps_in table ns) → map field_under fields ≡ map (under table levels) ns) c.as_slice.ensures.value (c.in_ok-fields.ensures levels)))
    c.with_fields.ensures
