use Rattle.std.proofs.Common.{ap, ap₂, sym, ◌∙◌}
use Rattle.svd_schema.specs.Names.{key_name}
use Rattle.svd_text.specs.Views.{element_of}
use Rattle.svd_keys.specs.Children.{strays, when}
use Rattle.svd_keys.specs.Earliest.{earlier, least}
use Rattle.svd_keys.specs.Values.{bad_value}
use Rattle.svd_keys.proofs.Orders.{least-append}
use Rattle.svd_keys.proofs.read.key_fault.Goals as goal

pub returns : goal.returns
returns c =
    c.earlier.ensures
    ∙ ap₂ earlier (c.strays.ensures ∙ ap (λ name. least (strays name (element_of c.args.element.now))) c.name.ensures) c.bad_where.ensures
    ∙ sym (least-append (strays (key_name c.args.key) (element_of c.args.element.now)) (when c.args.bad (bad_value c.args.kind (element_of c.args.found.now))))
