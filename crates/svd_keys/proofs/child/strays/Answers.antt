use Rattle.std.proofs.Common.{ap₂, sym, ◌∙◌}
use Rattle.svd_keys.specs.Children.{strays, double_of, unknown_in_keys}
use Rattle.svd_keys.specs.Earliest.{earlier}
use Rattle.svd_text.specs.Views.{element_of}
use Rattle.svd_keys.proofs.Orders.{least-append}
use Rattle.svd_keys.proofs.child.strays.Goals as goal

pub returns : goal.returns
unfolding strays
returns c =
    c.earlier.ensures
    ∙ ap₂ earlier c.double_of.ensures c.unknown_in_keys.ensures
    ∙ sym (least-append (double_of c.args.name.now (element_of c.args.element.now)) (unknown_in_keys c.args.name.now (element_of c.args.element.now)))
