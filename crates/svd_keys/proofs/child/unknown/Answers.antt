use Rattle.std.proofs.Common.{ℕ, ap, ◌∙◌}
use Rattle.pac_base.specs.declared.span.Span.{Span}
use Rattle.svd_text.specs.Views.{element_of}
use Rattle.svd_text.specs.declared.element.Element.{out-Element}
use Rattle.svd_keys.specs.declared.fault.PlacedFault.{PlacedFault}
use Rattle.svd_keys.specs.declared.fault.Fault.TheVariants.{UnknownElement}
use Rattle.svd_keys.specs.Texts.{name_span}
use Rattle.svd_keys.proofs.Seen.{name_at-of}
use Rattle.svd_keys.proofs.child.unknown.Goals as goal

made : ℕ → Span → PlacedFault
made place span = record { at = place; fault = UnknownElement span }

pub returns : goal.returns
unfolding made
returns c =
    ap (made (out-Element c.args.element.now).name_at) c.name_span.ensures
    ∙ ap (λ place. made place (name_span (element_of c.args.element.now).0)) (name_at-of c.args.element.now)
