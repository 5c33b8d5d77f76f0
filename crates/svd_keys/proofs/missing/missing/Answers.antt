use Rattle.std.proofs.Common.{ℕ, ap, ◌∙◌}
use Rattle.pac_base.specs.declared.span.Span.{Span}
use Rattle.svd_text.specs.Views.{element_of}
use Rattle.svd_text.specs.declared.element.Element.{out-Element}
use Rattle.svd_keys.specs.declared.fault.PlacedFault.{PlacedFault}
use Rattle.svd_keys.specs.declared.fault.Required.{Required}
use Rattle.svd_keys.specs.declared.fault.Fault.TheVariants.{MissingElement}
use Rattle.svd_keys.specs.Texts.{name_span}
use Rattle.svd_keys.proofs.Seen.{ends_at-of}
use Rattle.svd_keys.proofs.missing.missing.Goals as goal

made : Required → ℕ → Span → PlacedFault
made wanted place span = record { at = place; fault = MissingElement span wanted }

pub returns : goal.returns
unfolding made
returns c =
    ap (made c.args.wanted (out-Element c.args.element.now).ends_at) c.name_span.ensures
    ∙ ap (λ place. made c.args.wanted place (name_span (element_of c.args.element.now).0)) (ends_at-of c.args.element.now)
