use Rattle.std.proofs.Common.{ap, sym, ◌∙◌}
use Rattle.svd_text.specs.Tree.{Head, Elements}
use Rattle.svd_keys.specs.Texts.{name_span}
use Rattle.svd_keys.proofs.Seen.{element_of-is}
use Rattle.svd_keys.proofs.text.name_span.Goals as goal

pub returns : goal.returns
unfolding name_span
returns c = c.span_at.ensures ∙ sym (ap (λ (t : Head × Elements). name_span t.0) (element_of-is c.args.element.now))
