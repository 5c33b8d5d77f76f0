use Rattle.std.proofs.Common.{ap, sym, ◌∙◌}
use Rattle.svd_text.specs.Tree.{Head, Elements}
use Rattle.svd_keys.specs.Texts.{value_span}
use Rattle.svd_keys.proofs.Seen.{element_of-is}
use Rattle.svd_keys.proofs.text.value_span.Goals as goal

pub returns : goal.returns
unfolding value_span
returns c = c.trimmed_span.ensures ∙ sym (ap (λ (t : Head × Elements). value_span t.0) (element_of-is c.args.element.now))
