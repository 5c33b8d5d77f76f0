use Rattle.std.proofs.Common.{ap, sym, ◌∙◌}
use Rattle.svd_text.specs.Tree.{Head, Elements}
use Rattle.svd_keys.specs.Texts.{value_text, trimmed}
use Rattle.svd_keys.proofs.Seen.{element_of-is}
use Rattle.svd_keys.proofs.text.value_text.Goals as goal

pub returns : goal.returns
unfolding value_text
returns c = c.trimmed.ensures ∙ ap trimmed c.bytes.ensures ∙ sym (ap (λ (t : Head × Elements). value_text t.0) (element_of-is c.args.element.now))
