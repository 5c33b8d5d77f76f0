use Rattle.std.proofs.Common.{ap, ◌∙◌}
use Rattle.std.specs.Prelude.{is_some}
use Rattle.svd_text.specs.declared.element.Element.{out-Element}
use Rattle.svd_keys.proofs.Seen.{source-of, mapped-some}
use Rattle.svd_keys.proofs.missing.is_derived.Goals as goal

pub returns : goal.returns
returns c = c.is_some.ensures ∙ mapped-some (out-Element c.args.element.now).source ∙ ap is_some (source-of c.args.element.now)
