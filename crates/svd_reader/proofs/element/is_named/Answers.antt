use Rattle.std.proofs.Common.{ap₂, ◌∙◌}
use Rattle.std.specs.Str.{bytes_eq}
use Rattle.svd_keys.proofs.Seen.{name-of}
use Rattle.svd_reader.proofs.element.is_named.Goals as goal

pub returns : goal.returns
returns c = c.eq.ensures ∙ ap₂ bytes_eq (name-of c.args.element.now) (c.as_bytes.ensures.value ∙ c.name.ensures)
