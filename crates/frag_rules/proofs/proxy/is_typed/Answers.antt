use Rattle.std.proofs.Common.{ap, ◌∙◌}
use Rattle.std.specs.List.{list_any}
use Rattle.frag_rules.specs.Keys.{same_key, types_seen}
use Rattle.frag_rules.proofs.Keys.{any-key}
use Rattle.frag_rules.proofs.proxy.is_typed.Goals as goal

pub returns : goal.returns
returns c = c.contains.ensures ∙ (any-key c.key_of_values-key.result c.args.types.now.keys ∙ ap (λ key. list_any (same_key key) (types_seen c.args.types.now)) c.key_of_values-key.ensures)
