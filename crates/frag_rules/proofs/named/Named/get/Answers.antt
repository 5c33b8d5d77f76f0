use Rattle.std.proofs.Common.{sym, ◌∙◌, ap}
use Rattle.std.specs.Map.{lookup}
use Rattle.std.specs.Str.{bytes_eq}
use Rattle.frag_rules.proofs.Entries.{found-entries}
use Rattle.frag_rules.proofs.named.Named.get.Goals as goal

pub returns : goal.returns
returns g c = c.get.ensures.value ∙ (sym (found-entries c.args.name.now c.self.inside.held.entries) ∙ ap (lookup (bytes_eq c.args.name.now)) c.self.view_is)
