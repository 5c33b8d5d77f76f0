use Rattle.std.proofs.Common.{◌∙◌, ap, map, Some, if◌then◌else◌}
use Rattle.std.specs.Map.{lookup}
use Rattle.std.specs.Str.{bytes_eq}
use Rattle.frag_rules.proofs.Entries.{entry_of, found-inserted}
use Rattle.frag_rules.proofs.named.Named.set.Goals as goal

pub returns : goal.returns
returns g c = λ other. ap (λ es. lookup (bytes_eq other) (map entry_of es)) c.in_ok-insert.ensures.entries
    ∙ (found-inserted c.self.inside.held.entries c.args.name c.args.item other
    ∙ ap (λ all. if bytes_eq other c.args.name.now then Some c.args.item else lookup (bytes_eq other) all) c.self.view_is)
