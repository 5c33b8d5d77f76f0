use Rattle.std.proofs.Common.{sym, ◌∙◌, ap, map, Some, if◌then◌else◌}
use Rattle.std.specs.Map.{lookup}
use Rattle.std.specs.Str.{bytes_eq}
use Rattle.frag_rules.proofs.Entries.{entry_of, found-inserted, kept-new, kept-there}
use Rattle.frag_rules.proofs.named.Named.keep.Goals as goal

pub returns-then-has : goal.returns-then-has
returns-then-has g c = kept-there _ _ _ (sym c.has.ensures ∙ c.if-has.true)

pub returns : goal.returns
returns g c = kept-new _ _ _ _ (sym c.has.ensures ∙ c.if-has.false) (λ other. ap (λ es. lookup (bytes_eq other) (map entry_of es)) c.in_ok-insert.ensures.entries
    ∙ (found-inserted c.self.inside.held.entries c.args.name c.args.item other
    ∙ ap (λ all. if bytes_eq other c.args.name.now then Some c.args.item else lookup (bytes_eq other) all) c.self.view_is))
