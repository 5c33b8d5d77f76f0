use Rattle.std.proofs.Common.{◌∙◌, refl, map, ap, Some, if◌then◌else◌}
use Rattle.std.specs.Map.{lookup}
use Rattle.std.specs.Str.{bytes_eq}
use Rattle.derive_build.proofs.Spelling.{entry_of, found_inserted}
use Rattle.derive_build.proofs.names.Names.set.Goals as goal

pub returns : goal.returns
returns c = λ text.
    ap (λ es. lookup (bytes_eq text) (map entry_of es)) c.in_ok-insert.ensures.entries
    ∙ (found_inserted _ (λ a b. refl) c.self.inside.held.entries (record { name = c.args.name }) c.args.number text
    ∙ ap (λ all. if bytes_eq text c.args.name.now then Some c.args.number else lookup (bytes_eq text) all) c.self.view_is)
