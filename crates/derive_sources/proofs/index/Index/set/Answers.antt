use Rattle.std.proofs.Common.{◌∙◌, refl, map, ap, Some, if◌then◌else◌}
use Rattle.std.specs.Map.{lookup}
use Rattle.derive_sources.specs.Places.{is_place}
use Rattle.derive_sources.proofs.Indexes.{entry_of, found_inserted}
use Rattle.derive_sources.proofs.index.Index.set.Goals as goal

pub returns : goal.returns
returns c = λ other text.
    ap (λ es. lookup (is_place other text) (map entry_of es)) c.in_ok-insert.ensures.entries
    ∙ (found_inserted _ (λ a b. refl) c.self.inside.held.entries (record { owner = c.args.owner; name = c.args.name }) c.args.number other text
    ∙ ap (λ all. if is_place other text (c.args.owner, c.args.name.now) then Some c.args.number else lookup (is_place other text) all) c.self.view_is)
