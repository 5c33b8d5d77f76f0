use Rattle.std.proofs.Common.{◌∙◌, refl, ap}
use Rattle.std.specs.Map.{lookup}
use Rattle.derive_sources.specs.Places.{is_place}
use Rattle.derive_sources.proofs.Indexes.{found_entries}
use Rattle.derive_sources.proofs.index.Index.get.Goals as goal

pub returns : goal.returns
returns c =
    c.copied.ensures ∙ (c.get.ensures.value
    ∙ (found_entries _ (λ a b. refl) (record { owner = c.args.owner; name = c.args.name }) c.self.inside.held.entries ∙ ap (lookup (is_place c.args.owner c.args.name.now)) c.self.view_is))
