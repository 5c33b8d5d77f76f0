use Rattle.std.proofs.Common.{◌∙◌, refl, ap}
use Rattle.std.specs.Map.{lookup}
use Rattle.std.specs.Str.{bytes_eq}
use Rattle.derive_build.proofs.Spelling.{found_entries}
use Rattle.derive_build.proofs.names.Names.get.Goals as goal

pub returns : goal.returns
returns c =
    c.copied.ensures ∙ (c.get.ensures.value
    ∙ (found_entries _ (λ a b. refl) (record { name = c.args.name }) c.self.inside.held.entries ∙ ap (lookup (bytes_eq c.args.name.now)) c.self.view_is))
