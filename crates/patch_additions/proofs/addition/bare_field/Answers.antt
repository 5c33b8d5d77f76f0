use Rattle.std.proofs.Common.{map, ap}
use Rattle.svd_model.specs.Steps.{set}
use Rattle.svd_model.specs.Trees.{numbered, set_tree}
use Rattle.patch_additions.proofs.addition.bare_field.Goals as goal

pub returns-clause-below : goal.returns-clause-below
unfolding numbered
returns-clause-below c = ap (λ sets. numbered set 0 (map set_tree sets)) c.new.ensures.items
