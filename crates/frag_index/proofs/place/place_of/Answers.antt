use Rattle.std.proofs.Common.{ap, ◌∙◌}
use Rattle.std.specs.Prelude.{unwrap_or}
use Rattle.frag_sem.specs.Layout.{place_of}
use Rattle.frag_tree.specs.Trees.{block_tree}
use Rattle.frag_rules.proofs.Measuring.{place-known, some-or}
use Rattle.frag_index.proofs.place.place_of.Goals as goal

pub returns : goal.returns
returns c sites fits =
    c.unwrap_or.ensures
    ∙ (ap (λ o. unwrap_or o 0) (c.copied.ensures ∙ (c.get.ensures ∙ place-known (block_tree c.args.site.now.block.now) c.args.site.now.within.measures c.args.site.now.fields c.args.site.now.layout fits.laid c.args.field.now))
    ∙ some-or (place_of (block_tree c.args.site.now.block.now) c.args.field.now))
