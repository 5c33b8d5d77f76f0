use Rattle.std.proofs.Common.{sym, ap, ◌∙◌}
use Rattle.frag_sem.specs.CallPlaces.{body_count}
use Rattle.frag_tree.specs.Trees.{block_tree}
use Rattle.frag_rules.specs.Naming.{named_in}
use Rattle.frag_index.specs.Sites.{field_count}
use Rattle.frag_index.proofs.Stepping.{copied-now}
use Rattle.frag_index.proofs.site.Site.count_of.Goals as goal

pub returns-in-Member : goal.returns-in-Member
returns-in-Member c sites fits =
    c.type_count.ensures
    ∙ (ap field_count (copied-now c.get.result _ c.get.ensures ∙ (ap (named_in c.args.self.now.fields) c.bytes.ensures.same ∙ fits.laid.found c.in-Member.field))
    ∙ sym (ap (body_count (block_tree c.args.self.now.block.now).head.fields) c.in-Member.is))

pub returns-in-Field : goal.returns-in-Field
returns-in-Field c sites fits = sym (ap (body_count (block_tree c.args.self.now.block.now).head.fields) c.in-Field.is)

pub returns-in-At : goal.returns-in-At
returns-in-At c sites fits = sym (ap (body_count (block_tree c.args.self.now.block.now).head.fields) c.in-At.is)

pub returns-in-AtIndex : goal.returns-in-AtIndex
returns-in-AtIndex c sites fits = sym (ap (body_count (block_tree c.args.self.now.block.now).head.fields) c.in-AtIndex.is)
