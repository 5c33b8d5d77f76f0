use Rattle.std.proofs.Common.{◌∙◌}
use Rattle.frag_index.proofs.Stepping.{lent-numbered, lent-tree}
use Rattle.frag_index.proofs.index.Index.top.Goals as goal

pub returns-clause-same : goal.returns-clause-same
returns-clause-same c = lent-tree c.get.result _ c.get.ensures ∙ c.requires.blocks.trees c.args.name.now

pub returns-clause-numbered : goal.returns-clause-numbered
returns-clause-numbered c = lent-numbered c.args.self.now.tops.sites.items c.get.result _ c.get.ensures (c.requires.blocks.numbered c.args.name.now)
