use Rattle.std.proofs.Common.{List, OnOk, subst}
use Rattle.yaml_block.specs.Nodes.{node_tree}
use Rattle.patch_model.specs.Acts.{GrowsBy, Order}
use Rattle.patch_model.proofs.TextWords.{deeds_met, deeds_ordered, texts_met, texts_ordered}
use Rattle.patch_model.proofs.listed.word_commands.Goals as goal

pub text_commands-requires : goal.text_commands-requires
text_commands-requires c = record { met = texts_met c.args.device c.args.line (node_tree c.args.node.now) c.args.word c.in-Some.text c.in-Some.ensures c.requires.met }

pub mapped_commands-requires : goal.mapped_commands-requires
mapped_commands-requires c = record { met = deeds_met c.args.device c.args.line (node_tree c.args.node.now) c.args.word c.in-None.ensures c.requires.met }

pub returns-in-Some : goal.returns-in-Some
returns-in-Some c =
    subst (λ (orders : List Order). OnOk c.text_commands.result (GrowsBy c.args.made.now c.text_commands.new.made orders)) (texts_ordered c.args.device c.args.line (node_tree c.args.node.now) c.args.parents.now c.args.word c.in-Some.text c.in-Some.ensures) c.text_commands.ensures

pub returns-in-None : goal.returns-in-None
returns-in-None c =
    subst (λ (orders : List Order). OnOk c.mapped_commands.result (GrowsBy c.args.made.now c.mapped_commands.new.made orders)) (deeds_ordered c.args.device c.args.line (node_tree c.args.node.now) c.args.parents.now c.args.word c.in-None.ensures) c.mapped_commands.ensures
