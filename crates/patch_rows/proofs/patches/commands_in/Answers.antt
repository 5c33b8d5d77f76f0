use Rattle.yaml_block.specs.Nodes.{node_tree}
use Rattle.patch_model.proofs.Patches.{block_patch}
use Rattle.patch_rows.proofs.patches.commands_in.Goals as goal

pub commands-requires : goal.commands-requires
commands-requires c = record { patch = block_patch c.as_bytes.result.now (node_tree c.in_ok-node.node) c.in_ok-node.ensures.spelled }
