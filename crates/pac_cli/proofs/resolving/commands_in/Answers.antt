use Rattle.std.proofs.Common.{subst, sym}
use Rattle.std.proofs.lemmas.Result.{err_from_is_err_and}
use Rattle.pac_fault.specs.Classes.{class_of}
use Rattle.pac_fault.specs.declared.fault.PacFault.{PacFault}
use Rattle.patch_model.proofs.OneReading.{is_patch}
use Rattle.yaml_block.specs.Nodes.{node_tree}
use Rattle.pac_cli.specs.Stages.{ReadsNot}
use Rattle.pac_cli.proofs.Stopping.{no_block_text, no_patch_commands}
use Rattle.pac_cli.proofs.resolving.commands_in.Goals as goal

pub returns-in_err-node-clause-read : goal.returns-in_err-node-clause-read
returns-in_err-node-clause-read c =
    let p = err_from_is_err_and c.from_residual.result c.from_residual.ensures.1 in
    rw p.1 (subst (λ (f : PacFault). ReadsNot (class_of f) c.args.bytes.now f) (sym p.2) (no_block_text c.args.bytes.now c.in_err-node.field-0.0 c.in_err-node.ensures.refused))

pub commands-requires : goal.commands-requires
commands-requires c = record { patch = is_patch c.args.bytes.now (node_tree c.in_ok-node.node) c.in_ok-node.ensures.spelled }

pub returns-in_err-commands-clause-read : goal.returns-in_err-commands-clause-read
returns-in_err-commands-clause-read c =
    let p = err_from_is_err_and c.from_residual-in_err-commands.result c.from_residual-in_err-commands.ensures.1 in
    rw p.1 (subst (λ (f : PacFault). ReadsNot (class_of f) c.args.bytes.now f) (sym p.2)
    (no_patch_commands c.args.bytes.now (node_tree c.in_ok-node.node) c.in_err-commands.field-0.0 c.in_ok-node.ensures.spelled c.in_err-commands.ensures.refused))
