use Rattle.patch_apply.proofs.Standing.{all_done, broke_off, went_on}
use Rattle.svd_model.specs.Trees.{device_rows}
use Rattle.patch_apply.proofs.applying.applied.Goals as goal

pub loop-command-preserved : goal.loop-command-preserved
loop-command-preserved c = (
  c.in_ok-one.ensures.described,
  went_on c.args.commands.now c.args.state.now c.loop-command.command-index (device_rows c.loop-command.device) c.command-item.result c.loop-command-test.true c.command-item.is
      c.loop-command.invariant.1 (device_rows c.one.new.device) c.in_ok-one.ensures.applied,
  c.in_ok-one.ensures.counted,
)

pub returns-in_err-one-clause-patched : goal.returns-in_err-one-clause-patched
returns-in_err-one-clause-patched c =
    broke_off c.args.commands.now c.args.state.now c.loop-command.command-index (device_rows c.loop-command.device) c.command-item.result c.loop-command-test.true c.command-item.is
    c.loop-command.invariant.1 device_rows c.in_err-one.field-0.0 c.from_residual.result c.from_residual.ensures.1 c.in_err-one.ensures.applied

pub returns-clause-patched : goal.returns-clause-patched
returns-clause-patched c =
    all_done c.args.commands.now c.args.state.now c.loop-command.command-index (device_rows c.loop-command.device) c.loop-command-test.false c.loop-command.invariant.1
