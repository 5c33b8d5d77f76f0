use Rattle.patch_edits.specs.Commands.{IsCounted}
use Rattle.svd_model.specs.Facts.{IsDescribed}
use Rattle.svd_model.specs.Trees.{device_rows}
use Rattle.patch_apply.proofs.Standing.{Standing}
use Rattle.patch_apply.proofs.applying.applied.Given as goal

abbrev pub invariant-loop-command : goal.invariant-loop-command
invariant-loop-command l = IsDescribed l.device × Standing l.commands l.state l.command-index (device_rows l.device) × IsCounted l.device l.total
