use Rattle.patch_ready.proofs.Spelled.{spelled_ready}
use Rattle.patch_ready.proofs.law.ready_law.Goals as goal

pub returns : goal.returns
returns c = spelled_ready
