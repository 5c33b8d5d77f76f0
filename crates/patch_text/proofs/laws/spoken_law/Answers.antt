use Rattle.patch_text.proofs.SpokenPatterns.{commands_spelled}
use Rattle.patch_text.proofs.laws.spoken_law.Goals as goal

pub returns-clause-commands : goal.returns-clause-commands
returns-clause-commands c = commands_spelled

pub returns-clause-bytes : goal.returns-clause-bytes
returns-clause-bytes c bytes orders read = (read.0, read.1, commands_spelled read.0 orders read.2)
