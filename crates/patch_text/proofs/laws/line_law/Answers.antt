use Rattle.patch_text.proofs.Lines.{says_again, says_takes}
use Rattle.patch_text.proofs.laws.line_law.Goals as goal

pub returns : goal.returns
returns c first number raw said = (says_takes first number raw said, says_again first number raw said)
