use Rattle.patch_text.proofs.SpokenPatterns.{pattern_is, pattern_takes}
use Rattle.patch_text.proofs.laws.pattern_law.Goals as goal

pub returns : goal.returns
returns c text alternatives = (pattern_takes text alternatives, pattern_is text alternatives)
