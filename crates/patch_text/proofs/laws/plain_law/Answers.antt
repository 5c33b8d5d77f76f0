use Rattle.patch_text.proofs.Plain.{plain_law_again, plain_law_takes, whole_again, whole_takes}
use Rattle.patch_text.proofs.laws.plain_law.Goals as goal

pub returns-clause-whole : goal.returns-clause-whole
returns-clause-whole c place text clear = (whole_takes place text clear, whole_again place text)

pub returns-clause-front : goal.returns-clause-front
returns-clause-front c place text scalar rest = (plain_law_takes place text scalar rest, plain_law_again place text scalar rest)
