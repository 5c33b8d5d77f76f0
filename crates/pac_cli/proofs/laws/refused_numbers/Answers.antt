use Rattle.pac_cli.proofs.RefusedWords.{refused_numbers_lem}
use Rattle.pac_cli.proofs.laws.refused_numbers.Goals as goal

pub returns : goal.returns
returns c = refused_numbers_lem
