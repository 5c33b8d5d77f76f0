use Rattle.pac_cli.proofs.RefusedWords.{refused_words_lem}
use Rattle.pac_cli.proofs.laws.refused_words.Goals as goal

pub returns : goal.returns
returns c = refused_words_lem
