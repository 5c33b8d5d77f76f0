-- What stands at a byte, as the code has it.
use Rattle.std.specs.Prelude.{ℕ}
use Rattle.frag_words.specs.Words.{Front as WordFront, gap, word}
use Rattle.frag_words.specs.declared.word.Front.{Front}
use Rattle.frag_words.specs.declared.word.Front.TheVariants.{Gap, Word}

abbrev pub front_of : Front → WordFront
front_of (Gap more) = gap more
front_of (Word more) = word more

-- how many bytes behind the first belong to it
abbrev pub behind_of : Front → ℕ
behind_of (Gap more) = more
behind_of (Word more) = more
