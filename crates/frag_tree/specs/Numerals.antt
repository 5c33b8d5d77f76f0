-- The words that stand for numbers, widths and truths in a crate text.
use Rattle.std.specs.Prelude.{ℕ, Bool, true, false, ◌++◌, codes, decimal as decimal_text}
use Rattle.std.specs.Fmt.{digits}
use Rattle.frag_words.specs.Words.{Word}
use Rattle.frag_words.specs.Lines.{Piece, word}
use Rattle.pac_base.specs.declared.width.Width.{Width}
use Rattle.pac_base.specs.declared.width.Width.TheVariants.{W8, W16, W32, W64}

-- Addresses, offsets, masks, constants and values: `0x` and lower-case digits without leading zeros.
abbrev pub hexadecimal_word : ℕ → Word
hexadecimal_word number = codes "0x" ++ digits 16 false number

-- Counts, gaps, strides, shifts, bit offsets and field widths: decimal without leading zeros.
abbrev pub decimal_word : ℕ → Word
decimal_word number = decimal_text number

-- the type of a number of this width
abbrev pub width_word : Width → Word
width_word W8 = codes "u8"
width_word W16 = codes "u16"
width_word W32 = codes "u32"
width_word W64 = codes "u64"

abbrev pub truth_word : Bool → Word
truth_word true = codes "true"
truth_word false = codes "false"

abbrev pub hexadecimal : ℕ → Piece
hexadecimal number = word (hexadecimal_word number)

abbrev pub decimal : ℕ → Piece
decimal number = word (decimal_word number)

abbrev pub width : Width → Piece
width bits = word (width_word bits)

abbrev pub truth : Bool → Piece
truth value = word (truth_word value)
