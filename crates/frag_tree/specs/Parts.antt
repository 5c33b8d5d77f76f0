-- What the printer's parts of a line are.
use Rattle.std.specs.Prelude.{ℕ, ◌*◌, List, replicate}
use Rattle.frag_words.specs.Lines.{Piece, word}
use Rattle.frag_tree.specs.declared.line.Part.{Part}
use Rattle.frag_tree.specs.declared.line.Part.TheVariants as part
use Rattle.frag_tree.specs.Numerals.{hexadecimal, decimal, width, truth}
use Rattle.frag_tree.specs.Phrases.{says}
use Rattle.frag_tree.specs.Registers.{kind_word}

-- the piece that a part stands for
abbrev pub piece_of : Part → Piece
piece_of (part.Text phrase) = says phrase
piece_of (part.Name name) = word name.now
piece_of (part.Hexadecimal number) = hexadecimal number
piece_of (part.Decimal number) = decimal number
piece_of (part.Width bits) = width bits
piece_of (part.Truth value) = truth value
piece_of (part.Kind kind) = word (kind_word kind)

-- the spaces in front of a line
abbrev pub spaces : ℕ → List ℕ
spaces depth = replicate (4 * depth) 32
