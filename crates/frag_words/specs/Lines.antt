-- Lines of text, made of fixed texts and of words, and indented by four spaces for each open brace.
use Rattle.std.specs.Prelude.{ℕ, ◌*◌, List, [], ◌∷◌, ◌++◌, codes, replicate}
use Rattle.std.specs.List.{flat_map}
use Rattle.frag_words.specs.Words.{Word, words_in}

-- a piece of a line: a fixed text, or one word of letters, digits and `_`
pub data Piece : Type 0 where
  text : List ℕ → Piece
  word : Word → Piece

-- a line: how many braces are open, and its pieces
pub record Line : Type 0 where
  pub depth : ℕ
  pub pieces : List Piece

abbrev pub piece_text : Piece → List ℕ
piece_text (text bytes) = bytes
piece_text (word bytes) = bytes

abbrev pub piece_words : Piece → List Word
piece_words (text bytes) = words_in bytes
piece_words (word bytes) = bytes ∷ []

-- the bytes of a line, LF included
unfoldable pub line_text : Line → List ℕ
line_text line = replicate (4 * line.depth) 32 ++ (flat_map piece_text line.pieces ++ codes "\n")

-- the words of a line
abbrev pub line_words : Line → List Word
line_words line = flat_map piece_words line.pieces

-- the bytes of lines
abbrev pub lines_text : List Line → List ℕ
lines_text lines = flat_map line_text lines

-- the words of lines
abbrev pub lines_words : List Line → List Word
lines_words lines = flat_map line_words lines

-- a line
abbrev pub line : ℕ → List Piece → Line
line depth pieces = record { depth = depth; pieces = pieces }

-- a line of one fixed text
abbrev pub fixed : ℕ → List ℕ → Line
fixed depth bytes = line depth (text bytes ∷ [])

-- an empty line
abbrev pub empty_line : Line
empty_line = line 0 []

-- A list in braces that runs over lines: what opens it, the lines within, which stand one brace deeper, and `}`.
abbrev pub braced : ℕ → List Piece → List Line → List Line
braced depth opening within = line depth opening ∷ (within ++ fixed depth (codes "}") ∷ [])
