-- When the words of a text can be told from the pieces that it is put together of.
use Rattle.std.specs.Prelude.{ℕ, ◌≡◌, List, [], ◌∷◌, Bool, true, false, ◌&&◌, ◌||◌, ◌==◌, not}
use Rattle.std.specs.List.{list_all}
use Rattle.pac_base.specs.Names.{is_word_byte}
use Rattle.frag_words.specs.Lines.{Piece, text, word, Line, lines_text, lines_words}
use Rattle.frag_words.specs.Words.{Word, pairs, words_in}

-- what stands behind the end of a text: a letter, digit or `_`, or this byte
pub data Next : Type 0 where
  letters : Next
  byte : ℕ → Next

-- a text begins so
abbrev pub IsNext : Next → List ℕ → Type 0
IsNext letters [] = ⊥
IsNext letters (first ∷ others) = is_word_byte first ≡ true
IsNext (byte b) [] = ⊥
IsNext (byte b) (first ∷ others) = first ≡ b

-- a run of letters goes on with letters
abbrev pub is_run_byte : ℕ → Bool
is_run_byte b = is_word_byte b || b == 39

-- no word goes on from this byte to what stands next
abbrev pub parts : ℕ → Next → Bool
parts b letters = not (b == 47) && not (is_run_byte b)
parts b (byte c) = not (b == 47) && (not (is_run_byte b && is_word_byte c) && not (pairs b c))

-- the text holds no slash, and no word goes on from its end
abbrev pub is_parted : List ℕ → Next → Bool
is_parted [] next = true
is_parted (b ∷ []) next = parts b next
is_parted (b ∷ (c ∷ others)) next = not (b == 47) && is_parted (c ∷ others) next

-- letters, digits and `_`, and some
abbrev pub is_run : Word → Bool
is_run [] = false
is_run (first ∷ others) = is_word_byte first && list_all is_word_byte others

-- what the pieces begin with; behind them the line ends
abbrev pub next_of : List Piece → Next
next_of [] = byte 10
next_of (text [] ∷ pieces) = next_of pieces
next_of (text (b ∷ others) ∷ pieces) = byte b
next_of (word w ∷ pieces) = letters

abbrev pub no_letter : Next → Bool
no_letter letters = false
no_letter (byte b) = not (is_word_byte b)

-- no word goes on from one piece to the next
abbrev pub is_joined : List Piece → Bool
is_joined [] = true
is_joined (text bytes ∷ pieces) = is_parted bytes (next_of pieces) && is_joined pieces
is_joined (word w ∷ pieces) = no_letter (next_of pieces) && is_joined pieces

-- the words among the pieces are runs
abbrev pub Runs : List Piece → Type 0
Runs [] = Unit {0}
Runs (text bytes ∷ pieces) = Runs pieces
Runs (word w ∷ pieces) = (is_run w ≡ true) × Runs pieces

-- a line of which the words can be told
pub record IsFine (l : Line) : Type 0 where
  pub joined : is_joined l.pieces ≡ true
  pub runs : Runs l.pieces

-- lines of which the words can be told
abbrev pub AreFine : List Line → Type 0
AreFine [] = Unit {0}
AreFine (l ∷ lines) = IsFine l × AreFine lines

-- The words of the text of such lines are the words of the lines.
abbrev pub WordsOfLines : Type 0
WordsOfLines = (lines : List Line) → AreFine lines → words_in (lines_text lines) ≡ lines_words lines
