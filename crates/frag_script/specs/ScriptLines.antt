-- Which script the lines of a text spell, and why none (this project's own rule).
use Rattle.std.specs.Prelude.{ℕ, ◌≡◌, ◌+◌, ◌<◌, List, [], ◌∷◌, ◌++◌, length, Bool, true, false, ◌&&◌, ◌==◌, Option, Some, None, if◌then◌else◌}
use Rattle.std.specs.List.{list_any, slice_split}
use Rattle.frag_words.specs.Words.{begins}
use Rattle.frag_tree.specs.declared.script.Script.{Script}
use Rattle.frag_tree.specs.declared.script.ScriptLine.{ScriptLine}
use Rattle.frag_tree.specs.declared.statement.Statement.{Statement}
use Rattle.frag_script.specs.declared.fault.ScriptFault.{ScriptFault}
use Rattle.frag_script.specs.declared.fault.ScriptFault.TheVariants.{Syntax, TooLong, Typing, Memory}
use Rattle.frag_script.specs.Statements.{statement_tokens, is_valid}
use Rattle.frag_script.specs.Tokens.{Token, tokens_in}

-- ---- a line

abbrev pub is_last : List ℕ → Bool
is_last [] = true
is_last (byte ∷ rest) = false

-- a line without one CR at its end
unfoldable pub without_return : List ℕ → List ℕ
without_return [] = []
without_return (byte ∷ rest) = if byte == 13 && is_last rest then [] else byte ∷ without_return rest

-- what stands before the first `//`
unfoldable pub before_comment : List ℕ → List ℕ
before_comment [] = []
before_comment (byte ∷ rest) = if byte == 47 && begins 47 rest then [] else byte ∷ before_comment rest

abbrev pub code_tokens : List ℕ → Option (List Token)
code_tokens code = if list_any (λ byte. byte == 13) code then None else Some (tokens_in code)

-- the tokens of a line: a CR at its end and a comment are free, and no other CR is
unfoldable pub line_tokens : List ℕ → Option (List Token)
line_tokens line = code_tokens (before_comment (without_return line))

-- A line holds a statement where its tokens are those of the statement, and none where it has no tokens.
unfoldable pub Holds : Option Statement → List ℕ → Type 0
Holds None line = line_tokens line ≡ Some []
Holds (Some statement) line = (line_tokens line ≡ Some (statement_tokens statement)) × (is_valid statement ≡ true)

-- ---- a text

-- the lines, which LF parts
abbrev pub lines_of : List ℕ → List (List ℕ)
lines_of bytes = slice_split (λ byte. byte == 10) bytes

-- a statement with its line, where there is one, and then others
abbrev pub put_at : ℕ → Option Statement → List ScriptLine → List ScriptLine
put_at number None others = others
put_at number (Some statement) others = record { line = number; statement = statement } ∷ others

-- Lines, of which the first has this number, spell a script: each holds no statement, or the next one.
abbrev pub SpellsLines : ℕ → List (List ℕ) → List ScriptLine → Type 0
SpellsLines number [] script = script ≡ []
SpellsLines number (line ∷ lines) script =
    (held : Option Statement) × Holds held line × (others : List ScriptLine) × SpellsLines (number + 1) lines others × (script ≡ put_at number held others)

-- The text spells the script; its lines are counted from 1.
abbrev pub SpellsScript : List ℕ → Script → Type 0
SpellsScript bytes script = SpellsLines 1 (lines_of bytes) script.lines

-- ---- refusals

abbrev pub IsGood : List ℕ → Type 0
IsGood line = (held : Option Statement) × Holds held line

abbrev pub AllGood : List (List ℕ) → Type 0
AllGood [] = Unit {0}
AllGood (line ∷ lines) = IsGood line × AllGood lines

-- The line of this number, counted from 1, is the first that holds neither nothing nor a statement.
pub record IsFirstBad (number : ℕ) (lines : List (List ℕ)) : Type 0 where
  pub before : List (List ℕ)
  pub bad : List ℕ
  pub after : List (List ℕ)
  pub whole : lines ≡ before ++ bad ∷ after
  pub all_good : AllGood before
  pub is_bad : ¬ IsGood bad
  pub place : number ≡ length before + 1

-- The text spells a script of so many statements, more than 65,536.
pub record IsTooLong (count : ℕ) (bytes : List ℕ) : Type 0 where
  pub script : Script
  pub spelled : SpellsScript bytes script
  pub counted : count ≡ length script.lines
  pub past : 65536 < count

-- when a text is refused
abbrev pub RefusedFor : ScriptFault → List ℕ → Type 0
RefusedFor (Syntax line) bytes = IsFirstBad line (lines_of bytes)
RefusedFor (TooLong count) bytes = IsTooLong count bytes
RefusedFor (Typing line kind) bytes = ⊥
RefusedFor Memory bytes = Unit {0}
