-- The lines of block text: its bytes cut at line feeds, what each line says at which indent, and the first line that says nothing.
use Rattle.std.specs.Prelude.{ℕ, Bool, true, false, not, ◌&&◌, ◌||◌, ◌+◌, ◌-◌, List, [], ◌∷◌, ◌++◌, length, Option, Some, None, codes, ◌==◌, if◌then◌else◌}
use Rattle.std.specs.Str.{is_utf8}
use Rattle.text_scan.specs.Fronts.{rest_of, stripped_of}
use Rattle.text_scan.specs.Steps.{◌>>=◌}
use Rattle.yaml_block.specs.declared.line.Line.{Line}
use Rattle.yaml_block.specs.declared.line.Said.{Said}
use Rattle.yaml_block.specs.declared.line.Said.TheVariants.{Nothing, Mark, Told}
use Rattle.yaml_block.specs.declared.lines.Found.{Found}
use Rattle.yaml_block.specs.Spaces.{is_space, starts, ends}
use Rattle.yaml_block.specs.Contents.{content_at}

abbrev pub put : ℕ → List (List ℕ) → List (List ℕ)
put byte [] = (byte ∷ []) ∷ []
put byte (line ∷ lines) = (byte ∷ line) ∷ lines

-- Lines end at a line feed, and a carriage return before it is dropped.
unfoldable pub raw_lines : List ℕ → List (List ℕ)
raw_lines [] = [] ∷ []
raw_lines (byte ∷ text) = if byte == 10 then [] ∷ raw_lines text else if (byte == 13) && starts 10 text then raw_lines text else put byte (raw_lines text)

-- a line without the carriage return at its end
unfoldable pub without_return : List ℕ → List ℕ
without_return [] = []
without_return (byte ∷ []) = if byte == 13 then [] else byte ∷ []
without_return (byte ∷ next ∷ text) = byte ∷ without_return (next ∷ text)

abbrev pub is_no_feed : ℕ → Bool
is_no_feed byte = not (byte == 10)

-- the lines of a text that may be missing
abbrev pub lines_left : Option (List ℕ) → List (List ℕ)
lines_left None = []
lines_left (Some text) = raw_lines text

abbrev pub after_mark : Option (List ℕ) → List ℕ → List ℕ
after_mark (Some rest) bytes = rest
after_mark None bytes = bytes

-- without the byte order mark at the start
unfoldable pub unmarked : List ℕ → List ℕ
unmarked bytes = after_mark (stripped_of (239 ∷ 187 ∷ 191 ∷ []) bytes) bytes

-- a line that says nothing: blank, or a comment behind spaces
unfoldable pub is_skipped : List ℕ → Bool
is_skipped text = (length text == 0) || starts 35 text

abbrev pub ends_behind : Option (List ℕ) → Bool
ends_behind None = false
ends_behind (Some rest) = ends rest

-- the line `---`
unfoldable pub is_mark : List ℕ → Bool
is_mark raw = ends_behind (stripped_of (codes "---") raw)

-- what a line says at its indent
unfoldable pub line_at : ℕ → List ℕ → Option Said
line_at number raw = do
  content ← content_at (rest_of is_space raw)
  Some (Told (record { number = number; indent = length raw - length (rest_of is_space raw); content = content }))

-- what a line says, where `first` tells that no line before it said anything
unfoldable pub said_at : Bool → ℕ → List ℕ → Option Said
said_at first number raw =
    if not (is_utf8 raw) then None else if is_skipped (rest_of is_space raw) then Some Nothing else if first && is_mark raw then Some Mark else line_at number raw

abbrev pub behind_line : Line → Found → Found
behind_line line found = record { lines = line ∷ found.lines; fault = found.fault }

-- lines that were found before, in front of those that were found
abbrev pub joined : List Line → Found → Found
joined front found = record { lines = front ++ found.lines; fault = found.fault }

-- what a line says, and then the lines behind it, where none of them is the first or one of them may be
abbrev pub lines_with : Option Said → ℕ → (Bool → Found) → Bool → Found
lines_with None number others first = record { lines = []; fault = Some number }
lines_with (Some Nothing) number others first = others first
lines_with (Some Mark) number others first = others false
lines_with (Some (Told line)) number others first = behind_line line (others false)

-- the lines from a number on
unfoldable pub lines_from : Bool → ℕ → List (List ℕ) → Found
lines_from first number [] = record { lines = []; fault = None }
lines_from first number (raw ∷ raws) = lines_with (said_at first number raw) number (λ still. lines_from still (number + 1) raws) first

-- the lines of the bytes, counted from 1
unfoldable pub found_in : List ℕ → Found
found_in bytes = lines_from true 1 (raw_lines (unmarked bytes))
