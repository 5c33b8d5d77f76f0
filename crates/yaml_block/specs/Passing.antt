-- Passing over lines from the first on: which mappings are open, where a line fits none of them, and the first line that holds a mapping
-- or list too deep. That lines pass exactly where some entries are spelled by them is proved.
use Rattle.std.specs.Prelude.{ℕ, ◌+◌, Bool, false, true, List, [], ◌∷◌, length, reverse, Option, Some, None, ◌==◌, nat_le, nat_lt, if◌then◌else◌}
use Rattle.text_scan.specs.Steps.{◌>>=◌}
use Rattle.yaml_block.specs.declared.value.Value.{Value}
use Rattle.yaml_block.specs.declared.value.Value.TheVariants.{Scalar, Sequence, Mapping}
use Rattle.yaml_block.specs.declared.content.Content.{Content}
use Rattle.yaml_block.specs.declared.content.Content.TheVariants.{Item, Key, Entry}
use Rattle.yaml_block.specs.declared.line.Line.{Line}
use Rattle.yaml_block.specs.declared.pass.Behind.{Behind}
use Rattle.yaml_block.specs.declared.pass.Behind.TheVariants as behind
use Rattle.yaml_block.specs.declared.pass.Pass.{Pass}
use Rattle.yaml_block.specs.declared.pass.Verdict.{Verdict}
use Rattle.yaml_block.specs.declared.pass.Verdict.TheVariants.{Right, Wrong}
use Rattle.yaml_block.specs.Nesting.{first, too_deep}

-- the indent of the innermost mapping that is open, and those of the mappings round it; what the last line was; and the first line that
-- holds something too deep
pub record State : Type 0 where
  pub top : ℕ
  pub outer : List ℕ
  pub last : Behind
  pub deep : Option ℕ

abbrev pub state_of : Pass → State
state_of pass = record { top = pass.top; outer = reverse pass.outer.items; last = pass.last; deep = pass.deep }

-- before the first line, where the file's mapping is open
abbrev pub start : State
start = record { top = 0; outer = []; last = behind.Value; deep = None }

-- the innermost mapping that isn't deeper than the indent, and those round it
unfoldable pub down_to : ℕ → ℕ → List ℕ → ℕ × List ℕ
down_to indent top [] = (top, [])
down_to indent top (next ∷ outer) = if nat_lt indent top then down_to indent next outer else (top, next ∷ outer)

abbrev pub or_first : Option ℕ → List ℕ → Option ℕ
or_first (Some line) lines = Some line
or_first None lines = first lines

abbrev pub is_collection : Value → Bool
is_collection (Scalar text) = false
is_collection (Sequence texts) = true
is_collection (Mapping pairs) = true

-- the line, where it holds a flow collection that nests too deep
abbrev pub deep_flow : Bool → ℕ → ℕ → List ℕ
deep_flow collects level line = if collects then too_deep level line else []

-- a line is noted where it holds what stands too deep
abbrev pub noted : List ℕ → State → State
noted lines state = record state { deep = or_first state.deep lines }

-- behind a key without a value, a deeper entry begins a mapping
abbrev pub opened_behind : Behind → ℕ → State → State
opened_behind behind.Value indent state = state
opened_behind (behind.Key number) indent state =
    if nat_lt state.top indent
    then record { top = indent; outer = state.top ∷ state.outer; last = state.last; deep = or_first state.deep (too_deep (length state.outer + 1) number) }
    else state
opened_behind (behind.Item other) indent state = state

unfoldable pub opened : ℕ → State → State
opened indent state = opened_behind state.last indent state

-- an entry at an indent, in the mapping that is open there
unfoldable pub placed : ℕ → ℕ → Bool → Behind → State → Option State
placed number indent collects last state =
    if (down_to indent state.top state.outer).0 == indent
    then Some (record { top = (down_to indent state.top state.outer).0; outer = (down_to indent state.top state.outer).1; last = last; deep = or_first state.deep (deep_flow collects (length (down_to indent state.top state.outer).1 + 1) number) })
    else None

unfoldable pub entry_step : ℕ → ℕ → Bool → Behind → State → Option State
entry_step number indent collects last state = placed number indent collects last (opened indent state)

-- the list that an item at an indent stands in: behind a key without a value, not less deep than it, a list begins
abbrev pub list_behind : Behind → ℕ → State → Option State
list_behind behind.Value indent state = None
list_behind (behind.Key number) indent state =
    if nat_le state.top indent
    then Some (record state { last = behind.Item indent; deep = or_first state.deep (too_deep (length state.outer + 1) number) })
    else None
list_behind (behind.Item other) indent state = if other == indent then Some state else None

unfoldable pub list_at : ℕ → State → Option State
list_at indent state = list_behind state.last indent state

unfoldable pub item_step : ℕ → ℕ → Bool → State → Option State
item_step number indent collects state = list_at indent state >>= λ inside. Some (noted (deep_flow collects (length inside.outer + 1 + 1) number) inside)

abbrev pub content_step : ℕ → ℕ → Content → State → Option State
content_step number indent (Item value) state = item_step number indent (is_collection value) state
content_step number indent (Key key) state = entry_step number indent false (behind.Key number) state
content_step number indent (Entry key value) state = entry_step number indent (is_collection value) behind.Value state

-- what stands behind a line, if it fits
unfoldable pub step : State → Line → Option State
step state line = content_step line.number line.indent line.content state

abbrev pub verdict_behind : Option State → ℕ → (State → Verdict) → Verdict
verdict_behind None number others = Wrong number
verdict_behind (Some state) number others = others state

-- the number of the first line that doesn't fit, else the first line that holds something too deep
unfoldable pub verdict : State → List Line → Verdict
verdict state [] = Right state.deep
verdict state (line ∷ lines) = verdict_behind (step state line) line.number (λ next. verdict next lines)
