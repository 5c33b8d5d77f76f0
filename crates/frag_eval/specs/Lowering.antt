-- A statement in plain numbers: which deeds come of it, and what they have to do with what it means (this project's own rule).
use Rattle.std.specs.Prelude.{ℕ, ◌≡◌, ◌<◌, ◌^◌, List, ◌++◌, length, Option, Some, None, IfSome, option_map, if◌then◌else◌}
use Rattle.std.specs.Map.{lookup}
use Rattle.std.specs.Str.{bytes_eq}
use Rattle.frag_tree.specs.declared.script.ScriptLine.{ScriptLine}
use Rattle.frag_tree.specs.Trees.{CrateTree}
use Rattle.frag_sem.specs.Meaning.{Acts, Bound, Outcome, bound_as, outcome_of}
use Rattle.frag_sem.specs.ScriptTyping.{reader_name}
use Rattle.frag_sem.specs.TextMeaning.{text_acts, text_at}
use Rattle.frag_eval.specs.declared.deed.Deed.{Deed}
use Rattle.frag_eval.specs.declared.deed.Put.{Put}
use Rattle.frag_eval.specs.declared.names.Names.{Names}
use Rattle.frag_eval.specs.declared.names.Reading.{Reading}
use Rattle.frag_eval.specs.Deeds.{deeds_mean, put_into, word_at}
use Rattle.frag_eval.specs.Prefixes.{reads_in}

-- ---- names

-- how names are looked up
abbrev pub Finding : Type 0
Finding = List ℕ → Option Reading

-- those that are bound
abbrev pub finds_bound : List (List ℕ × Reading) → Finding
finds_bound bound name = lookup (bytes_eq name) bound

-- those that are bound, and `r` where that has a reader
abbrev pub finds_with : Option Reading → List (List ℕ × Reading) → Finding
finds_with None bound name = finds_bound bound name
finds_with (Some reading) bound name = if bytes_eq name reader_name then Some reading else finds_bound bound name

abbrev pub finds : Names → Finding
finds names = finds_with names.reader names.bound.now

-- what is known of a bound name: what its register does with words, and its word
abbrev pub known_of : Option Bound → Option (Acts × ℕ)
known_of bound = option_map (λ bound. (bound.acts, bound.word)) bound

abbrev pub known_as : List ℕ → Option Reading → Option (Acts × ℕ)
known_as words reading = option_map (λ reading. (text_acts reading.unit.now, word_at words reading.read)) reading

-- Names are looked up as they are bound, each to one of the words that were read, which have 64 bits at most.
pub record Knows (words : List ℕ) (finding : Finding) (names : List Bound) : Type 0 where
  pub known : (name : List ℕ) → known_of (bound_as name names) ≡ known_as words (finding name)
  pub small : (read : ℕ) → word_at words read < 2 ^ 64
  pub within : (name : List ℕ) → IfSome (finding name) (λ reading. reading.read < length words)

-- ---- chains

-- what is put, if anything
abbrev pub maybe_put : ℕ → List ℕ → ℕ → Option Put → ℕ
maybe_put N words word None = word
maybe_put N words word (Some put) = put_into N words word put

-- ---- statements

abbrev pub outcome_at : CrateTree → List ℕ → List Bound → ScriptLine → Outcome
outcome_at krate answers names line = outcome_of (text_at krate) (record { answers = answers; names = names }) line.statement

-- What deeds do in the place of a statement: the same events come first, then those of the deeds behind; and names are looked up as they are bound then.
pub record Does (words answers : List ℕ) (outcome : Outcome) (deeds : List Deed) (finding : Finding) (count : ℕ) : Type 0 where
  pub meant : (others : List Deed) → deeds_mean (deeds ++ others) words answers ≡ outcome.events ++ deeds_mean others (words ++ reads_in outcome.events) outcome.after.answers
  pub knows : Knows (words ++ reads_in outcome.events) finding outcome.after.names
  pub words_read : length (words ++ reads_in outcome.events) ≡ count
