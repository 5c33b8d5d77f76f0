-- How a script in plain numbers grows by a line (this project's own rule).
use Rattle.std.specs.Prelude.{ℕ, ◌≡◌, ◌≤◌, ◌+◌, List, [], ◌∷◌, ◌++◌, length, Option, option_and_then}
use Rattle.frag_index.specs.declared.place.Found.{Found}
use Rattle.frag_index.specs.Walks.{found_seen}
use Rattle.frag_tree.specs.declared.script.Script.{Script}
use Rattle.frag_tree.specs.declared.script.ScriptLine.{ScriptLine}
use Rattle.frag_tree.specs.declared.statement.Statement.{Statement}
use Rattle.frag_tree.specs.Trees.{CrateTree}
use Rattle.frag_sem.specs.CallPlaces.{RegisterAt, register_at}
use Rattle.frag_sem.specs.Meaning.{ActsAt, Bound, Outcome, Standing}
use Rattle.frag_sem.specs.Presets.{called}
use Rattle.frag_sem.specs.TextMeaning.{acts_at, text_meaning}
use Rattle.frag_eval.specs.declared.deed.Deed.{Deed}
use Rattle.frag_eval.specs.declared.deed.Deed.TheVariants as deed
use Rattle.frag_eval.specs.declared.deed.Target.{Target}
use Rattle.frag_eval.specs.declared.lower.Lowering.{Lowering}
use Rattle.frag_eval.specs.declared.names.Reading.{Reading}
use Rattle.frag_eval.specs.declared.role.Role.{Role}
use Rattle.frag_eval.specs.Courses.{deeds_dues}
use Rattle.frag_eval.specs.Deeds.{deeds_mean}
use Rattle.frag_eval.specs.Lowering.{Does, Knows, finds_bound, outcome_at}
use Rattle.frag_eval.specs.Prefixes.{Due, dues, dues_of}

abbrev pub target_of : RegisterAt → Role → ℕ → Target
target_of found role line = record { address = found.address; width = found.register.word; role = role; line = line }

abbrev pub acts_found : Found → ActsAt
acts_found found = acts_at (found_seen found)

abbrev pub standing_of : List ℕ → List Bound → Standing
standing_of answers names = record { answers = answers; names = names }

abbrev pub a_due : Role → ℕ → List Due
a_due role line = record { role = role; line = line } ∷ []

-- A read came behind the deeds, and its word has the next number.
pub record IsRead (old now : Lowering) (found : Found) (role : Role) (line : ℕ) (reading : Reading) : Type 0 where
  pub deeds : now.deeds.items ≡ old.deeds.items ++ deed.Read (target_of (found_seen found) role line) ∷ []
  pub reads : now.reads ≡ old.reads + 1
  pub bound : now.bound ≡ old.bound
  pub unit : reading.unit.now ≡ found.register.now
  pub read : reading.read ≡ old.reads

-- Deeds came behind the others that do what this outcome has, whatever words were read before and whatever answers are to come; and they ask for these accesses.
pub record Grows (old now : Lowering) (outcome : List ℕ → List Bound → Outcome) (dues : List Due) : Type 0 where
  pub more : List Deed
  pub deeds : now.deeds.items ≡ old.deeds.items ++ more
  pub does : (words answers : List ℕ) (names : List Bound) → length words ≡ old.reads → Knows words (finds_bound old.bound) names → Does words answers (outcome answers names) more (finds_bound now.bound) now.reads
  pub due : deeds_dues more ≡ dues
  pub few : now.reads ≤ length now.deeds.items

-- no more words are read than there are deeds
abbrev pub IsFew : Lowering → Type 0
IsFew lowering = lowering.reads ≤ length lowering.deeds.items

-- the register that a statement calls was found, or there is none
abbrev pub IsCalled : CrateTree → Statement → Option RegisterAt → Type 0
IsCalled krate statement found = found ≡ option_and_then (register_at krate) (called statement)

-- The deeds of a line came behind the others, where it calls this register, or none.
abbrev pub TakesLine : Lowering → Lowering → ScriptLine → Option RegisterAt → Type 0
TakesLine old now line found =
    (krate : CrateTree) → IsCalled krate line.statement found → Grows old now (λ answers names. outcome_at krate answers names line) (dues_of krate line)

-- Deeds do what a script means against a crate, whatever the answers are, and ask for its accesses.
pub record AreAll (krate : CrateTree) (script : Script) (deeds : List Deed) : Type 0 where
  pub meant : (answers : List ℕ) → text_meaning krate script answers ≡ deeds_mean deeds [] answers
  pub due : dues krate script ≡ deeds_dues deeds
