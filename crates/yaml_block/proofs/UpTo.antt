-- The first line such that no node fits the lines up to it.
use Rattle.std.proofs.Common.{◌≡◌, ◌<◌, ◌≤◌, ℕ, zero, suc, ◌+◌, Bool, true, false, not, List, [], ◌∷◌, Option, Some, None, take, refl, sym, ap, ◌∙◌, arith}
use Rattle.std.specs.Prelude.{nat_lt, if◌then◌else◌, ◌&&◌}
use Rattle.std.specs.Str.{is_utf8}
use Rattle.text_scan.specs.Fronts.{rest_of}
use Rattle.text_scan.specs.Steps.{◌>>=◌}
use Rattle.yaml_block.specs.declared.content.Content.{Content}
use Rattle.yaml_block.specs.declared.line.Line.{Line}
use Rattle.yaml_block.specs.declared.line.Said.{Said}
use Rattle.yaml_block.specs.declared.line.Said.TheVariants.{Nothing, Mark, Told}
use Rattle.yaml_block.specs.declared.lines.Found.{Found}
use Rattle.yaml_block.specs.declared.pass.Verdict.{Verdict}
use Rattle.yaml_block.specs.declared.pass.Verdict.TheVariants.{Right, Wrong}
use Rattle.yaml_block.specs.Answers.{Fits, IsBroken, up_to}
use Rattle.yaml_block.specs.Contents.{content_at}
use Rattle.yaml_block.specs.Lines.{found_in, is_mark, is_skipped, line_at, lines_from, lines_with, raw_lines, said_at, unmarked}
use Rattle.yaml_block.specs.Meanings.{entries_in, file_tree}
use Rattle.yaml_block.specs.Nesting.{first}
use Rattle.yaml_block.specs.Passing.{State, start, step, verdict, verdict_behind}
use Rattle.yaml_block.specs.Spaces.{is_space}
use Rattle.yaml_block.specs.Trees.{Tree}
use Rattle.yaml_block.proofs.Passing.{less_test, not_less_test}
use Rattle.yaml_block.proofs.Spelled.{passed, passes}

-- ---- a line has the number that it was given

abbrev HasNumber : ℕ → Option Said → Type 0
HasNumber number None = Unit {0}
HasNumber number (Some Nothing) = Unit {0}
HasNumber number (Some Mark) = Unit {0}
HasNumber number (Some (Told line)) = line.number ≡ number

numbered : (number indent : ℕ) (said : Option Content) → HasNumber number (said >>= λ content. Some (Told (record { number = number; indent = indent; content = content })))
numbered number indent None = tt
numbered number indent (Some content) = refl

unless : (number : ℕ) (b : Bool) (one other : Option Said) → HasNumber number one → HasNumber number other → HasNumber number (if b then one else other)
unless number true one other first second = first
unless number false one other first second = second

line_number : (number : ℕ) (raw : List ℕ) → HasNumber number (line_at number raw)
unfolding line_at
line_number number raw = numbered number _ (content_at (rest_of is_space raw))

said_number : (first : Bool) (number : ℕ) (raw : List ℕ) → HasNumber number (said_at first number raw)
unfolding said_at
said_number first number raw =
    unless number (not (is_utf8 raw)) _ _ tt (unless number (is_skipped (rest_of is_space raw)) _ _ tt (unless number (first && is_mark raw) _ _ tt (line_number number raw)))

-- ---- the first broken line, line by line

abbrev broken_step : Option State → ℕ → (State → Option ℕ) → Option ℕ
broken_step None number others = Some number
broken_step (Some state) number others = others state

abbrev broken_said : Option Said → Bool → ℕ → State → (Bool → State → Option ℕ) → Option ℕ
broken_said None first number state others = Some number
broken_said (Some Nothing) first number state others = others first state
broken_said (Some Mark) first number state others = others false state
broken_said (Some (Told line)) first number state others = broken_step (step state line) number (others false)

unfoldable broken : List (List ℕ) → Bool → ℕ → State → Option ℕ
broken [] first number state = None
broken (raw ∷ raws) first number state = broken_said (said_at first number raw) first number state (λ still next. broken raws still (number + 1) next)

-- what the verdict and the first line that has not the form say together
abbrev pub break_of : Verdict → Option ℕ → Option ℕ
break_of (Wrong line) fault = Some line
break_of (Right deep) fault = fault

abbrev pub broken_found : State → Found → Option ℕ
broken_found state found = break_of (verdict state found.lines) found.fault

step-found : (next : Option State) (line : Line) (number : ℕ) (found : Found) (others : State → Option ℕ) → line.number ≡ number → ((state : State) → others state ≡ broken_found state found) → broken_step next number others ≡ break_of (verdict_behind next line.number (λ state. verdict state found.lines)) found.fault
step-found None line number found others is same = ap Some (sym is)
step-found (Some state) line number found others is same = same state

said-found : (said : Option Said) (first : Bool) (number : ℕ) (state : State) (found : Bool → Found) (others : Bool → State → Option ℕ) → HasNumber number said → ((still : Bool) (next : State) → others still next ≡ broken_found next (found still)) → broken_said said first number state others ≡ broken_found state (lines_with said number found first)
unfolding verdict
said-found None first number state found others is same = refl
said-found (Some Nothing) first number state found others is same = same first state
said-found (Some Mark) first number state found others is same = same false state
said-found (Some (Told line)) first number state found others is same = step-found (step state line) line number (found false) (others false) is (same false)

broken-found : (raws : List (List ℕ)) (first : Bool) (number : ℕ) (state : State) → broken raws first number state ≡ broken_found state (lines_from first number raws)
unfolding broken lines_from verdict
broken-found [] first number state = refl
broken-found (raw ∷ raws) first number state =
    said-found (said_at first number raw) first number state (λ still. lines_from still (number + 1) raws) (λ still next. broken raws still (number + 1) next) (said_number first number raw) (λ still next. broken-found raws still (number + 1) next)

-- ---- the first broken line of the lines up to one

abbrev cut : ℕ → Option ℕ → Option ℕ
cut limit None = None
cut limit (Some line) = if nat_lt line limit then Some line else None

abbrev IsFrom : ℕ → Option ℕ → Type 0
IsFrom number None = Unit {0}
IsFrom number (Some line) = number ≤ line

from_more : (number : ℕ) (found : Option ℕ) → IsFrom (number + 1) found → IsFrom number found
from_more number None from = tt
from_more number (Some line) from = omega (arith, from)

step-from : (next : Option State) (number : ℕ) (others : State → Option ℕ) → ((state : State) → IsFrom (number + 1) (others state)) → IsFrom number (broken_step next number others)
step-from None number others from = omega arith
step-from (Some state) number others from = from_more number (others state) (from state)

said-from : (said : Option Said) (first : Bool) (number : ℕ) (state : State) (others : Bool → State → Option ℕ) → ((still : Bool) (next : State) → IsFrom (number + 1) (others still next)) → IsFrom number (broken_said said first number state others)
said-from None first number state others from = omega arith
said-from (Some Nothing) first number state others from = from_more number (others first state) (from first state)
said-from (Some Mark) first number state others from = from_more number (others false state) (from false state)
said-from (Some (Told line)) first number state others from = step-from (step state line) number (others false) (from false)

broken-from : (raws : List (List ℕ)) (first : Bool) (number : ℕ) (state : State) → IsFrom number (broken raws first number state)
unfolding broken
broken-from [] first number state = tt
broken-from (raw ∷ raws) first number state = said-from (said_at first number raw) first number state (λ still next. broken raws still (number + 1) next) (λ still next. broken-from raws still (number + 1) next)

cut-before : (number : ℕ) (found : Option ℕ) → IsFrom number found → None ≡ cut number found
cut-before number None from = refl
cut-before number (Some line) from = sym (rw (not_less_test line number from) refl)

cut-within : (limit line : ℕ) → line < limit → Some line ≡ cut limit (Some line)
cut-within limit line less = sym (rw (less_test line limit less) refl)

step-cut : (next : Option State) (number limit : ℕ) (few all : State → Option ℕ) → number < limit → ((state : State) → few state ≡ cut limit (all state)) → broken_step next number few ≡ cut limit (broken_step next number all)
step-cut None number limit few all within same = cut-within limit number within
step-cut (Some state) number limit few all within same = same state

said-cut : (said : Option Said) (first : Bool) (number limit : ℕ) (state : State) (few all : Bool → State → Option ℕ) → number < limit → ((still : Bool) (next : State) → few still next ≡ cut limit (all still next)) → broken_said said first number state few ≡ cut limit (broken_said said first number state all)
said-cut None first number limit state few all within same = cut-within limit number within
said-cut (Some Nothing) first number limit state few all within same = same first state
said-cut (Some Mark) first number limit state few all within same = same false state
said-cut (Some (Told line)) first number limit state few all within same = step-cut (step state line) number limit (few false) (all false) within (same false)

broken-cut : (raws : List (List ℕ)) (count : ℕ) (first : Bool) (number : ℕ) (state : State) → broken (take count raws) first number state ≡ cut (number + count) (broken raws first number state)
unfolding broken
broken-cut [] zero first number state = refl
broken-cut [] (suc count) first number state = refl
broken-cut (raw ∷ raws) zero first number state =
    let none : number + 0 ≡ number = omega arith in
    cut-before number (broken (raw ∷ raws) first number state) (broken-from (raw ∷ raws) first number state) ∙ ap (λ limit. cut limit (broken (raw ∷ raws) first number state)) (sym none)
broken-cut (raw ∷ raws) (suc count) first number state =
    let more : number + 1 + count ≡ number + suc count = omega arith in
    said-cut (said_at first number raw) first number (number + suc count) state (λ still next. broken (take count raws) still (number + 1) next) (λ still next. broken raws still (number + 1) next) (omega arith)
    (λ still next. broken-cut raws count still (number + 1) next ∙ ap (λ limit. cut limit (broken raws still (number + 1) next)) more)

-- ---- lines fit exactly where none is broken

pub fits_unbroken : (found : Found) (tree : Tree) → Fits found tree → broken_found start found ≡ None
fits_unbroken found tree fits = ap (λ said. break_of said found.fault) (passes fits.blocks.forest found.lines fits.blocks.spelled) ∙ fits.formed

abbrev SomeTree : Found → Type 0
SomeTree found = (tree : Tree) × Fits found tree

judged_fits : (found : Found) (said : Verdict) → verdict start found.lines ≡ said → break_of said found.fault ≡ None → SomeTree found
judged_fits found (Wrong line) is unbroken = absurd cc
judged_fits found (Right deep) is unbroken =
    let entries = passed found.lines deep is in
    (file_tree (entries_in entries.forest), record { formed = unbroken; blocks = record { forest = entries.forest; spelled = entries.spelled; meant = refl } })

pub unbroken_fits : (found : Found) → broken_found start found ≡ None → SomeTree found
unbroken_fits found unbroken = judged_fits found (verdict start found.lines) refl unbroken

up_to-broken : (bytes : List ℕ) (count line : ℕ) → broken_found start (found_in bytes) ≡ Some line → broken_found start (up_to count bytes) ≡ cut (1 + count) (Some line)
unfolding found_in
up_to-broken bytes count line is =
    sym (broken-found (take count (raw_lines (unmarked bytes))) true 1 start)
    ∙ broken-cut (raw_lines (unmarked bytes)) count true 1 start
    ∙ ap (cut (1 + count)) (broken-found (raw_lines (unmarked bytes)) true 1 start ∙ is)

pub is_broken : (bytes : List ℕ) (line : ℕ) → broken_found start (found_in bytes) ≡ Some line → IsBroken bytes line
is_broken bytes line is = record {
  none = λ tree fits.
      let within : Some line ≡ cut (1 + line) (Some line) = cut-within (1 + line) line (omega arith) in
      let nothing : Option ℕ = None in
      let fails : Some line ≡ nothing = within ∙ sym (up_to-broken bytes line line is) ∙ fits_unbroken (up_to line bytes) tree fits in
      absurd cc;
  before = λ earlier less.
      unbroken_fits (up_to earlier bytes) (up_to-broken bytes earlier line is ∙ sym (cut-before (1 + earlier) (Some line) (omega (arith, less))));
}

equal_by_less : (one other : ℕ) → (one < other → ⊥) → (other < one → ⊥) → one ≡ other
equal_by_less one other not_less not_more = grind (arith, not_less, not_more)

up_to-unbroken : (bytes : List ℕ) (count : ℕ) → broken_found start (found_in bytes) ≡ None → broken_found start (up_to count bytes) ≡ None
unfolding found_in
up_to-unbroken bytes count none =
    sym (broken-found (take count (raw_lines (unmarked bytes))) true 1 start)
    ∙ broken-cut (raw_lines (unmarked bytes)) count true 1 start
    ∙ ap (cut (1 + count)) (broken-found (raw_lines (unmarked bytes)) true 1 start ∙ none)

-- the first broken line is the only one
pub broken_at : (bytes : List ℕ) (line : ℕ) → IsBroken bytes line → broken_found start (found_in bytes) ≡ Some line
broken_at bytes line broken = at (broken_found start (found_in bytes)) refl
  where
    apart : (other : ℕ) → broken_found start (found_in bytes) ≡ Some other → (line < other → ⊥) × (other < line → ⊥)
    apart other is =
        let found = is_broken bytes other is in
        ((λ less. let fit = found.before line less in broken.none fit.0 fit.1), λ less. let fit = broken.before other less in found.none fit.0 fit.1)

    at : (said : Option ℕ) → broken_found start (found_in bytes) ≡ said → broken_found start (found_in bytes) ≡ Some line
    at None is = let fit = unbroken_fits (up_to line bytes) (up_to-unbroken bytes line is) in absurd (broken.none fit.0 fit.1)
    at (Some other) is = is ∙ ap Some (let both = apart other is in equal_by_less other line both.1 both.0)
