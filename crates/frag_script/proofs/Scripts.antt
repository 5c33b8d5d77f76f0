-- The statements that were met, and what reading the lines comes to.
use Rattle.std.proofs.Common.{ℕ, suc, ◌≡◌, ◌+◌, ◌<◌, ◌≤◌, arith, List, [], ◌∷◌, ◌++◌, length, Bool, true, false, Option, Some, None, Result, Ok, Err, refl, sym, ap, ◌∙◌, inl, inr, append-nil, add-zero}
use Rattle.std.specs.Prelude.{nat_eq, nat_le, option_map, if◌then◌else◌}
use Rattle.std.specs.Borrow.{Bor}
use Rattle.std.specs.List.{onto_first}
use Rattle.std.proofs.lemmas.Bool.{cases_Bool}
use Rattle.std.proofs.lemmas.Bool.Decides.{nat_tests}
use Rattle.frag_tree.specs.declared.script.ScriptLine.{ScriptLine}
use Rattle.frag_tree.specs.declared.statement.Statement.{Statement}
use Rattle.frag_script.specs.declared.fault.ScriptFault.{ScriptFault}
use Rattle.frag_script.specs.declared.fault.ScriptFault.TheVariants.{Syntax, TooLong, Typing, Memory}
use Rattle.frag_script.specs.Reading.{Outcome, fine, faulty, too_long, outcome, behind_line, held_at, lines_at, lines_left}
use Rattle.frag_script.specs.ScriptLines.{lines_of}
use Rattle.frag_script.specs.Telling.{FailsAt, FailsOn, Tells, held_told}

-- what is left of a text
abbrev pub left_now : Option (Bor (List ℕ)) → Option (List ℕ)
left_now left = option_map (λ rest. rest.now) left

onto_first-length : (byte : ℕ) (parts : List (List ℕ)) → length (onto_first byte parts) ≤ suc (length parts)
onto_first-length byte [] = omega arith
onto_first-length byte (part ∷ parts) = omega arith

pub lines_fit : (text : List ℕ) → length (lines_of text) ≤ length text + 1
lines_fit [] = omega arith
lines_fit (byte ∷ rest) =
    elim (cases_Bool (nat_eq byte 10)) [
      | inl here ↦ rw (here) (omega (arith, lines_fit rest))
      | inr later ↦ rw (later) (omega (arith, lines_fit rest, onto_first-length byte (lines_of rest)))
    ]

onto_first-some : (byte : ℕ) (parts : List (List ℕ)) → 1 ≤ length (onto_first byte parts)
onto_first-some byte [] = omega arith
onto_first-some byte (part ∷ parts) = omega arith

pub lines_some : (text : List ℕ) → 1 ≤ length (lines_of text)
lines_some [] = omega arith
lines_some (byte ∷ rest) =
    elim (cases_Bool (nat_eq byte 10)) [
      | inl here ↦ rw (here) (omega arith)
      | inr later ↦ rw (later) (onto_first-some byte (lines_of rest))
    ]

pub lines_here : (left : Option (Bor (List ℕ))) (text : Bor (List ℕ)) (lines : List (List ℕ)) → left ≡ Some text → lines_of text.now ≡ lines → lines_left (left_now left) ≡ lines
lines_here left text lines is e = ap (λ (o : Option (Bor (List ℕ))). lines_left (left_now o)) is ∙ e

pub lines_over : (left : Option (Bor (List ℕ))) → left ≡ None → lines_left (left_now left) ≡ []
lines_over left is = ap (λ (o : Option (Bor (List ℕ))). lines_left (left_now o)) is

free_line : (number : ℕ) (script : Result (List ScriptLine) ℕ) → behind_line number (Some None) script ≡ script
free_line number (Ok script) = refl
free_line number (Err bad) = refl

first_line : (kept : List ScriptLine) (count number : ℕ) (line : List ℕ) (rest lines : List (List ℕ)) (held : Option (Option Statement)) → lines ≡ line ∷ rest → held_at line ≡ held → outcome kept count (lines_at number lines) ≡ outcome kept count (behind_line number held (lines_at (number + 1) rest))
unfolding lines_at
first_line kept count number line rest lines held whole e =
    ap (λ (all : List (List ℕ)). outcome kept count (lines_at number all)) whole
    ∙ ap (λ (o : Option (Option Statement)). outcome kept count (behind_line number o (lines_at (number + 1) rest))) e

pub line_kept : (kept made : List ScriptLine) (count more number : ℕ) (line : List ℕ) (rest lines : List (List ℕ)) (held : Option Statement) (statement : Statement) (all : Outcome) → lines ≡ line ∷ rest → held_at line ≡ Some held → held ≡ Some statement → ((script : Result (List ScriptLine) ℕ) → outcome made more script ≡ outcome kept count (behind_line number (held_told statement) script)) → outcome kept count (lines_at number lines) ≡ all → outcome made more (lines_at (number + 1) rest) ≡ all
line_kept kept made count more number line rest lines held statement all whole e is met so_far =
    let told : held_at line ≡ Some (Some statement) = e ∙ ap (λ (o : Option Statement). Some o) is in
    met (lines_at (number + 1) rest) ∙ (sym (first_line kept count number line rest lines (Some (Some statement)) whole told) ∙ so_far)

pub line_free : (kept : List ScriptLine) (count number : ℕ) (line : List ℕ) (rest lines : List (List ℕ)) (held : Option Statement) (all : Outcome) → lines ≡ line ∷ rest → held_at line ≡ Some held → held ≡ None → outcome kept count (lines_at number lines) ≡ all → outcome kept count (lines_at (number + 1) rest) ≡ all
line_free kept count number line rest lines held all whole e is so_far =
    let told : held_at line ≡ Some None = e ∙ ap (λ (o : Option Statement). Some o) is in
    sym (ap (outcome kept count) (free_line number (lines_at (number + 1) rest)))
    ∙ (sym (first_line kept count number line rest lines (Some None) whole told) ∙ so_far)

pub line_fails : (fault : ScriptFault) (kept : List ScriptLine) (count number : ℕ) (line : List ℕ) (rest lines : List (List ℕ)) (all : Outcome) → FailsOn (Err fault) number line → lines ≡ line ∷ rest → outcome kept count (lines_at number lines) ≡ all → FailsAt fault all
line_fails (Syntax bad) kept count number line rest lines all tells whole so_far =
    sym so_far ∙ (first_line kept count number line rest lines None whole tells.1 ∙ ap faulty (sym tells.0))
line_fails (TooLong many) kept count number line rest lines all tells whole so_far = absurd tells
line_fails (Typing bad kind) kept count number line rest lines all tells whole so_far = absurd tells
line_fails Memory kept count number line rest lines all tells whole so_far = tt

pub no_lines : (kept : List ScriptLine) (count number : ℕ) (lines : List (List ℕ)) (all : Outcome) → lines ≡ [] → outcome kept count (lines_at number lines) ≡ all → outcome kept count (Ok []) ≡ all
unfolding lines_at
no_lines kept count number lines all none so_far = sym (ap (λ (l : List (List ℕ)). outcome kept count (lines_at number l)) none) ∙ so_far

-- ---- at the end

pub told : (fault : ScriptFault) (all : Outcome) → FailsAt fault all → Tells (Err fault) all
told (Syntax bad) all e = e
told (TooLong count) all e = absurd e
told (Typing bad kind) all e = absurd e
told Memory all e = tt

pub is_long : (kept : List ScriptLine) (count : ℕ) (all : Outcome) → 65536 < count → outcome kept count (Ok []) ≡ all → all ≡ too_long count
is_long kept count all past e =
    let over : nat_le (count + 0) 65536 ≡ false = grind (arith, nat_tests) in
    sym e ∙ (ap (λ (test : Bool). if test then fine (kept ++ []) else too_long (count + 0)) over ∙ ap too_long (add-zero count))

pub is_fine : (kept : List ScriptLine) (count : ℕ) (all : Outcome) → count ≤ 65536 → outcome kept count (Ok []) ≡ all → all ≡ fine kept
is_fine kept count all within e =
    let under : nat_le (count + 0) 65536 ≡ true = grind (arith, nat_tests) in
    sym e ∙ (ap (λ (test : Bool). if test then fine (kept ++ []) else too_long (count + 0)) under ∙ ap fine (append-nil kept))
