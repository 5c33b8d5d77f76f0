-- The script that reading gives is the one that the lines spell.
use Rattle.std.proofs.Common.{ℕ, ◌≡◌, ◌+◌, ◌≤◌, arith, List, [], ◌∷◌, length, Option, Some, None, Result, Ok, Err, refl, ap, ◌∙◌, inl, inr}
use Rattle.std.specs.Prelude.{nat_le, IfOk}
use Rattle.std.proofs.lemmas.Bool.{cases_Bool}
use Rattle.std.proofs.lemmas.Bool.Decides.{nat_tests}
use Rattle.text_scan.specs.Steps.{◌>>=◌}
use Rattle.text_scan.proofs.Steps.{bind_some}
use Rattle.frag_tree.specs.declared.script.Script.{Script}
use Rattle.frag_tree.specs.declared.script.ScriptLine.{ScriptLine}
use Rattle.frag_tree.specs.declared.statement.Statement.{Statement}
use Rattle.frag_script.specs.declared.fault.ScriptFault.{ScriptFault}
use Rattle.frag_script.specs.Reading.{fine, too_long, outcome, behind_line, held_at, held_of, is_end, lines_at, script_at, whole_statement}
use Rattle.frag_script.specs.ScriptLines.{Holds, SpellsLines, SpellsScript, line_tokens, lines_of, put_at}
use Rattle.frag_script.specs.Telling.{Tells}
use Rattle.frag_script.specs.Tokens.{Token}
use Rattle.frag_script.proofs.Taking.{given, passed_on}
use Rattle.frag_script.proofs.TakenStatements.{at_end, whole-takes}

held_of-takes : (text : List Token) (line : List ℕ) (held : Option Statement) → line_tokens line ≡ Some text → held_of text ≡ given held → Holds held line
unfolding held_of Holds
held_of-takes text line held is e =
    elim (cases_Bool (is_end text)) [
      | inl ends ↦
          let e2 : given None ≡ given held = rw (ends) at e in
          passed_on None held (λ h. Holds h line) e2 (is ∙ ap given (at_end text ends))
      | inr goes_on ↦
          let e2 : (whole_statement text >>= λ found. given (given found)) ≡ given held = rw (goes_on) at e in
          let found = bind_some (whole_statement text) (λ found. given (given found)) held e2 in
          let taken = whole-takes text found.0 found.1 in
          passed_on (given found.0) held (λ h. Holds h line) found.2 (is ∙ ap given taken.0, taken.1)
    ]

pub held-takes : (line : List ℕ) (held : Option Statement) → held_at line ≡ given held → Holds held line
unfolding held_at
held-takes line held e =
    let tokens = bind_some (line_tokens line) held_of held e in
    held_of-takes tokens.0 line held tokens.1 tokens.2

abbrev pub fine_script : List ScriptLine → Result (List ScriptLine) ℕ
fine_script script = Ok script

behind-takes : (number : ℕ) (held : Option (Option Statement)) (others : Result (List ScriptLine) ℕ) (script : List ScriptLine) → behind_line number held others ≡ fine_script script → (one : Option Statement) × (rest : List ScriptLine) × (held ≡ Some one) × (others ≡ fine_script rest) × (script ≡ put_at number one rest)
behind-takes number None others script e = absurd cc
behind-takes number (Some held) (Ok rest) script e = (held, rest, refl, refl, cc)
behind-takes number (Some held) (Err bad) script e = absurd cc

pub lines-takes : (number : ℕ) (lines : List (List ℕ)) (script : List ScriptLine) → lines_at number lines ≡ fine_script script → SpellsLines number lines script
unfolding lines_at
lines-takes number [] script e = cc
lines-takes number (line ∷ lines) script e =
    let parts = behind-takes number (held_at line) (lines_at (number + 1) lines) script e in
    (parts.0, held-takes line parts.0 parts.2, parts.1, lines-takes (number + 1) lines parts.1 parts.3, parts.4)

-- what is fine is a script of at most 65,536 statements
pub outcome-fine : (read : Result (List ScriptLine) ℕ) (script : List ScriptLine) → outcome [] 0 read ≡ fine script → (read ≡ fine_script script) × (length script ≤ 65536)
outcome-fine (Err bad) script e = absurd cc
outcome-fine (Ok read) script e =
    elim (cases_Bool (nat_le (0 + length read) 65536)) [
      | inl within ↦
          let e2 : fine read ≡ fine script = rw (within) at e in
          let same : read ≡ script = cc in
          let small : length read ≤ 65536 = grind (arith, nat_tests, within) in
          (ap fine_script same, omega (arith, small, ap length same))
      | inr past ↦ absurd (let e2 : too_long (0 + length read) ≡ fine script = rw (past) at e in cc)
    ]

pub is_spelled : (bytes : List ℕ) (result : Result Script ScriptFault) → Tells result (script_at bytes) → IfOk result (λ script. SpellsScript bytes script)
unfolding script_at
is_spelled bytes (Ok script) tells = lines-takes 1 (lines_of bytes) script.lines (outcome-fine (lines_at 1 (lines_of bytes)) script.lines tells).0
is_spelled bytes (Err fault) tells = tt

pub is_bounded : (bytes : List ℕ) (result : Result Script ScriptFault) → Tells result (script_at bytes) → IfOk result (λ script. length script.lines ≤ 65536)
unfolding script_at
is_bounded bytes (Ok script) tells = (outcome-fine (lines_at 1 (lines_of bytes)) script.lines tells).1
is_bounded bytes (Err fault) tells = tt
