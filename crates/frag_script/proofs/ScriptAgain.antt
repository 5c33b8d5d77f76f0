-- What the lines spell is read, and what is read as none they don't spell.
use Rattle.std.proofs.Common.{ℕ, ◌≡◌, ◌+◌, ◌<◌, arith, List, [], ◌∷◌, ◌++◌, length, Option, Some, None, Result, Ok, Err, refl, sym, ap, ◌∙◌, inl, inr}
use Rattle.std.specs.Prelude.{nat_le, IfErr}
use Rattle.std.proofs.lemmas.Bool.{cases_Bool}
use Rattle.std.proofs.lemmas.Bool.Decides.{nat_tests}
use Rattle.frag_tree.specs.declared.script.Script.{Script}
use Rattle.frag_tree.specs.declared.script.ScriptLine.{ScriptLine}
use Rattle.frag_tree.specs.declared.statement.Statement.{Statement}
use Rattle.frag_script.specs.declared.fault.ScriptFault.{ScriptFault}
use Rattle.frag_script.specs.declared.fault.ScriptFault.TheVariants.{Syntax, TooLong, Typing, Memory}
use Rattle.frag_script.specs.Reading.{fine, faulty, too_long, outcome, behind_line, held_at, held_of, lines_at, script_at}
use Rattle.frag_script.specs.ScriptLines.{AllGood, Holds, IsGood, RefusedFor, SpellsLines, SpellsScript, lines_of}
use Rattle.frag_script.specs.Telling.{Tells}
use Rattle.frag_script.proofs.Taking.{given}
use Rattle.frag_script.proofs.AgainStatements.{some_tokens, whole-again}
use Rattle.frag_script.proofs.ScriptTakes.{fine_script, held-takes, lines-takes}

pub held-again : (line : List ℕ) (held : Option Statement) → Holds held line → held_at line ≡ given held
unfolding held_at held_of Holds
held-again line None holds = rw (holds) refl
held-again line (Some found) holds = rw (holds.0, some_tokens found, whole-again found holds.1) refl

pub lines-again : (number : ℕ) (lines : List (List ℕ)) (script : List ScriptLine) → SpellsLines number lines script → lines_at number lines ≡ fine_script script
unfolding lines_at
lines-again number [] script spelled = ap fine_script (sym spelled)
lines-again number (line ∷ lines) script spelled =
    rw (held-again line spelled.0 spelled.1, lines-again (number + 1) lines spelled.2 spelled.3) (ap fine_script (sym spelled.4))

pub one_script : (bytes : List ℕ) (one other : Script) → SpellsScript bytes one → SpellsScript bytes other → one.lines ≡ other.lines
one_script bytes one other spelled same =
    let both_ways : fine_script one.lines ≡ fine_script other.lines = sym (lines-again 1 (lines_of bytes) one.lines spelled) ∙ lines-again 1 (lines_of bytes) other.lines same in
    cc

abbrev bad_line : ℕ → Result (List ScriptLine) ℕ
bad_line number = Err number

-- the first wrong line, of lines the first of which has this number
record FirstBad (bad number : ℕ) (lines : List (List ℕ)) : Type 0 where
  before : List (List ℕ)
  line : List ℕ
  after : List (List ℕ)
  whole : lines ≡ before ++ line ∷ after
  good : AllGood before
  wrong : ¬ IsGood line
  place : bad ≡ length before + number

not_good : (line : List ℕ) → held_at line ≡ None → ¬ IsGood line
not_good line none good = absurd (let both_ways : given good.0 ≡ None = sym (held-again line good.0 good.1) ∙ none in cc)

first_bad : (number bad : ℕ) (line : List ℕ) (lines : List (List ℕ)) (held : Option (Option Statement)) (others : Result (List ScriptLine) ℕ) → held_at line ≡ held → ((later : ℕ) → others ≡ bad_line later → FirstBad later (number + 1) lines) → behind_line number held others ≡ bad_line bad → FirstBad bad number (line ∷ lines)
first_bad number bad line lines None others is next e = record {
  before = [];
  line = line;
  after = lines;
  whole = refl;
  good = tt;
  wrong = not_good line is;
  place = let same : number ≡ bad = cc in omega (arith, same);
}
first_bad number bad line lines (Some held) (Ok script) is next e = absurd cc
first_bad number bad line lines (Some held) (Err later) is next e =
    let same : later ≡ bad = cc in
    let rest = next later refl in
    record {
      before = line ∷ rest.before;
      line = rest.line;
      after = rest.after;
      whole = ap (λ (all : List (List ℕ)). line ∷ all) rest.whole;
      good = ((held, held-takes line held is), rest.good);
      wrong = rest.wrong;
      place = omega (arith, same, rest.place);
    }

lines-bad : (number : ℕ) (lines : List (List ℕ)) (bad : ℕ) → lines_at number lines ≡ bad_line bad → FirstBad bad number lines
unfolding lines_at
lines-bad number [] bad e = absurd cc
lines-bad number (line ∷ lines) bad e = first_bad number bad line lines (held_at line) (lines_at (number + 1) lines) refl (λ later e2. lines-bad (number + 1) lines later e2) e

outcome-faulty : (read : Result (List ScriptLine) ℕ) (bad : ℕ) → outcome [] 0 read ≡ faulty bad → read ≡ bad_line bad
outcome-faulty (Err number) bad e = let same : number ≡ bad = cc in ap bad_line same
outcome-faulty (Ok script) bad e =
    elim (cases_Bool (nat_le (0 + length script) 65536)) [
      | inl within ↦ absurd (let e2 : fine script ≡ faulty bad = rw (within) at e in cc)
      | inr past ↦ absurd (let e2 : too_long (0 + length script) ≡ faulty bad = rw (past) at e in cc)
    ]

outcome-long : (read : Result (List ScriptLine) ℕ) (count : ℕ) → outcome [] 0 read ≡ too_long count → (script : List ScriptLine) × (read ≡ fine_script script) × (count ≡ length script) × (65536 < count)
outcome-long (Err number) count e = absurd cc
outcome-long (Ok script) count e =
    elim (cases_Bool (nat_le (0 + length script) 65536)) [
      | inl within ↦ absurd (let e2 : fine script ≡ too_long count = rw (within) at e in cc)
      | inr past ↦
          let e2 : too_long (0 + length script) ≡ too_long count = rw (past) at e in
          let same : 0 + length script ≡ count = cc in
          let large : 65536 < 0 + length script = grind (arith, nat_tests, past) in
          (script, refl, omega (arith, same), omega (arith, same, large))
    ]

refused_for : (bytes : List ℕ) (fault : ScriptFault) → Tells (Err fault) (script_at bytes) → RefusedFor fault bytes
unfolding script_at
refused_for bytes (Syntax line) tells =
    let first = lines-bad 1 (lines_of bytes) line (outcome-faulty (lines_at 1 (lines_of bytes)) line tells) in
    record { before = first.before; bad = first.line; after = first.after; whole = first.whole; all_good = first.good; is_bad = first.wrong; place = first.place }
refused_for bytes (TooLong count) tells =
    let long = outcome-long (lines_at 1 (lines_of bytes)) count tells in
    record { script = record { lines = long.0 }; spelled = lines-takes 1 (lines_of bytes) long.0 long.1; counted = long.2; past = long.3 }
refused_for bytes (Typing line kind) tells = absurd tells
refused_for bytes Memory tells = tt

pub is_refused : (bytes : List ℕ) (result : Result Script ScriptFault) → Tells result (script_at bytes) → IfErr result (λ fault. RefusedFor fault bytes)
is_refused bytes (Ok script) tells = tt
is_refused bytes (Err fault) tells = refused_for bytes fault tells
