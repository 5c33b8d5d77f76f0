-- The lines of a text, and the part of a line that holds its words.
use Rattle.std.proofs.Common.{ℕ, ◌≡◌, ◌-◌, ◌≤◌, arith, eqb, List, [], ◌∷◌, ◌++◌, length, take, Bool, true, false, refl, sym, ap, ◌∙◌, inl, inr, append-nil}
use Rattle.std.specs.Prelude.{◌&&◌, ◌==◌, if◌then◌else◌}
use Rattle.std.specs.List.{onto_first}
use Rattle.std.proofs.lemmas.Bool.{cases_Bool}
use Rattle.std.proofs.lemmas.List.{take_at, length-append}
use Rattle.frag_words.specs.Words.{begins}
use Rattle.frag_script.specs.ScriptLines.{before_comment, is_last, lines_of, without_return}

-- ---- CR at the end

is_last-append : (before : List ℕ) (last : ℕ) → is_last (before ++ last ∷ []) ≡ false
is_last-append [] last = refl
is_last-append (byte ∷ before) last = refl

and_false : (test : Bool) → (test && false) ≡ false
and_false true = refl
and_false false = refl

pub return_dropped : (before : List ℕ) (last : ℕ) → eqb last 13 ≡ true → without_return (before ++ last ∷ []) ≡ before
unfolding without_return
return_dropped [] last is_return = rw (is_return) refl
return_dropped (byte ∷ before) last is_return =
    rw (is_last-append before last, and_false (eqb byte 13)) (ap (λ (bytes : List ℕ). byte ∷ bytes) (return_dropped before last is_return))

pub return_kept : (before : List ℕ) (last : ℕ) → eqb last 13 ≡ false → without_return (before ++ last ∷ []) ≡ before ++ last ∷ []
unfolding without_return
return_kept [] last other = rw (other) refl
return_kept (byte ∷ before) last other =
    rw (is_last-append before last, and_false (eqb byte 13)) (ap (λ (bytes : List ℕ). byte ∷ bytes) (return_kept before last other))

pub return_none : (line : List ℕ) → length line ≡ 0 → line ≡ without_return line
unfolding without_return
return_none [] none = refl
return_none (byte ∷ line) none = absurd (omega arith)

-- ---- what stands before the first place where a test of a byte and what follows it stops

unfoldable pub before_stop : (ℕ → List ℕ → Bool) → List ℕ → List ℕ
before_stop stops [] = []
before_stop stops (byte ∷ rest) = if stops byte rest then [] else byte ∷ before_stop stops rest

unfoldable pub from_stop : (ℕ → List ℕ → Bool) → List ℕ → List ℕ
from_stop stops [] = []
from_stop stops (byte ∷ rest) = if stops byte rest then byte ∷ rest else from_stop stops rest

stop-whole : (stops : ℕ → List ℕ → Bool) (text : List ℕ) → before_stop stops text ++ from_stop stops text ≡ text
unfolding before_stop from_stop
stop-whole stops [] = refl
stop-whole stops (byte ∷ rest) =
    elim (cases_Bool (stops byte rest)) [
      | inl here ↦ rw (here) refl
      | inr later ↦ rw (later) (ap (λ (bytes : List ℕ). byte ∷ bytes) (stop-whole stops rest))
    ]

pub from_stop-here : (stops : ℕ → List ℕ → Bool) (text : List ℕ) (byte : ℕ) (rest : List ℕ) → text ≡ byte ∷ rest → stops byte rest ≡ true → from_stop stops text ≡ text
unfolding from_stop
from_stop-here stops text byte rest whole here = ap (from_stop stops) whole ∙ rw (here) (sym whole)

pub from_stop-later : (stops : ℕ → List ℕ → Bool) (text : List ℕ) (byte : ℕ) (rest : List ℕ) → text ≡ byte ∷ rest → stops byte rest ≡ false → from_stop stops text ≡ from_stop stops rest
unfolding from_stop
from_stop-later stops text byte rest whole later = ap (from_stop stops) whole ∙ rw (later) refl

pub from_stop-end : (stops : ℕ → List ℕ → Bool) (text : List ℕ) → length text ≡ 0 → from_stop stops text ≡ []
unfolding from_stop
from_stop-end stops [] none = refl
from_stop-end stops (byte ∷ rest) none = absurd (omega arith)

pub taken_before : (stops : ℕ → List ℕ → Bool) (text rest : List ℕ) → from_stop stops text ≡ rest → take (length text - length rest) text ≡ before_stop stops text
taken_before stops text rest e =
    let whole : text ≡ before_stop stops text ++ rest = sym (stop-whole stops text) ∙ ap (λ (bytes : List ℕ). before_stop stops text ++ bytes) e in
    let count : length (before_stop stops text) ≡ length text - length rest = omega (arith, ap length whole, length-append (before_stop stops text) rest) in
    ap (take (length text - length rest)) whole ∙ take_at (before_stop stops text) rest (length text - length rest) count

pub all_before : (stops : ℕ → List ℕ → Bool) (text : List ℕ) → from_stop stops text ≡ [] → text ≡ before_stop stops text
all_before stops text e = sym (stop-whole stops text) ∙ (ap (λ (bytes : List ℕ). before_stop stops text ++ bytes) e ∙ append-nil (before_stop stops text))

abbrev pub is_comment : ℕ → List ℕ → Bool
is_comment byte rest = byte == 47 && begins 47 rest

pub before_comment-is : (text : List ℕ) → before_stop is_comment text ≡ before_comment text
unfolding before_stop before_comment
before_comment-is [] = refl
before_comment-is (byte ∷ rest) =
    elim (cases_Bool (is_comment byte rest)) [
      | inl here ↦ rw (here) refl
      | inr later ↦ rw (later) (ap (λ (bytes : List ℕ). byte ∷ bytes) (before_comment-is rest))
    ]

abbrev pub is_feed : ℕ → List ℕ → Bool
is_feed byte rest = byte == 10

abbrev lines_behind : List ℕ → List (List ℕ)
lines_behind [] = []
lines_behind (byte ∷ rest) = lines_of rest

lines-is : (text : List ℕ) → lines_of text ≡ before_stop is_feed text ∷ lines_behind (from_stop is_feed text)
unfolding before_stop from_stop
lines-is [] = refl
lines-is (byte ∷ rest) =
    elim (cases_Bool (is_feed byte rest)) [
      | inl here ↦ rw (here) refl
      | inr later ↦ rw (later) (ap (onto_first byte) (lines-is rest))
    ]

pub line_ends : (text : List ℕ) (rest : List ℕ) (byte : ℕ) (after line : List ℕ) → from_stop is_feed text ≡ rest → rest ≡ byte ∷ after → line ≡ take (length text - length rest) text → lines_of text ≡ line ∷ lines_of after
line_ends text rest byte after line e whole is_line =
    lines-is text
    ∙ (ap (λ (bytes : List ℕ). before_stop is_feed text ∷ lines_behind bytes) (e ∙ whole)
    ∙ ap (λ (bytes : List ℕ). bytes ∷ lines_of after) (sym (is_line ∙ taken_before is_feed text rest e)))

pub last_line : (text : List ℕ) → from_stop is_feed text ≡ [] → lines_of text ≡ text ∷ []
last_line text e =
    lines-is text
    ∙ (ap (λ (bytes : List ℕ). before_stop is_feed text ∷ lines_behind bytes) e
    ∙ ap (λ (bytes : List ℕ). bytes ∷ []) (sym (all_before is_feed text e)))

pub stop_fits : (stops : ℕ → List ℕ → Bool) (text rest : List ℕ) → from_stop stops text ≡ rest → length rest ≤ length text
stop_fits stops text rest e = omega (arith, ap length (stop-whole stops text), length-append (before_stop stops text) (from_stop stops text), ap length e)
