-- What follows the first place of a mark is found, and found again.
use Rattle.std.proofs.Common.{◌≡◌, ℕ, ◌≤◌, List, [], ◌∷◌, ◌++◌, length, Some, None, refl, sym, ap, ◌∙◌, inl, inr, arith}
use Rattle.text_scan.specs.Fronts.{stripped_of}
use Rattle.text_scan.proofs.FixedText.{stripped-append, stripped-Some}
use Rattle.text_scan.proofs.Steps.{cases_option}
use Rattle.xml_text.specs.Marks.{EndsAtFirst}
use Rattle.xml_text.specs.Reading.{or_else, after_mark}

at_once : (mark text rest : List ℕ) → stripped_of mark text ≡ Some rest → EndsAtFirst mark text rest
at_once mark text rest e = record {
  before = [];
  whole = stripped-Some mark text rest e;
  first = λ earlier behind whole. omega arith;
}

pub mark_takes : (mark text rest : List ℕ) → after_mark mark text ≡ Some rest → EndsAtFirst mark text rest
unfolding after_mark
mark_takes mark [] rest e = at_once mark [] rest e
mark_takes mark (byte ∷ text) rest e =
    elim (cases_option (stripped_of mark (byte ∷ text))) [
      | inl none ↦
          let e' : or_else None (after_mark mark text) ≡ Some rest = rw none at e in
          let later = mark_takes mark text rest e' in
          record {
            before = byte ∷ later.before;
            whole = ap (λ (t : List ℕ). byte ∷ t) later.whole;
            first = λ earlier behind whole. not_before later none earlier behind whole;
          }
      | inr some ↦
          let e' : or_else (Some some.0) (after_mark mark text) ≡ Some rest = rw some.1 at e in
          at_once mark (byte ∷ text) rest (some.1 ∙ e')
    ]
  where
    not_before : (later : EndsAtFirst mark text rest) → stripped_of mark (byte ∷ text) ≡ None → (earlier behind : List ℕ) → byte ∷ text ≡ earlier ++ (mark ++ behind) → length (byte ∷ later.before) ≤ length earlier
    not_before later none [] behind whole = absurd (let e' : None ≡ Some behind = sym none ∙ ap (stripped_of mark) whole ∙ stripped-append mark behind in cc)
    not_before later none (b ∷ earlier) behind whole =
        let tail : text ≡ earlier ++ (mark ++ behind) = cc in
        omega (arith, later.first earlier behind tail)

found : (mark text before rest : List ℕ) → text ≡ before ++ (mark ++ rest) → ((earlier behind : List ℕ) → text ≡ earlier ++ (mark ++ behind) → length before ≤ length earlier) → after_mark mark text ≡ Some rest
unfolding after_mark
found mark [] [] rest whole first = ap (stripped_of mark) whole ∙ stripped-append mark rest
found mark [] (b ∷ before) rest whole first = absurd cc
found mark (byte ∷ text) [] rest whole first = rw (ap (stripped_of mark) whole ∙ stripped-append mark rest) refl
found mark (byte ∷ text) (b ∷ before) rest whole first =
    elim (cases_option (stripped_of mark (byte ∷ text))) [
      | inl none ↦
          let tail : text ≡ before ++ (mark ++ rest) = cc in
          rw none (found mark text before rest tail (λ earlier behind more. omega (arith, first (byte ∷ earlier) behind (ap (λ (t : List ℕ). byte ∷ t) more))))
      | inr some ↦ absurd (omega (arith, first [] some.0 (stripped-Some mark (byte ∷ text) some.0 some.1)))
    ]

pub mark_again : (mark text rest : List ℕ) → EndsAtFirst mark text rest → after_mark mark text ≡ Some rest
mark_again mark text rest ends = found mark text ends.before rest ends.whole ends.first
