-- A front and the rest after it: what they are of a text, and of a text put together.
use Rattle.std.proofs.Common.{◌≡◌, ℕ, ◌+◌, ◌-◌, Bool, List, [], ◌∷◌, ◌++◌, length, take, drop, refl, sym, ap, ◌∙◌, inl, inr, arith}
use Rattle.std.proofs.lemmas.Bool.{cases_Bool, and_parts}
use Rattle.std.specs.List.{list_all}
use Rattle.std.proofs.lemmas.List.{take_at, drop_at, length-append}
use Rattle.text_scan.specs.Fronts.{Passes, front_of, rest_of, StopsAt}

pub front-rest : (test : ℕ → Bool) (text : List ℕ) → front_of test text ++ rest_of test text ≡ text
unfolding front_of rest_of
front-rest test [] = refl
front-rest test (byte ∷ text) =
    elim (cases_Bool (test byte)) [
      | inl passes_it ↦ rw (passes_it) (ap (λ (t : List ℕ). byte ∷ t) (front-rest test text))
      | inr fails ↦ rw (fails) refl
    ]

pub front_passes : (test : ℕ → Bool) (text : List ℕ) → Passes test (front_of test text)
unfolding front_of
front_passes test [] = refl
front_passes test (byte ∷ text) =
    elim (cases_Bool (test byte)) [
      | inl passes_it ↦ rw (passes_it, passes_it) (front_passes test text)
      | inr fails ↦ rw (fails) refl
    ]

pub rest_stops : (test : ℕ → Bool) (text : List ℕ) → StopsAt test (rest_of test text)
unfolding rest_of
rest_stops test [] = tt
rest_stops test (byte ∷ text) =
    elim (cases_Bool (test byte)) [
      | inl passes_it ↦ rw (passes_it) (rest_stops test text)
      | inr fails ↦ rw (fails) fails
    ]

pub front-stops : (test : ℕ → Bool) (text : List ℕ) → StopsAt test text → front_of test text ≡ []
unfolding front_of
front-stops test [] stops = refl
front-stops test (byte ∷ text) stops = rw (stops) refl

pub rest-stops : (test : ℕ → Bool) (text : List ℕ) → StopsAt test text → rest_of test text ≡ text
unfolding rest_of
rest-stops test [] stops = refl
rest-stops test (byte ∷ text) stops = rw (stops) refl

-- a front that passes, before a text that doesn't go on with it, is the longest one
pub front-append : (test : ℕ → Bool) (front rest : List ℕ) → Passes test front → StopsAt test rest → front_of test (front ++ rest) ≡ front
unfolding front_of
front-append test [] rest passes stops = front-stops test rest stops
front-append test (byte ∷ front) rest passes stops =
    let parts = and_parts (test byte) (list_all test front) passes in
    rw (parts.0) (ap (λ (t : List ℕ). byte ∷ t) (front-append test front rest parts.1 stops))

pub rest-append : (test : ℕ → Bool) (front rest : List ℕ) → Passes test front → StopsAt test rest → rest_of test (front ++ rest) ≡ rest
unfolding rest_of
rest-append test [] rest passes stops = rest-stops test rest stops
rest-append test (byte ∷ front) rest passes stops =
    let parts = and_parts (test byte) (list_all test front) passes in
    rw (parts.0) (rest-append test front rest parts.1 stops)

pub length-rest : (test : ℕ → Bool) (text : List ℕ) → length (front_of test text) + length (rest_of test text) ≡ length text
length-rest test text = sym (length-append (front_of test text) (rest_of test text)) ∙ ap length (front-rest test text)

pub take-front : (test : ℕ → Bool) (text : List ℕ) → take (length text - length (rest_of test text)) text ≡ front_of test text
take-front test text =
    let len : length (front_of test text) ≡ length text - length (rest_of test text) = omega (arith, length-rest test text) in
    ap (take (length text - length (rest_of test text))) (sym (front-rest test text)) ∙ take_at (front_of test text) (rest_of test text) (length text - length (rest_of test text)) len

pub drop-front : (test : ℕ → Bool) (text : List ℕ) → drop (length text - length (rest_of test text)) text ≡ rest_of test text
drop-front test text =
    let len : length (front_of test text) ≡ length text - length (rest_of test text) = omega (arith, length-rest test text) in
    ap (drop (length text - length (rest_of test text))) (sym (front-rest test text)) ∙ drop_at (front_of test text) (rest_of test text) (length text - length (rest_of test text)) len
