-- Texts and their parts: spaces at both ends, and bytes among others.
use Rattle.std.proofs.Common.{◌≡◌, ℕ, Bool, true, false, ◌&&◌, ◌||◌, eqb, List, [], ◌∷◌, ◌++◌, length, refl, sym, ap, subst, ◌∙◌, inl, inr, arith}
use Rattle.std.specs.Prelude.{codes, reverse}
use Rattle.std.specs.List.{list_all, list_any}
use Rattle.std.proofs.lemmas.Bool.{cases_Bool, and_parts, or_right, eqb-true, eq-eqb, ne_eqb, true≢false}
use Rattle.std.proofs.lemmas.List.{reverse-append, reverse-reverse}
use Rattle.text_scan.specs.Fronts.{front_of, rest_of, StopsAt}
use Rattle.text_scan.proofs.Fronts.{front-rest, front_passes, rest_stops, rest-append}
use Rattle.yaml_block.specs.Scalars.{is_flow_mark}
use Rattle.yaml_block.specs.Spaces.{is_space, trimmed}
use Rattle.patch_text.specs.Parts.{Holds, BeginsWith, EndsWith, AreSpaces}
use Rattle.patch_text.specs.PlainScalars.{IsAmong, flow_marks}

pub holds_behind : (part : List ℕ) (byte : ℕ) (text : List ℕ) → Holds part text → Holds part (byte ∷ text)
holds_behind part byte text h = (byte ∷ h.0, h.1, ap (λ (t : List ℕ). byte ∷ t) h.2)

pub ends_behind : (part : List ℕ) (byte : ℕ) (text : List ℕ) → EndsWith part text → EndsWith part (byte ∷ text)
ends_behind part byte text h = (byte ∷ h.0, ap (λ (t : List ℕ). byte ∷ t) h.1)

-- ---- tests

pub second : (a b : Bool) → a ≡ false → (a || b) ≡ true → b ≡ true
second true b none e = absurd (true≢false none)
second false b none e = e

pub both : (a b : Bool) → a ≡ true → b ≡ true → (a && b) ≡ true
both a b one other = rw (one, other) refl

pub some_length : (byte : ℕ) (text : List ℕ) → eqb (length (byte ∷ text)) 0 ≡ false
some_length byte text = ne_eqb (length (byte ∷ text)) 0 (λ e. omega (arith, e))

pub head_is : (x y : ℕ) (xs ys : List ℕ) → x ∷ xs ≡ y ∷ ys → x ≡ y
head_is x y xs ys e = cc

-- ---- spaces

pub both_spaces : (one other : List ℕ) → AreSpaces one → AreSpaces other → AreSpaces (one ++ other)
both_spaces [] other p q = q
both_spaces (x ∷ one) other p q =
    let parts = and_parts (is_space x) (list_all is_space one) p in
    rw (parts.0) (both_spaces one other parts.1 q)

pub more_spaces : (x : ℕ) (gap : List ℕ) → eqb x 32 ≡ true → AreSpaces gap → AreSpaces (x ∷ gap)
more_spaces x gap same spaces = rw same spaces

pub reverse_spaces : (gap : List ℕ) → AreSpaces gap → AreSpaces (reverse gap)
reverse_spaces [] p = refl
reverse_spaces (x ∷ gap) p =
    let parts = and_parts (is_space x) (list_all is_space gap) p in
    subst AreSpaces (sym (reverse-append (x ∷ []) gap)) (both_spaces (reverse gap) (x ∷ []) (reverse_spaces gap parts.1) (more_spaces x [] parts.0 refl))

pub stops_where : (text : List ℕ) → ¬ BeginsWith (codes " ") text → StopsAt is_space text
stops_where [] none = tt
stops_where (byte ∷ text) none =
    elim (cases_Bool (eqb byte 32)) [
      | inl same ↦ absurd (none (text, ap (λ (b : ℕ). b ∷ text) (eqb-true byte 32 same)))
      | inr other ↦ other
    ]

-- what is left of a text without the spaces at its end, and those spaces
pub trimmed_parts : (text : List ℕ) → (gap : List ℕ) × AreSpaces gap × (text ≡ trimmed text ++ gap) × (¬ EndsWith (codes " ") (trimmed text))
unfolding trimmed
trimmed_parts text = (
  reverse (front_of is_space (reverse text)),
  reverse_spaces (front_of is_space (reverse text)) (front_passes is_space (reverse text)),
  sym (reverse-reverse text) ∙ ap reverse (sym (front-rest is_space (reverse text))) ∙ reverse-append (front_of is_space (reverse text)) (rest_of is_space (reverse text)),
  λ ends.
      let turned : rest_of is_space (reverse text) ≡ 32 ∷ reverse ends.0 =
      sym (reverse-reverse (rest_of is_space (reverse text))) ∙ ap reverse ends.1 ∙ reverse-append ends.0 (32 ∷ []) in
      true≢false (subst (StopsAt is_space) turned (rest_stops is_space (reverse text))),
)

pub trimmed-append : (text gap : List ℕ) → AreSpaces gap → ¬ EndsWith (codes " ") text → trimmed (text ++ gap) ≡ text
unfolding trimmed
trimmed-append text gap spaces none =
    let stops = stops_where (reverse text) (λ b. none (reverse b.0, sym (reverse-reverse text) ∙ ap reverse b.1 ∙ reverse-append (32 ∷ []) b.0)) in
    ap (λ (t : List ℕ). reverse (rest_of is_space t)) (reverse-append text gap)
    ∙ ap reverse (rest-append is_space (reverse gap) (reverse text) (reverse_spaces gap spaces) stops)
    ∙ reverse-reverse text

-- ---- bytes among others

pub among_any : (bytes : List ℕ) (byte : ℕ) → list_any (λ (mark : ℕ). eqb byte mark) bytes ≡ true → IsAmong bytes byte
among_any [] byte e = absurd (true≢false (sym e))
among_any (mark ∷ bytes) byte e =
    elim (cases_Bool (eqb byte mark)) [
      | inl same ↦ ([], bytes, ap (λ (b : ℕ). b ∷ bytes) (sym (eqb-true byte mark same)))
      | inr other ↦ let e' : list_any (λ (m : ℕ). eqb byte m) bytes ≡ true = rw other at e in holds_behind (byte ∷ []) mark bytes (among_any bytes byte e')
    ]

any_at : (before after : List ℕ) (byte : ℕ) → list_any (λ (mark : ℕ). eqb byte mark) (before ++ (byte ∷ after)) ≡ true
any_at [] after byte = rw (eq-eqb byte byte refl) refl
any_at (x ∷ before) after byte = or_right (eqb byte x) (list_any (λ (mark : ℕ). eqb byte mark) (before ++ (byte ∷ after))) (any_at before after byte)

pub any_among : (bytes : List ℕ) (byte : ℕ) → IsAmong bytes byte → list_any (λ (mark : ℕ). eqb byte mark) bytes ≡ true
any_among bytes byte h = ap (list_any (λ (mark : ℕ). eqb byte mark)) h.2 ∙ any_at h.0 h.1 byte

marks_are : (a b c d e : Bool) → (a || b || c || d || e) ≡ (a || (b || (c || (d || (e || false)))))
marks_are true b c d e = refl
marks_are false true c d e = refl
marks_are false false true d e = refl
marks_are false false false true e = refl
marks_are false false false false true = refl
marks_are false false false false false = refl

flow_mark-any : (byte : ℕ) → is_flow_mark byte ≡ list_any (λ (mark : ℕ). eqb byte mark) flow_marks
flow_mark-any byte = marks_are (eqb byte 44) (eqb byte 91) (eqb byte 93) (eqb byte 123) (eqb byte 125)

pub mark_among : (byte : ℕ) → is_flow_mark byte ≡ true → IsAmong flow_marks byte
mark_among byte e = among_any flow_marks byte (sym (flow_mark-any byte) ∙ e)

pub among_mark : (byte : ℕ) → IsAmong flow_marks byte → is_flow_mark byte ≡ true
among_mark byte h = flow_mark-any byte ∙ any_among flow_marks byte h
