-- Texts in UTF-8, and plain scalars as fronts of a text.
use Rattle.std.proofs.Common.{◌≡◌, ℕ, ◌+◌, ◌-◌, true, false, eqb, List, [], ◌∷◌, ◌++◌, length, take, drop, Some, None, refl, sym, ap, ◌∙◌, inl, inr, arith}
use Rattle.std.specs.Prelude.{codes}
use Rattle.std.specs.Str.{IsUtf8, is_utf8}
use Rattle.std.proofs.lemmas.Bool.{cases_Bool}
use Rattle.std.proofs.lemmas.List.{take_at, drop_at, length-append}
use Rattle.std.proofs.lemmas.Str.{IsUtf8-from_is_utf8, is_utf8-from_IsUtf8}
use Rattle.text_scan.specs.Fronts.{stripped_of}
use Rattle.text_scan.specs.Steps.{◌>>=◌}
use Rattle.text_scan.proofs.FixedText.{stripped-Some}
use Rattle.text_scan.proofs.Lists.{Shrinks, given}
use Rattle.text_scan.proofs.Steps.{bind_some, some_is}
use Rattle.yaml_block.specs.declared.scalar.Place.{Place}
use Rattle.yaml_block.specs.declared.quoted.Quote.{Quote}
use Rattle.yaml_block.specs.declared.quoted.Quote.TheVariants.{Single, Double}
use Rattle.yaml_block.specs.Scalars.{text_of, stops, plain_front, plain_rest, escaped, escape_at, byte_at}

pub text_of-utf8 : (bytes : List ℕ) → IsUtf8 bytes → text_of bytes ≡ Some bytes
unfolding text_of
text_of-utf8 bytes utf8 = rw (is_utf8-from_IsUtf8 bytes utf8) refl

pub text_of-other : (bytes : List ℕ) → (IsUtf8 bytes → ⊥) → text_of bytes ≡ None
unfolding text_of
text_of-other bytes none =
    elim (cases_Bool (is_utf8 bytes)) [
      | inl utf8 ↦ absurd (none (IsUtf8-from_is_utf8 bytes utf8))
      | inr other ↦ rw other refl
    ]

plain-whole : (place : Place) (text : List ℕ) → plain_front place text ++ plain_rest place text ≡ text
unfolding plain_front plain_rest
plain-whole place [] = refl
plain-whole place (byte ∷ text) =
    elim (cases_Bool (stops place (byte ∷ text))) [
      | inl stopped ↦ rw stopped refl
      | inr other ↦ rw other (ap (λ (t : List ℕ). byte ∷ t) (plain-whole place text))
    ]

pub length-plain_rest : (place : Place) (text : List ℕ) → length (plain_front place text) ≡ length text - length (plain_rest place text)
length-plain_rest place text = omega (arith, length-append (plain_front place text) (plain_rest place text), ap length (plain-whole place text))

pub plain_rest_fits : (place : Place) (text : List ℕ) → length (plain_front place text) + length (plain_rest place text) ≡ length text
plain_rest_fits place text = sym (length-append (plain_front place text) (plain_rest place text)) ∙ ap length (plain-whole place text)

pub take-plain : (place : Place) (text : List ℕ) → take (length text - length (plain_rest place text)) text ≡ plain_front place text
take-plain place text =
    ap (take (length text - length (plain_rest place text))) (sym (plain-whole place text)) ∙ take_at (plain_front place text) (plain_rest place text) (length text - length (plain_rest place text)) (length-plain_rest place text)

pub drop-plain : (place : Place) (text : List ℕ) → drop (length text - length (plain_rest place text)) text ≡ plain_rest place text
drop-plain place text =
    ap (drop (length text - length (plain_rest place text))) (sym (plain-whole place text)) ∙ drop_at (plain_front place text) (plain_rest place text) (length text - length (plain_rest place text)) (length-plain_rest place text)

-- a byte within quotes takes at least a byte
escape_shrinks : Shrinks escape_at
unfolding escape_at
escape_shrinks [] x e = absurd cc
escape_shrinks (byte ∷ text) x e =
    let one = bind_some (escaped byte) (λ (meant : ℕ). given (meant, text)) x e in
    omega (arith, ap (λ (p : ℕ × List ℕ). length p.1) (some_is (one.0, text) x one.2))

pub byte_shrinks : (quote : Quote) → Shrinks (byte_at quote)
unfolding byte_at
byte_shrinks Single [] x e = absurd cc
byte_shrinks Double [] x e = absurd cc
byte_shrinks Single (byte ∷ text) x e =
    elim (cases_Bool (eqb byte 39)) [
      | inl same ↦
          let e' : (stripped_of (codes "'") text >>= λ (rest : List ℕ). given (39, rest)) ≡ Some x = rw same at e in
          let one = bind_some (stripped_of (codes "'") text) (λ (rest : List ℕ). given (39, rest)) x e' in
          omega (arith, ap length (stripped-Some (codes "'") text one.0 one.1), length-append (codes "'") one.0, ap (λ (p : ℕ × List ℕ). length p.1) (some_is (39, one.0) x one.2))
      | inr other ↦ let e' : given (byte, text) ≡ given x = rw other at e in omega (arith, ap (λ (p : ℕ × List ℕ). length p.1) (some_is (byte, text) x e'))
    ]
byte_shrinks Double (byte ∷ text) x e =
    elim (cases_Bool (eqb byte 34)) [
      | inl shut ↦ absurd (let e' : None ≡ given x = rw shut at e in cc)
      | inr still ↦ elim (cases_Bool (eqb byte 92)) [
        | inl same ↦ let e' : escape_at text ≡ Some x = rw (still, same) at e in omega (arith, escape_shrinks text x e')
        | inr other ↦ let e' : given (byte, text) ≡ given x = rw (still, other) at e in omega (arith, ap (λ (p : ℕ × List ℕ). length p.1) (some_is (byte, text) x e'))
      ]
    ]

pub is_text : (bytes : List ℕ) → IsUtf8 bytes → true ≡ is_utf8 bytes
is_text bytes utf8 = sym (is_utf8-from_IsUtf8 bytes utf8)

pub is_no_text : (bytes : List ℕ) → (IsUtf8 bytes → ⊥) → false ≡ is_utf8 bytes
is_no_text bytes none =
    elim (cases_Bool (is_utf8 bytes)) [
      | inl utf8 ↦ absurd (none (IsUtf8-from_is_utf8 bytes utf8))
      | inr other ↦ sym other
    ]
