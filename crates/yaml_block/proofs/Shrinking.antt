-- A scalar takes no less than nothing, and what stands behind a comma at least a byte.
use Rattle.std.proofs.Common.{◌≡◌, ℕ, ◌<◌, ◌≤◌, List, length, Option, Some, None, ap, inl, inr, arith}
use Rattle.std.specs.Prelude.{codes}
use Rattle.std.proofs.lemmas.Bool.{cases_Bool}
use Rattle.std.proofs.lemmas.List.{length-append}
use Rattle.text_scan.specs.Fronts.{rest_of, stripped_of}
use Rattle.text_scan.specs.Lists.{ReadsAll}
use Rattle.text_scan.specs.Steps.{◌>>=◌}
use Rattle.text_scan.proofs.FixedText.{stripped-Some}
use Rattle.text_scan.proofs.Fronts.{length-rest}
use Rattle.text_scan.proofs.Lists.{Shrinks, given, items_take, ReadsAll-length}
use Rattle.text_scan.proofs.Steps.{cases_option, bind_some, some_is}
use Rattle.yaml_block.specs.declared.scalar.Place.{Place}
use Rattle.yaml_block.specs.declared.scalar.Place.TheVariants.{Flow}
use Rattle.yaml_block.specs.declared.quoted.Quote.{Quote}
use Rattle.yaml_block.specs.declared.quoted.Quote.TheVariants.{Single, Double}
use Rattle.yaml_block.specs.Spaces.{is_space, trimmed}
use Rattle.yaml_block.specs.Scalars.{text_of, mark_of, is_plain, plain_front, plain_rest, plain_at, goes_on, byte_at, bytes_at, quoted_at, scalar_at}
use Rattle.yaml_block.specs.Values.{text_at, next_text_at, pair_at, next_pair_at}
use Rattle.yaml_block.proofs.Texts.{byte_shrinks, plain_rest_fits}

-- reading leaves no more than there was
abbrev Stays : {X : Type 0} → (List ℕ → Option (X × List ℕ)) → Type 0
Stays {X} read = (text : List ℕ) (x : X × List ℕ) → read text ≡ Some x → length x.1 ≤ length text

abbrev IsByte : Quote → ℕ → List ℕ → List ℕ → Type 0
IsByte quote byte text rest = byte_at quote text ≡ Some (byte, rest)

quoted_stays : (quote : Quote) → Stays (quoted_at quote)
unfolding quoted_at
quoted_stays quote text x e =
    let one = bind_some (bytes_at quote text) (λ bytes. stripped_of (mark_of quote) bytes.1 >>= λ rest. text_of bytes.0 >>= λ spelled. Some (spelled, rest)) x e in
    let two = bind_some (stripped_of (mark_of quote) one.0.1) (λ rest. text_of one.0.0 >>= λ spelled. Some (spelled, rest)) x one.2 in
    let three = bind_some (text_of one.0.0) (λ spelled. Some (spelled, two.0)) x two.2 in
    let bytes : ReadsAll (IsByte quote) one.0.0 text one.0.1 = items_take (goes_on quote) (byte_at quote) (IsByte quote) (λ t b r read. read) text one.0.0 one.0.1 one.1 in
    omega (
      arith,
      ReadsAll-length (IsByte quote) (λ b t r read. omega (arith, byte_shrinks quote t (b, r) read)) one.0.0 text one.0.1 bytes,
      ap length (stripped-Some (mark_of quote) one.0.1 two.0 two.1),
      length-append (mark_of quote) two.0,
      ap (λ (p : List ℕ × List ℕ). length p.1) (some_is (three.0, two.0) x three.2),
    )

plain_stays : (place : Place) → Stays (plain_at place)
unfolding plain_at
plain_stays place text x e =
    elim (cases_Bool (is_plain (trimmed (plain_front place text)))) [
      | inl plain ↦
          let e' : (text_of (trimmed (plain_front place text)) >>= λ (spelled : List ℕ). given (spelled, plain_rest place text)) ≡ Some x = rw plain at e in
          let one = bind_some (text_of (trimmed (plain_front place text))) (λ (spelled : List ℕ). given (spelled, plain_rest place text)) x e' in
          omega (arith, plain_rest_fits place text, ap (λ (p : List ℕ × List ℕ). length p.1) (some_is (one.0, plain_rest place text) x one.2))
      | inr other ↦ absurd (let e' : None ≡ given x = rw other at e in cc)
    ]

pub scalar_stays : (place : Place) → Stays (scalar_at place)
unfolding scalar_at
scalar_stays place text x e =
    elim (cases_option (stripped_of (codes "'") text)) [
      | inr single ↦
          let e' : quoted_at Single single.0 ≡ Some x = rw single.1 at e in
          omega (arith, quoted_stays Single single.0 x e', ap length (stripped-Some (codes "'") text single.0 single.1), length-append (codes "'") single.0)
      | inl none ↦ elim (cases_option (stripped_of (codes "\"") text)) [
        | inr double ↦
            let e' : quoted_at Double double.0 ≡ Some x = rw (none, double.1) at e in
            omega (arith, quoted_stays Double double.0 x e', ap length (stripped-Some (codes "\"") text double.0 double.1), length-append (codes "\"") double.0)
        | inl other ↦ let e' : plain_at place text ≡ Some x = rw (none, other) at e in plain_stays place text x e'
      ]
    ]

text_stays : Stays text_at
unfolding text_at
text_stays text x e =
    let one = bind_some (scalar_at Flow text) (λ scalar. given (scalar.0, rest_of is_space scalar.1)) x e in
    omega (arith, scalar_stays Flow text one.0 one.1, length-rest is_space one.0.1, ap (λ (p : List ℕ × List ℕ). length p.1) (some_is (one.0.0, rest_of is_space one.0.1) x one.2))

pair_stays : Stays pair_at
unfolding pair_at
pair_stays text x e =
    let one = bind_some (text_at text) (λ key. stripped_of (codes ": ") key.1 >>= λ rest. text_at (rest_of is_space rest) >>= λ value. given ((key.0, value.0), value.1)) x e in
    let two = bind_some (stripped_of (codes ": ") one.0.1) (λ rest. text_at (rest_of is_space rest) >>= λ value. given ((one.0.0, value.0), value.1)) x one.2 in
    let three = bind_some (text_at (rest_of is_space two.0)) (λ value. given ((one.0.0, value.0), value.1)) x two.2 in
    omega (
      arith,
      text_stays text one.0 one.1,
      ap length (stripped-Some (codes ": ") one.0.1 two.0 two.1),
      length-append (codes ": ") two.0,
      length-rest is_space two.0,
      text_stays (rest_of is_space two.0) three.0 three.1,
      ap (λ (p : (List ℕ × List ℕ) × List ℕ). length p.1) (some_is ((one.0.0, three.0.0), three.0.1) x three.2),
    )

-- behind a comma
behind : {X : Type 0} (read : List ℕ → Option (X × List ℕ)) → Stays read → (text : List ℕ) (x : X × List ℕ) → (stripped_of (codes ",") text >>= λ rest. read (rest_of is_space rest)) ≡ Some x → length x.1 < length text
behind read stays text x e =
    let one = bind_some (stripped_of (codes ",") text) (λ rest. read (rest_of is_space rest)) x e in
    omega (arith, ap length (stripped-Some (codes ",") text one.0 one.1), length-append (codes ",") one.0, length-rest is_space one.0, stays (rest_of is_space one.0) x one.2)

pub next_text_shrinks : Shrinks next_text_at
unfolding next_text_at
next_text_shrinks text x e = behind text_at text_stays text x e

pub next_pair_shrinks : Shrinks next_pair_at
unfolding next_pair_at
next_pair_shrinks text x e = behind pair_at pair_stays text x e
