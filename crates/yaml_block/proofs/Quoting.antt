-- The reader of quotes gives exactly what is spelled.
use Rattle.std.proofs.Common.{◌≡◌, ◌≢◌, ℕ, zero, suc, Bool, true, false, not, eqb, cond, List, [], ◌∷◌, ◌++◌, Option, Some, None, refl, sym, ap, subst, ◌∙◌, inl, inr}
use Rattle.std.specs.Prelude.{codes}
use Rattle.std.specs.Str.{is_utf8}
use Rattle.std.proofs.lemmas.Bool.{cases_Bool, eqb-true, eq-eqb, ne_eqb, true≢false}
use Rattle.text_scan.specs.Fronts.{stripped_of}
use Rattle.text_scan.specs.Lists.{items_up_to, items_at}
use Rattle.text_scan.specs.Steps.{◌>>=◌}
use Rattle.text_scan.proofs.FixedText.{stripped-append, stripped-Some}
use Rattle.text_scan.proofs.Lists.{given, items_take, items_again}
use Rattle.text_scan.proofs.Steps.{bind_some, guard_some, some_is}
use Rattle.yaml_block.specs.declared.quoted.Quote.{Quote}
use Rattle.yaml_block.specs.declared.quoted.Quote.TheVariants.{Single, Double}
use Rattle.yaml_block.specs.Spaces.{starts}
use Rattle.yaml_block.specs.Scalars.{text_of, mark_of, closes, escaped, escape_at, byte_at, goes_on, bytes_at, quoted_at}
use Rattle.yaml_block.specs.Quoting.{IsByte, IsQuoted}
use Rattle.yaml_block.proofs.Texts.{byte_shrinks}

-- where the items of a text end, none begins
module _ {X : Type 0} (begins : List ℕ → Bool) (item_at : List ℕ → Option (X × List ℕ)) where
  up_to_stops : (most : ℕ) (text : List ℕ) (items : List X) (rest : List ℕ) → items_up_to begins item_at most text ≡ Some (items, rest) → begins rest ≡ false
  unfolding items_up_to
  up_to_stops zero text items rest e =
      elim (cases_Bool (begins text)) [
        | inl starts ↦ absurd (let e' : None ≡ given (items, rest) = rw starts at e in cc)
        | inr other ↦ let e' : given ([], text) ≡ given (items, rest) = rw other at e in subst (λ (p : List X × List ℕ). begins p.1 ≡ false) (some_is ([], text) (items, rest) e') other
      ]
  up_to_stops (suc most) text items rest e =
      elim (cases_Bool (begins text)) [
        | inl starts ↦
            let e' : (item_at text >>= λ item. items_up_to begins item_at most item.1 >>= λ others. Some (item.0 ∷ others.0, others.1)) ≡ Some (items, rest) = rw starts at e in
            let one = bind_some (item_at text) (λ item. items_up_to begins item_at most item.1 >>= λ others. Some (item.0 ∷ others.0, others.1)) (items, rest) e' in
            let more = bind_some (items_up_to begins item_at most one.0.1) (λ others. Some (one.0.0 ∷ others.0, others.1)) (items, rest) one.2 in
            subst (λ (p : List X × List ℕ). begins p.1 ≡ false) (some_is (one.0.0 ∷ more.0.0, more.0.1) (items, rest) more.2) (up_to_stops most one.0.1 more.0.0 more.0.1 more.1)
        | inr other ↦ let e' : given ([], text) ≡ given (items, rest) = rw other at e in subst (λ (p : List X × List ℕ). begins p.1 ≡ false) (some_is ([], text) (items, rest) e') other
      ]

escape_takes : (text : List ℕ) (byte : ℕ) (rest : List ℕ) → escape_at text ≡ Some (byte, rest) → (letter : ℕ) × (escaped letter ≡ Some byte) × (text ≡ letter ∷ rest)
unfolding escape_at
escape_takes [] byte rest e = absurd cc
escape_takes (letter ∷ text) byte rest e =
    let one = bind_some (escaped letter) (λ (meant : ℕ). given (meant, text)) (byte, rest) e in
    let same : (one.0, text) ≡ (byte, rest) = some_is (one.0, text) (byte, rest) one.2 in
    (letter, one.1 ∙ ap (λ (p : ℕ × List ℕ). given p.0) same, ap (λ (p : ℕ × List ℕ). letter ∷ p.1) same)

is_not : (a b : ℕ) → eqb a b ≡ false → a ≢ b
is_not a b other same = true≢false (sym (eq-eqb a b same) ∙ other)

byte_takes : (quote : Quote) (text : List ℕ) (byte : ℕ) (rest : List ℕ) → byte_at quote text ≡ Some (byte, rest) → IsByte quote byte text rest
unfolding byte_at
byte_takes Single [] byte rest e = absurd cc
byte_takes Double [] byte rest e = absurd cc
byte_takes Single (first ∷ text) byte rest e =
    elim (cases_Bool (eqb first 39)) [
      | inl same ↦
          let e' : (stripped_of (codes "'") text >>= λ (after : List ℕ). given (39, after)) ≡ Some (byte, rest) = rw same at e in
          let one = bind_some (stripped_of (codes "'") text) (λ (after : List ℕ). given (39, after)) (byte, rest) e' in
          let quote_first : first ≡ 39 = eqb-true first 39 same in
          let behind : text ≡ 39 ∷ one.0 = stripped-Some (codes "'") text one.0 one.1 in
          let whole : first ∷ text ≡ 39 ∷ 39 ∷ one.0 = cc in
          let read : IsByte Single 39 (first ∷ text) one.0 = (39 ∷ 39 ∷ [], refl, whole) in
          subst (λ (p : ℕ × List ℕ). IsByte Single p.0 (first ∷ text) p.1) (some_is (39, one.0) (byte, rest) one.2) read
      | inr other ↦
          let e' : given (first, text) ≡ given (byte, rest) = rw other at e in
          let itself : first ∷ [] ≡ cond (eqb first 39) (39 ∷ 39 ∷ []) (first ∷ []) = rw other refl in
          let read : IsByte Single first (first ∷ text) text = (first ∷ [], itself, refl) in
          subst (λ (p : ℕ × List ℕ). IsByte Single p.0 (first ∷ text) p.1) (some_is (first, text) (byte, rest) e') read
    ]
byte_takes Double (first ∷ text) byte rest e =
    elim (cases_Bool (eqb first 34)) [
      | inl shut ↦ absurd (let e' : None ≡ given (byte, rest) = rw shut at e in cc)
      | inr open_still ↦ elim (cases_Bool (eqb first 92)) [
        | inl same ↦
            let e' : escape_at text ≡ Some (byte, rest) = rw (open_still, same) at e in
            let one = escape_takes text byte rest e' in
            let slash : first ≡ 92 = eqb-true first 92 same in
            let behind : text ≡ one.0 ∷ rest = one.2 in
            let whole : first ∷ text ≡ 92 ∷ one.0 ∷ rest = cc in
            (92 ∷ one.0 ∷ [], inr (one.0, one.1, refl), whole)
        | inr other ↦
            let e' : given (first, text) ≡ given (byte, rest) = rw (open_still, other) at e in
            let read : IsByte Double first (first ∷ text) text = (first ∷ [], inl (is_not first 34 open_still, is_not first 92 other, refl), refl) in
            subst (λ (p : ℕ × List ℕ). IsByte Double p.0 (first ∷ text) p.1) (some_is (first, text) (byte, rest) e') read
      ]
    ]

byte_again : (quote : Quote) (byte : ℕ) (text rest : List ℕ) → IsByte quote byte text rest → byte_at quote text ≡ Some (byte, rest)
unfolding byte_at escape_at stripped_of
byte_again Single byte text rest read =
    elim (cases_Bool (eqb byte 39)) [
      | inl same ↦
          let twice : read.0 ≡ 39 ∷ 39 ∷ [] = rw same at read.1 in
          let whole : text ≡ 39 ∷ 39 ∷ rest = read.2 ∙ ap (λ (t : List ℕ). t ++ rest) twice in
          ap (byte_at Single) whole ∙ ap (λ (b : ℕ). given (b, rest)) (sym (eqb-true byte 39 same))
      | inr other ↦
          let once : read.0 ≡ byte ∷ [] = rw other at read.1 in
          let whole : text ≡ byte ∷ rest = read.2 ∙ ap (λ (t : List ℕ). t ++ rest) once in
          ap (byte_at Single) whole ∙ rw other refl
    ]
byte_again Double byte text rest read =
    elim read.1 [
      | inl itself ↦
          let whole : text ≡ byte ∷ rest = read.2 ∙ ap (λ (t : List ℕ). t ++ rest) itself.2 in
          ap (byte_at Double) whole ∙ rw (ne_eqb byte 34 itself.0, ne_eqb byte 92 itself.1) refl
      | inr behind ↦
          let whole : text ≡ 92 ∷ behind.0 ∷ rest = read.2 ∙ ap (λ (t : List ℕ). t ++ rest) behind.2 in
          ap (byte_at Double) whole ∙ rw behind.1 refl
    ]

starts_itself : (text : List ℕ) → starts 39 (39 ∷ text) ≡ true
unfolding starts
starts_itself text = refl

still_open : (quote : Quote) (text : List ℕ) (x : ℕ × List ℕ) → byte_at quote text ≡ Some x → goes_on quote text ≡ true
unfolding byte_at closes
still_open Single [] x e = absurd cc
still_open Double [] x e = absurd cc
still_open Single (first ∷ text) x e =
    elim (cases_Bool (eqb first 39)) [
      | inl same ↦
          let e' : (stripped_of (codes "'") text >>= λ (after : List ℕ). given (39, after)) ≡ Some x = rw same at e in
          let one = bind_some (stripped_of (codes "'") text) (λ (after : List ℕ). given (39, after)) x e' in
          let twice : starts 39 text ≡ true = ap (starts 39) (stripped-Some (codes "'") text one.0 one.1) ∙ starts_itself one.0 in
          rw (same, twice) refl
      | inr other ↦ rw other refl
    ]
still_open Double (first ∷ text) x e =
    elim (cases_Bool (eqb first 34)) [
      | inl shut ↦ absurd (let e' : None ≡ given x = rw shut at e in cc)
      | inr other ↦ rw other refl
    ]

pub quoted_takes : (quote : Quote) (text bytes rest : List ℕ) → quoted_at quote text ≡ Some (bytes, rest) → IsQuoted quote bytes text rest
unfolding quoted_at items_at text_of
quoted_takes quote text bytes rest e =
    let one = bind_some (bytes_at quote text) (λ bytes. stripped_of (mark_of quote) bytes.1 >>= λ rest. text_of bytes.0 >>= λ spelled. Some (spelled, rest)) (bytes, rest) e in
    let two = bind_some (stripped_of (mark_of quote) one.0.1) (λ rest. text_of one.0.0 >>= λ spelled. Some (spelled, rest)) (bytes, rest) one.2 in
    let three = bind_some (text_of one.0.0) (λ spelled. Some (spelled, two.0)) (bytes, rest) two.2 in
    let utf8 = guard_some (is_utf8 one.0.0) one.0.0 three.0 three.1 in
    let stops : goes_on quote one.0.1 ≡ false = up_to_stops (goes_on quote) (byte_at quote) _ text one.0.0 one.0.1 one.1 in
    let read : IsQuoted quote one.0.0 text two.0 = record {
      inside = one.0.1;
      spells = items_take (goes_on quote) (byte_at quote) (IsByte quote) (byte_takes quote) text one.0.0 one.0.1 one.1;
      shuts = stripped-Some (mark_of quote) one.0.1 two.0 two.1;
      closing = was_closed (closes quote one.0.1) stops;
      utf8 = utf8.0;
    } in
    subst (λ (p : List ℕ × List ℕ). IsQuoted quote p.0 text p.1) (ap (λ (t : List ℕ). (t, two.0)) utf8.1 ∙ some_is (three.0, two.0) (bytes, rest) three.2) read
  where
    was_closed : (b : Bool) → not b ≡ false → b ≡ true
    was_closed true e = refl
    was_closed false e = absurd (true≢false e)

pub quoted_again : (quote : Quote) (text bytes rest : List ℕ) → IsQuoted quote bytes text rest → quoted_at quote text ≡ Some (bytes, rest)
unfolding quoted_at text_of
quoted_again quote text bytes rest q =
    let listed : bytes_at quote text ≡ Some (bytes, q.inside) =
    items_again (goes_on quote) (byte_at quote) (IsByte quote) (byte_shrinks quote) (λ b t r read. still_open quote t (b, r) (byte_again quote b t r read)) (byte_again quote) bytes text q.inside q.spells (ap not q.closing) in
    let shut : stripped_of (mark_of quote) q.inside ≡ Some rest = ap (stripped_of (mark_of quote)) q.shuts ∙ stripped-append (mark_of quote) rest in
    rw (listed, shut, q.utf8) refl
