-- References are read, and read again.
use Rattle.std.proofs.Common.{◌≡◌, ℕ, ◌^◌, true, false, ◌&&◌, eqb, ltb, List, [], ◌∷◌, ◌++◌, Some, None, refl, sym, ap, subst, ◌∙◌, inl, inr, true≢false, arith, append_assoc}
use Rattle.std.specs.Prelude.{codes}
use Rattle.std.specs.List.{list_all}
use Rattle.std.specs.Str.{bytes_eq}
use Rattle.std.proofs.lemmas.Bool.{cases_Bool, and_parts, and_from, eqb-true}
use Rattle.std.proofs.lemmas.Bool.Decides.{nat_tests}
use Rattle.std.proofs.lemmas.Option.{cond_some}
use Rattle.std.proofs.lemmas.Slice.Eq.{bytes_eq-Decides}
use Rattle.text_scan.specs.declared.class.Class.TheVariants.{Digit}
use Rattle.text_scan.specs.declared.radix.Radix.{Radix}
use Rattle.text_scan.specs.declared.radix.Radix.TheVariants.{Decimal, Hexadecimal}
use Rattle.text_scan.specs.Classes.{has}
use Rattle.text_scan.specs.Fronts.{Passes, StopsAt, front_of, rest_of, stripped_of}
use Rattle.text_scan.specs.Numbers.{number_of, are_digits, digits_of, base_of, value_of}
use Rattle.text_scan.specs.Steps.{◌>>=◌}
use Rattle.text_scan.proofs.Fronts.{front-rest, front-append, rest-append}
use Rattle.text_scan.proofs.FixedText.{stripped-append, stripped-Some}
use Rattle.text_scan.proofs.Steps.{cases_option, bind_some, guard_some, some_is}
use Rattle.xml_text.specs.declared.run.Run.TheVariants.{Reference}
use Rattle.xml_text.specs.Bytes.{is_in}
use Rattle.xml_text.specs.References.{is_scalar, scalar_of, Named, amp, lt, gt, quot, apos, named_scalar, spelled_of, opener_of, IsReference}
use Rattle.xml_text.specs.Reading.{named_in, decimal_or, hexadecimal_or, scalar_in, reference_at}

-- the digits of a number
digits_are : (radix : Radix) (digits : List ℕ) → are_digits radix digits ≡ true → list_all (has (digits_of radix)) digits ≡ true
digits_are radix [] h = absurd cc
digits_are radix (digit ∷ digits) h = h

number_digits : (radix : Radix) (digits : List ℕ) (value : ℕ) → number_of radix digits ≡ Some value → list_all (has (digits_of radix)) digits ≡ true
unfolding number_of
number_digits radix digits value e =
    let made = cond_some (are_digits radix digits && ltb (value_of (base_of radix) digits) (2 ^ 64)) (value_of (base_of radix) digits) value e in
    digits_are radix digits (and_parts (are_digits radix digits) (ltb (value_of (base_of radix) digits) (2 ^ 64)) made.0).0

digit_is_in : (radix : Radix) (byte : ℕ) → has (digits_of radix) byte ≡ true → is_in Reference byte ≡ true
unfolding has is_in
digit_is_in Decimal byte h = grind (arith, nat_tests)
digit_is_in Hexadecimal byte h = grind (arith, nat_tests)

digits_are_in : (radix : Radix) (digits : List ℕ) → list_all (has (digits_of radix)) digits ≡ true → Passes (is_in Reference) digits
digits_are_in radix [] all = refl
digits_are_in radix (digit ∷ digits) all =
    let parts = and_parts (has (digits_of radix) digit) (list_all (has (digits_of radix)) digits) all in
    and_from (is_in Reference digit) (list_all (is_in Reference) digits) (digit_is_in radix digit parts.0) (digits_are_in radix digits parts.1)

-- what stands between `&` and the digits
inner_of : Radix → List ℕ
inner_of Decimal = codes "#"
inner_of Hexadecimal = codes "#x"

inner_is_in : (radix : Radix) (digits : List ℕ) → Passes (is_in Reference) digits → Passes (is_in Reference) (inner_of radix ++ digits)
unfolding inner_of is_in
inner_is_in Decimal digits h = h
inner_is_in Hexadecimal digits h = h

opener-inner : (radix : Radix) (behind : List ℕ) → opener_of radix ++ behind ≡ codes "&" ++ (inner_of radix ++ behind)
unfolding opener_of inner_of
opener-inner Decimal behind = refl
opener-inner Hexadecimal behind = refl

-- decimal digits don't begin with `x`
x_no_digit : has Digit 120 ≡ false
unfolding has
x_no_digit = refl

decimal_not_marked : (digits : List ℕ) → list_all (has Digit) digits ≡ true → stripped_of (codes "#x") (codes "#" ++ digits) ≡ None
unfolding stripped_of
decimal_not_marked [] all = refl
decimal_not_marked (digit ∷ digits) all =
    elim (cases_Bool (eqb 120 digit)) [
      | inl marked ↦
          let first = (and_parts (has Digit digit) (list_all (has Digit) digits) all).0 in
          absurd (true≢false (sym first ∙ ap (has Digit) (sym (eqb-true 120 digit marked)) ∙ x_no_digit))
      | inr other ↦ rw other refl
    ]

scalar_is : (number scalar : ℕ) → scalar_of number ≡ Some scalar → (number ≡ scalar) × (is_scalar scalar ≡ true)
unfolding scalar_of
scalar_is number scalar e =
    let made = guard_some (is_scalar number) number scalar e in
    (made.1, ap is_scalar (sym made.1) ∙ made.0)

scalar_again : (scalar : ℕ) → is_scalar scalar ≡ true → scalar_of scalar ≡ Some scalar
unfolding scalar_of
scalar_again scalar h = rw h refl

numbered_again : (radix : Radix) (digits : List ℕ) (scalar : ℕ) → number_of radix digits ≡ Some scalar → is_scalar scalar ≡ true → scalar_in (inner_of radix ++ digits) ≡ Some scalar
unfolding scalar_in inner_of
numbered_again Decimal digits scalar number form =
    rw (decimal_not_marked digits (number_digits Decimal digits scalar number), stripped-append (codes "#") digits, number) (scalar_again scalar form)
numbered_again Hexadecimal digits scalar number form =
    rw (stripped-append (codes "#x") digits, number) (scalar_again scalar form)

-- what stands between `&` and `;`
semicolon_ends : (rest : List ℕ) → StopsAt (is_in Reference) (codes ";" ++ rest)
unfolding is_in
semicolon_ends rest = refl

body_again : (body rest : List ℕ) (scalar : ℕ) → Passes (is_in Reference) body → scalar_in body ≡ Some scalar → reference_at (codes "&" ++ (body ++ (codes ";" ++ rest))) ≡ Some (scalar, rest)
unfolding reference_at
body_again body rest scalar passes means =
    rw (
      stripped-append (codes "&") (body ++ (codes ";" ++ rest)),
      rest-append (is_in Reference) body (codes ";" ++ rest) passes (semicolon_ends rest),
      stripped-append (codes ";") rest,
      front-append (is_in Reference) body (codes ";" ++ rest) passes (semicolon_ends rest),
      means,
    ) refl

-- a name without `&` and `;`
word_of : Named → List ℕ
word_of amp = codes "amp"
word_of lt = codes "lt"
word_of gt = codes "gt"
word_of quot = codes "quot"
word_of apos = codes "apos"

spelled-word : (name : Named) (rest : List ℕ) → spelled_of name ++ rest ≡ codes "&" ++ (word_of name ++ (codes ";" ++ rest))
unfolding spelled_of word_of
spelled-word amp rest = refl
spelled-word lt rest = refl
spelled-word gt rest = refl
spelled-word quot rest = refl
spelled-word apos rest = refl

word_is_in : (name : Named) → Passes (is_in Reference) (word_of name)
unfolding word_of is_in
word_is_in amp = refl
word_is_in lt = refl
word_is_in gt = refl
word_is_in quot = refl
word_is_in apos = refl

word_means : (name : Named) → scalar_in (word_of name) ≡ Some (named_scalar name)
unfolding word_of scalar_in named_in stripped_of
word_means amp = refl
word_means lt = refl
word_means gt = refl
word_means quot = refl
word_means apos = refl

pub reference_again : (scalar : ℕ) (text rest : List ℕ) → IsReference scalar text rest → reference_at text ≡ Some (scalar, rest)
reference_again scalar text rest (inl named) =
    ap reference_at (named.whole ∙ spelled-word named.name rest)
    ∙ body_again (word_of named.name) rest scalar (word_is_in named.name) (word_means named.name ∙ ap (λ (n : ℕ). Some n) (sym named.means))
reference_again scalar text rest (inr numbered) =
    let radix = numbered.radix in
    let digits = numbered.digits in
    ap reference_at (numbered.whole ∙ opener-inner radix (digits ++ (codes ";" ++ rest)) ∙ ap (λ (t : List ℕ). codes "&" ++ t) (sym (append_assoc (inner_of radix) digits (codes ";" ++ rest))))
    ∙ body_again (inner_of radix ++ digits) rest scalar (inner_is_in radix digits (digits_are_in radix digits (number_digits radix digits scalar numbered.number))) (numbered_again radix digits scalar numbered.number numbered.form)

named_takes : (word : List ℕ) (scalar : ℕ) → named_in word ≡ Some scalar → (name : Named) × (word ≡ word_of name) × (scalar ≡ named_scalar name)
unfolding named_in word_of
named_takes word scalar e =
    elim (cases_Bool (bytes_eq word (codes "amp"))) [
      | inl is ↦ let e' : Some 38 ≡ Some scalar = rw is at e in (amp, (bytes_eq-Decides word (codes "amp")).0 is, sym (some_is 38 scalar e'))
      | inr no_amp ↦ elim (cases_Bool (bytes_eq word (codes "lt"))) [
        | inl is ↦ let e' : Some 60 ≡ Some scalar = rw (no_amp, is) at e in (lt, (bytes_eq-Decides word (codes "lt")).0 is, sym (some_is 60 scalar e'))
        | inr no_lt ↦ elim (cases_Bool (bytes_eq word (codes "gt"))) [
          | inl is ↦ let e' : Some 62 ≡ Some scalar = rw (no_amp, no_lt, is) at e in (gt, (bytes_eq-Decides word (codes "gt")).0 is, sym (some_is 62 scalar e'))
          | inr no_gt ↦ elim (cases_Bool (bytes_eq word (codes "quot"))) [
            | inl is ↦ let e' : Some 34 ≡ Some scalar = rw (no_amp, no_lt, no_gt, is) at e in (quot, (bytes_eq-Decides word (codes "quot")).0 is, sym (some_is 34 scalar e'))
            | inr no_quot ↦ elim (cases_Bool (bytes_eq word (codes "apos"))) [
              | inl is ↦ let e' : Some 39 ≡ Some scalar = rw (no_amp, no_lt, no_gt, no_quot, is) at e in (apos, (bytes_eq-Decides word (codes "apos")).0 is, sym (some_is 39 scalar e'))
              | inr no_apos ↦ absurd (let e' : None ≡ Some scalar = rw (no_amp, no_lt, no_gt, no_quot, no_apos) at e in cc)
            ]
          ]
        ]
      ]
    ]

-- what a body stands for, behind `&` and before `;`
body_takes : (body rest : List ℕ) (scalar : ℕ) → scalar_in body ≡ Some scalar → IsReference scalar (codes "&" ++ (body ++ (codes ";" ++ rest))) rest
unfolding scalar_in inner_of
body_takes body rest scalar e =
    elim (cases_option (stripped_of (codes "#x") body)) [
      | inr some ↦
          let e' : hexadecimal_or (Some some.0) body ≡ Some scalar = rw some.1 at e in
          numbered Hexadecimal some.0 (stripped-Some (codes "#x") body some.0 some.1) e'
      | inl none ↦
          let e' : hexadecimal_or None body ≡ Some scalar = rw none at e in
          elim (cases_option (stripped_of (codes "#") body)) [
            | inr some ↦
                let e'' : decimal_or (Some some.0) body ≡ Some scalar = rw some.1 at e' in
                numbered Decimal some.0 (stripped-Some (codes "#") body some.0 some.1) e''
            | inl none ↦
                let e'' : decimal_or None body ≡ Some scalar = rw none at e' in
                let name = named_takes body scalar e'' in
                inl (record {
                  name = name.0;
                  whole = ap (λ (b : List ℕ). codes "&" ++ (b ++ (codes ";" ++ rest))) name.1 ∙ sym (spelled-word name.0 rest);
                  means = name.2;
                })
          ]
    ]
  where
    numbered : (radix : Radix) (digits : List ℕ) → body ≡ inner_of radix ++ digits → (number_of radix digits >>= scalar_of) ≡ Some scalar → IsReference scalar (codes "&" ++ (body ++ (codes ";" ++ rest))) rest
    numbered radix digits same means =
        let number = bind_some (number_of radix digits) scalar_of scalar means in
        let is = scalar_is number.0 scalar number.2 in
        inr (record {
          radix = radix;
          digits = digits;
          whole = ap (λ (b : List ℕ). codes "&" ++ (b ++ (codes ";" ++ rest))) same ∙ ap (λ (t : List ℕ). codes "&" ++ t) (append_assoc (inner_of radix) digits (codes ";" ++ rest)) ∙ sym (opener-inner radix (digits ++ (codes ";" ++ rest)));
          number = number.1 ∙ ap (λ (n : ℕ). Some n) is.0;
          form = is.1;
        })

pub reference_takes : (text : List ℕ) (scalar : ℕ) (rest : List ℕ) → reference_at text ≡ Some (scalar, rest) → IsReference scalar text rest
unfolding reference_at
reference_takes text scalar rest e =
    let opened = bind_some (stripped_of (codes "&") text)
    (λ inside. stripped_of (codes ";") (rest_of (is_in Reference) inside) >>= λ after. scalar_in (front_of (is_in Reference) inside) >>= λ scalar. Some (scalar, after)) (scalar, rest) e in
    let inside = opened.0 in
    let body = front_of (is_in Reference) inside in
    let closed = bind_some (stripped_of (codes ";") (rest_of (is_in Reference) inside)) (λ after. scalar_in body >>= λ scalar. Some (scalar, after)) (scalar, rest) opened.2 in
    let meant = bind_some (scalar_in body) (λ scalar. Some (scalar, closed.0)) (scalar, rest) closed.2 in
    let whole : text ≡ codes "&" ++ (body ++ (codes ";" ++ closed.0)) =
    stripped-Some (codes "&") text inside opened.1
    ∙ ap (λ (t : List ℕ). codes "&" ++ t) (sym (front-rest (is_in Reference) inside) ∙ ap (λ (t : List ℕ). body ++ t) (stripped-Some (codes ";") (rest_of (is_in Reference) inside) closed.0 closed.1)) in
    let read : IsReference meant.0 text closed.0 = subst (λ (t : List ℕ). IsReference meant.0 t closed.0) (sym whole) (body_takes body closed.0 meant.0 meant.1) in
    subst (λ (p : ℕ × List ℕ). IsReference p.0 text p.1) (some_is (meant.0, closed.0) (scalar, rest) meant.2) read
