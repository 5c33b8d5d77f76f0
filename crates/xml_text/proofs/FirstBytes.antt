-- The kind of a part shows in its first bytes.
use Rattle.std.proofs.Common.{◌≡◌, ◌≢◌, ℕ, true, false, eqb, List, [], ◌∷◌, ◌++◌, Some, refl, sym, ap, ◌∙◌, inl, inr, arith}
use Rattle.std.specs.Prelude.{codes}
use Rattle.std.specs.List.{list_all}
use Rattle.std.proofs.lemmas.Bool.{cases_Bool, and_parts}
use Rattle.std.proofs.lemmas.Bool.Decides.{nat_tests}
use Rattle.text_scan.specs.declared.radix.Radix.TheVariants.{Decimal, Hexadecimal}
use Rattle.text_scan.specs.Fronts.{Passes, front_of, rest_of}
use Rattle.text_scan.proofs.Fronts.{front-rest, front_passes, rest_stops, front-append, rest-append}
use Rattle.text_scan.proofs.Steps.{some_is}
use Rattle.xml_text.specs.declared.kind.Kind.{Kind}
use Rattle.xml_text.specs.declared.kind.Kind.TheVariants.{StartTag, EndTag, Words, Character, Comment}
use Rattle.xml_text.specs.declared.run.Run.TheVariants.{Name, Text}
use Rattle.xml_text.specs.Bytes.{is_name_start, is_in}
use Rattle.xml_text.specs.Names.{begins_name, is_name}
use Rattle.xml_text.specs.References.{amp, lt, gt, quot, apos, Named, spelled_of, opener_of, IsReference}
use Rattle.xml_text.specs.Parts.{XmlTag, IsStartTag, IsEndTag, IsText, IsComment}
use Rattle.xml_text.specs.Reading.{tag_kind, kind_of}

start_no_slash : (byte : ℕ) → is_name_start byte ≡ true → eqb byte 47 ≡ false
start_no_slash byte h = grind (arith, nat_tests)

start_no_mark : (byte : ℕ) → is_name_start byte ≡ true → eqb byte 33 ≡ false
start_no_mark byte h = grind (arith, nat_tests)

name_kind : (name behind : List ℕ) → is_name name ≡ true → tag_kind (name ++ behind) ≡ StartTag
unfolding is_name begins_name
name_kind [] behind h = absurd cc
name_kind (first ∷ others) behind h =
    let starts = (and_parts (is_name_start first) (list_all (is_in Name) (first ∷ others)) h).0 in
    rw (start_no_slash first starts, start_no_mark first starts) refl

behind_angle : (behind : List ℕ) → kind_of (codes "<" ++ behind) ≡ Some (tag_kind behind)
unfolding kind_of
behind_angle behind = refl

pub start_kind : (tag : XmlTag) (text rest : List ℕ) → IsStartTag tag text rest → kind_of text ≡ Some StartTag
start_kind tag text rest is =
    ap kind_of is.opens ∙ behind_angle (tag.name ++ is.named) ∙ ap (λ (kind : Kind). Some kind) (name_kind tag.name is.named is.name_form)

end_first : (behind : List ℕ) → kind_of (codes "</" ++ behind) ≡ Some EndTag
unfolding kind_of
end_first behind = refl

pub end_kind : (name text rest : List ℕ) → IsEndTag name text rest → kind_of text ≡ Some EndTag
end_kind name text rest is = ap kind_of is.opens ∙ end_first (name ++ is.named)

comment_first : (behind : List ℕ) → kind_of (codes "<!--" ++ behind) ≡ Some Comment
unfolding kind_of
comment_first behind = refl

pub comment_kind : (text rest : List ℕ) → IsComment text rest → kind_of text ≡ Some Comment
comment_kind text rest is = ap kind_of is.opens ∙ comment_first is.inside

named_first : (name : Named) (rest : List ℕ) → kind_of (spelled_of name ++ rest) ≡ Some Character
unfolding kind_of spelled_of
named_first amp rest = refl
named_first lt rest = refl
named_first gt rest = refl
named_first quot rest = refl
named_first apos rest = refl

numbered_first : (radix : _) (behind : List ℕ) → kind_of (opener_of radix ++ behind) ≡ Some Character
unfolding kind_of opener_of
numbered_first Decimal behind = refl
numbered_first Hexadecimal behind = refl

pub reference_kind : (scalar : ℕ) (text rest : List ℕ) → IsReference scalar text rest → kind_of text ≡ Some Character
reference_kind scalar text rest (inl named) = ap kind_of named.whole ∙ named_first named.name rest
reference_kind scalar text rest (inr numbered) = ap kind_of numbered.whole ∙ numbered_first numbered.radix (numbered.digits ++ (codes ";" ++ rest))

words_no_angle : (byte : ℕ) → is_in Text byte ≡ true → eqb byte 60 ≡ false
unfolding is_in
words_no_angle byte h = grind (arith, nat_tests)

words_no_ampersand : (byte : ℕ) → is_in Text byte ≡ true → eqb byte 38 ≡ false
unfolding is_in
words_no_ampersand byte h = grind (arith, nat_tests)

words_first : (said rest : List ℕ) → said ≢ [] → Passes (is_in Text) said → kind_of (said ++ rest) ≡ Some Words
unfolding kind_of
words_first [] rest some passes = absurd (some refl)
words_first (byte ∷ said) rest some passes =
    let first = (and_parts (is_in Text byte) (list_all (is_in Text) said) passes).0 in
    rw (words_no_angle byte first, words_no_ampersand byte first) refl

pub text_kind : (said text rest : List ℕ) → IsText said text rest → kind_of text ≡ Some Words
text_kind said text rest is = ap kind_of is.whole ∙ words_first said rest is.some is.form

-- what begins no tag and no reference is text
tag_not_words : (inside : List ℕ) → tag_kind inside ≡ Words → ⊥
tag_not_words [] e = cc
tag_not_words (second ∷ others) e =
    elim (cases_Bool (eqb second 47)) [
      | inl slash ↦ let e' : EndTag ≡ Words = rw slash at e in cc
      | inr no_slash ↦ elim (cases_Bool (eqb second 33)) [
        | inl marked ↦ let e' : Comment ≡ Words = rw (no_slash, marked) at e in cc
        | inr unmarked ↦ let e' : StartTag ≡ Words = rw (no_slash, unmarked) at e in cc
      ]
    ]

is_text_byte : (byte : ℕ) → eqb byte 60 ≡ false → eqb byte 38 ≡ false → is_in Text byte ≡ true
unfolding is_in
is_text_byte byte no_angle no_ampersand = rw (no_angle, no_ampersand) refl

words_byte : (first : ℕ) (others : List ℕ) → kind_of (first ∷ others) ≡ Some Words → is_in Text first ≡ true
unfolding kind_of
words_byte first others e =
    elim (cases_Bool (eqb first 60)) [
      | inl angle ↦ let e' : Some (tag_kind others) ≡ Some Words = rw angle at e in absurd (tag_not_words others (some_is (tag_kind others) Words e'))
      | inr no_angle ↦ elim (cases_Bool (eqb first 38)) [
        | inl ampersand ↦ let e' : Some Character ≡ Some Words = rw (no_angle, ampersand) at e in absurd cc
        | inr no_ampersand ↦ is_text_byte first no_angle no_ampersand
      ]
    ]

words_some : (text : List ℕ) → kind_of text ≡ Some Words → front_of (is_in Text) text ≢ []
unfolding kind_of front_of
words_some [] e same = cc
words_some (first ∷ others) e same = let e' : first ∷ front_of (is_in Text) others ≡ [] = rw (words_byte first others e) at same in cc

pub text_takes : (text : List ℕ) → kind_of text ≡ Some Words → IsText (front_of (is_in Text) text) text (rest_of (is_in Text) text)
text_takes text e = record {
  some = words_some text e;
  form = front_passes (is_in Text) text;
  whole = sym (front-rest (is_in Text) text);
  alone = rest_stops (is_in Text) text;
}

pub text_front : (said text rest : List ℕ) → IsText said text rest → front_of (is_in Text) text ≡ said
text_front said text rest is = ap (front_of (is_in Text)) is.whole ∙ front-append (is_in Text) said rest is.form is.alone

pub text_rest : (said text rest : List ℕ) → IsText said text rest → rest_of (is_in Text) text ≡ rest
text_rest said text rest is = ap (rest_of (is_in Text)) is.whole ∙ rest-append (is_in Text) said rest is.form is.alone
