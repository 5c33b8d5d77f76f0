-- What a line says is read as it is said.
use Rattle.std.proofs.Common.{◌≡◌, ℕ, ◌-◌, Bool, true, false, ◌&&◌, ◌||◌, eqb, List, [], ◌∷◌, ◌++◌, length, Some, refl, sym, ap, subst, ◌∙◌, inl, inr, arith, append-nil}
use Rattle.std.specs.Prelude.{codes, None}
use Rattle.std.specs.Str.{is_utf8}
use Rattle.std.proofs.lemmas.Bool.{cases_Bool, and_parts, and_right, eq-eqb, eqb-true, or_right, true≢false}
use Rattle.std.proofs.lemmas.List.{length-append}
use Rattle.text_scan.specs.Fronts.{front_of, rest_of, stripped_of}
use Rattle.text_scan.proofs.FixedText.{stripped-append, stripped-None, stripped-Some}
use Rattle.text_scan.proofs.Fronts.{front-rest, front_passes, length-rest, rest_stops, rest-append}
use Rattle.text_scan.proofs.Lists.{given}
use Rattle.text_scan.proofs.Steps.{bind_some, cases_option}
use Rattle.yaml_block.specs.declared.content.Content.{Content}
use Rattle.yaml_block.specs.declared.content.Content.TheVariants.{Item, Key, Entry}
use Rattle.yaml_block.specs.declared.line.Line.{Line}
use Rattle.yaml_block.specs.declared.line.Said.{Said}
use Rattle.yaml_block.specs.declared.line.Said.TheVariants.{Nothing, Mark, Told}
use Rattle.yaml_block.specs.declared.scalar.Place.TheVariants as place
use Rattle.yaml_block.specs.Contents.{content_at}
use Rattle.yaml_block.specs.Lines.{ends_behind, is_mark, is_skipped, line_at, said_at}
use Rattle.yaml_block.specs.Spaces.{ends, is_space, starts}
use Rattle.patch_text.specs.Parts.{AreSpaces}
use Rattle.patch_text.specs.Contents.{IsContent}
use Rattle.patch_text.specs.Lines.{Says, SaysContent, SaysMark, SaysNothing}
use Rattle.patch_text.proofs.Contents.{content_again, content_begins, content_takes}
use Rattle.patch_text.proofs.Ends.{ends_again, ends_take}
use Rattle.patch_text.proofs.Scalars.{Begins, begins_clear, scalar_not_at}
use Rattle.patch_text.proofs.Texts.{both, second, some_length}

-- ---- lines that say nothing

skipped_rest : (front rest : List ℕ) → AreSpaces front → is_skipped rest ≡ true → SaysNothing (front ++ rest)
unfolding is_skipped starts
skipped_rest front [] spaces e = inl (subst AreSpaces (sym (append-nil front)) spaces)
skipped_rest front (byte ∷ rest) spaces e =
    let hash = second (eqb (length (byte ∷ rest)) 0) (eqb byte 35) (some_length byte rest) e in
    inr (front, byte ∷ rest, spaces, (rest, ap (λ (b : ℕ). b ∷ rest) (eqb-true byte 35 hash)), refl)

nothing_takes : (raw : List ℕ) → is_skipped (rest_of is_space raw) ≡ true → SaysNothing raw
nothing_takes raw e = subst SaysNothing (front-rest is_space raw) (skipped_rest (front_of is_space raw) (rest_of is_space raw) (front_passes is_space raw) e)

nothing_skipped : is_skipped [] ≡ true
unfolding is_skipped
nothing_skipped = refl

hash_skipped : (text : List ℕ) → is_skipped (35 ∷ text) ≡ true
unfolding is_skipped starts
hash_skipped text = or_right (eqb (length (35 ∷ text)) 0) true refl

nothing_again : (raw : List ℕ) → SaysNothing raw → is_skipped (rest_of is_space raw) ≡ true
nothing_again raw says =
    elim says [
      | inl spaces ↦ ap is_skipped (ap (rest_of is_space) (sym (append-nil raw)) ∙ rest-append is_space raw [] spaces tt) ∙ nothing_skipped
      | inr at ↦
          let whole : raw ≡ at.0 ++ (35 ∷ at.3.0) = at.4 ∙ ap (λ (t : List ℕ). at.0 ++ t) at.3.1 in
          ap is_skipped (ap (rest_of is_space) whole ∙ rest-append is_space at.0 (35 ∷ at.3.0) at.2 refl) ∙ hash_skipped at.3.0
    ]

begins_told : (text : List ℕ) → Begins text → is_skipped text ≡ false
unfolding is_skipped starts
begins_told text b = ap is_skipped b.whole ∙ neither (eqb (length (b.byte ∷ b.more)) 0) (eqb b.byte 35) (some_length b.byte b.more) b.no_hash
  where
    neither : (x y : Bool) → x ≡ false → y ≡ false → (x || y) ≡ false
    neither x y p q = rw (p, q) refl

-- ---- the mark

mark_takes : (raw : List ℕ) → is_mark raw ≡ true → SaysMark raw
unfolding is_mark
mark_takes raw e =
    elim (cases_option (stripped_of (codes "---") raw)) [
      | inr some ↦ let e' : ends some.0 ≡ true = rw some.1 at e in (some.0, stripped-Some (codes "---") raw some.0 some.1, ends_take some.0 e')
      | inl none ↦ absurd (let e' : false ≡ true = rw none at e in cc)
    ]

mark_again : (raw : List ℕ) → SaysMark raw → is_mark raw ≡ true
unfolding is_mark
mark_again raw says =
    ap ends_behind (ap (stripped_of (codes "---")) says.1 ∙ stripped-append (codes "---") says.0) ∙ ends_again says.0 says.2

next_is : (x y a b : ℕ) (xs ys : List ℕ) → x ∷ y ∷ xs ≡ a ∷ b ∷ ys → y ≡ b
next_is x y a b xs ys e = cc

-- a line of dashes says no content
dashes_no_content : (content : Content) (text after : List ℕ) → IsContent content text → text ≡ 45 ∷ 45 ∷ after → ⊥
dashes_no_content (Item value) text after is e = true≢false (sym (eq-eqb 32 45 (next_is 45 32 45 45 is.0 after (sym is.1 ∙ e))))
dashes_no_content (Key key) text after is e = scalar_not_at place.Line key text (is.1.gap ++ (codes ":" ++ is.0)) (45 ∷ after) 45 is.1.key_there refl refl refl e
dashes_no_content (Entry key value) text after is e = scalar_not_at place.Line key text (is.1.gap ++ (codes ":" ++ (codes " " ++ is.0))) (45 ∷ after) 45 is.1.key_there refl refl refl e

mark_no_skip : (after : List ℕ) → is_skipped (rest_of is_space (45 ∷ after)) ≡ false
unfolding rest_of is_skipped starts
mark_no_skip after = rw (some_length 45 after) refl

-- ---- content at an indent

line_takes : (number : ℕ) (raw : List ℕ) (said : Said) → line_at number raw ≡ Some said → (line : Line) × SaysContent number raw line × (said ≡ Told line)
unfolding line_at
line_takes number raw said e =
    let line_of = λ (content : Content). Told (record { number = number; indent = length raw - length (rest_of is_space raw); content = content }) in
    let one = bind_some (content_at (rest_of is_space raw)) (λ content. given (line_of content)) said e in (
      record { number = number; indent = length raw - length (rest_of is_space raw); content = one.0 },
      record {
        gap = front_of is_space raw;
        text = rest_of is_space raw;
        spaces = front_passes is_space raw;
        whole = sym (front-rest is_space raw);
        numbered = refl;
        indented = omega (arith, length-rest is_space raw);
        content_there = content_takes (rest_of is_space raw) one.0 (rest_stops is_space raw) one.1;
      },
      said_is said (line_of one.0) one.2,
    )
  where
    said_is : (x y : Said) → given y ≡ given x → x ≡ y
    said_is x y e = cc

line_clear : (number : ℕ) (raw : List ℕ) (line : Line) (s : SaysContent number raw line) → rest_of is_space raw ≡ s.text
line_clear number raw line s = ap (rest_of is_space) s.whole ∙ rest-append is_space s.gap s.text s.spaces (begins_clear s.text (content_begins s.text line.content s.content_there))

abbrev made : ℕ → ℕ → Content → Line
made number indent content = record { number = number; indent = indent; content = content }

line_again : (number : ℕ) (raw : List ℕ) (line : Line) → SaysContent number raw line → line_at number raw ≡ Some (Told line)
unfolding line_at
line_again number raw line s =
    let clear = line_clear number raw line s in
    let read : content_at (rest_of is_space raw) ≡ Some line.content = ap content_at clear ∙ content_again s.text line.content s.content_there in
    let indent : length raw - length (rest_of is_space raw) ≡ line.indent = omega (arith, s.indented, ap length s.whole, length-append s.gap s.text, ap length clear) in
    let itself : made number (length raw - length (rest_of is_space raw)) line.content ≡ line =
    ap (λ (n : ℕ). made n (length raw - length (rest_of is_space raw)) line.content) (sym s.numbered) ∙ ap (λ (i : ℕ). made line.number i line.content) indent in
    rw read (ap (λ (l : Line). given (Told l)) itself)

-- ---- the law

pub says_takes : (first : Bool) (number : ℕ) (raw : List ℕ) (said : Said) → said_at first number raw ≡ Some said → Says first number raw said
unfolding said_at
says_takes first number raw said e =
    elim (cases_Bool (is_utf8 raw)) [
      | inl utf8 ↦ elim (cases_Bool (is_skipped (rest_of is_space raw))) [
        | inl skipped ↦
            let e' : given Nothing ≡ given said = rw (utf8, skipped) at e in
            subst (Says first number raw) (said_is Nothing said e') (utf8, nothing_takes raw skipped)
        | inr told ↦ elim (cases_Bool (first && is_mark raw)) [
          | inl mark ↦
              let e' : given Mark ≡ given said = rw (utf8, told, mark) at e in
              let parts = and_parts first (is_mark raw) mark in
              subst (Says first number raw) (said_is Mark said e') (utf8, parts.0, mark_takes raw parts.1)
          | inr other ↦
              let e' : line_at number raw ≡ Some said = rw (utf8, told, other) at e in
              let line = line_takes number raw said e' in
              subst (Says first number raw) (sym line.2) (utf8, line.1)
        ]
      ]
      | inr other ↦ absurd (let e' : None ≡ given said = rw other at e in cc)
    ]
  where
    said_is : (x y : Said) → given x ≡ given y → x ≡ y
    said_is x y e = cc

skipped_there : (first : Bool) (number : ℕ) (raw : List ℕ) → is_utf8 raw ≡ true → is_skipped (rest_of is_space raw) ≡ true → said_at first number raw ≡ Some Nothing
unfolding said_at
skipped_there first number raw utf8 skipped = rw (utf8, skipped) refl

mark_there : (first : Bool) (number : ℕ) (raw : List ℕ) → is_utf8 raw ≡ true → is_skipped (rest_of is_space raw) ≡ false → (first && is_mark raw) ≡ true → said_at first number raw ≡ Some Mark
unfolding said_at
mark_there first number raw utf8 told mark = rw (utf8, told, mark) refl

line_there : (first : Bool) (number : ℕ) (raw : List ℕ) → is_utf8 raw ≡ true → is_skipped (rest_of is_space raw) ≡ false → (first && is_mark raw) ≡ false → said_at first number raw ≡ line_at number raw
unfolding said_at
line_there first number raw utf8 told mark = rw (utf8, told, mark) refl

dashes_clear : (after : List ℕ) → rest_of is_space (45 ∷ 45 ∷ 45 ∷ after) ≡ 45 ∷ 45 ∷ 45 ∷ after
unfolding rest_of
dashes_clear after = refl

-- a line with a content is no mark: one that begins with a space isn't, and no content begins with `--`
no_mark : (number : ℕ) (raw : List ℕ) (line : Line) → SaysContent number raw line → is_mark raw ≡ false
unfolding is_mark
no_mark number raw line s =
    ap ends_behind (stripped-None (codes "---") raw (λ after e.
    dashes_no_content line.content s.text (45 ∷ after) s.content_there (sym (line_clear number raw line s) ∙ ap (rest_of is_space) e ∙ dashes_clear after)))

pub says_again : (first : Bool) (number : ℕ) (raw : List ℕ) (said : Said) → Says first number raw said → said_at first number raw ≡ Some said
says_again first number raw Nothing says = skipped_there first number raw says.0 (nothing_again raw says.1)
says_again first number raw Mark says =
    let told : is_skipped (rest_of is_space raw) ≡ false = ap (λ (t : List ℕ). is_skipped (rest_of is_space t)) says.2.1 ∙ mark_no_skip (45 ∷ 45 ∷ says.2.0) in
    mark_there first number raw says.0 told (both first (is_mark raw) says.1 (mark_again raw says.2))
says_again first number raw (Told line) says =
    let s = says.1 in
    let told : is_skipped (rest_of is_space raw) ≡ false = ap is_skipped (line_clear number raw line s) ∙ begins_told s.text (content_begins s.text line.content s.content_there) in
    line_there first number raw says.0 told (and_right first (is_mark raw) (no_mark number raw line s)) ∙ line_again number raw line s
