-- Scalars are read as they are spelled.
use Rattle.std.proofs.Common.{◌≡◌, ℕ, true, false, eqb, List, [], ◌∷◌, ◌++◌, Some, refl, sym, ap, subst, ◌∙◌, inl, inr}
use Rattle.std.specs.Prelude.{codes, None}
use Rattle.std.specs.List.{list_any}
use Rattle.std.proofs.lemmas.Bool.{cases_Bool, eq-eqb, eqb-true, true≢false}
use Rattle.text_scan.specs.Fronts.{stripped_of, StopsAt}
use Rattle.text_scan.proofs.FixedText.{stripped-None, stripped-Some}
use Rattle.text_scan.proofs.Steps.{cases_option}
use Rattle.yaml_block.specs.declared.quoted.Quote.TheVariants.{Single, Double}
use Rattle.yaml_block.specs.declared.scalar.Place.{Place}
use Rattle.yaml_block.specs.Scalars.{mark_of, plain_at, quoted_at, scalar_at, stops}
use Rattle.yaml_block.specs.Spaces.{is_space}
use Rattle.yaml_block.proofs.Quoting.{quoted_again, quoted_takes}
use Rattle.patch_text.specs.Parts.{AreSpaces}
use Rattle.patch_text.specs.PlainScalars.{IsPlain, indicators}
use Rattle.patch_text.specs.Scalars.{IsScalar}
use Rattle.patch_text.proofs.Plain.{plain_again, plain_takes}
use Rattle.patch_text.proofs.Texts.{among_any, head_is, stops_where}

-- the text is the scalar, spaces, and then the rest
pub record IsScalarRead (place : Place) (scalar text rest : List ℕ) : Type 0 where
  pub behind : List ℕ
  pub spaces : AreSpaces behind
  pub scalar_there : IsScalar place scalar text (behind ++ rest)

pub scalar_takes : (place : Place) (text scalar rest : List ℕ) → StopsAt is_space text → scalar_at place text ≡ Some (scalar, rest) → IsScalarRead place scalar text rest
unfolding scalar_at mark_of
scalar_takes place text scalar rest clear e =
    elim (cases_option (stripped_of (codes "'") text)) [
      | inr single ↦
          let e' : quoted_at Single single.0 ≡ Some (scalar, rest) = rw single.1 at e in
          record { behind = []; spaces = refl; scalar_there = inr (inl (single.0, stripped-Some (codes "'") text single.0 single.1, quoted_takes Single single.0 scalar rest e')) }
      | inl none ↦ elim (cases_option (stripped_of (codes "\"") text)) [
        | inr double ↦
            let e' : quoted_at Double double.0 ≡ Some (scalar, rest) = rw (none, double.1) at e in
            record { behind = []; spaces = refl; scalar_there = inr (inr (double.0, stripped-Some (codes "\"") text double.0 double.1, quoted_takes Double double.0 scalar rest e')) }
        | inl other ↦
            let e' : plain_at place text ≡ Some (scalar, rest) = rw (none, other) at e in
            let read = plain_takes place text scalar rest clear e' in
            record { behind = read.behind; spaces = read.spaces; scalar_there = inl (read.plain, read.whole) }
      ]
    ]

abbrev pub IsIndicator : ℕ → Type 0
IsIndicator mark = list_any (λ (other : ℕ). eqb mark other) indicators ≡ true

-- a plain scalar begins with no indicator
plain_not_at : (place : Place) (scalar more after : List ℕ) (mark : ℕ) → IsPlain place scalar → IsIndicator mark → scalar ++ more ≡ mark ∷ after → ⊥
plain_not_at place [] more after mark p among e = absurd (p.some refl)
plain_not_at place (byte ∷ scalar) more after mark p among e = p.front mark (among_any indicators mark among) (scalar, ap (λ (b : ℕ). b ∷ scalar) (head_is byte mark (scalar ++ more) after e))

single_at : (place : Place) (inside : List ℕ) → scalar_at place (39 ∷ inside) ≡ quoted_at Single inside
unfolding scalar_at stripped_of
single_at place inside = refl

double_at : (place : Place) (inside : List ℕ) → scalar_at place (34 ∷ inside) ≡ quoted_at Double inside
unfolding scalar_at stripped_of
double_at place inside = refl

plain_there : (place : Place) (text : List ℕ) → stripped_of (codes "'") text ≡ None → stripped_of (codes "\"") text ≡ None → scalar_at place text ≡ plain_at place text
unfolding scalar_at
plain_there place text single double = rw (single, double) refl

pub scalar_again : (place : Place) (scalar text behind rest : List ℕ) → IsScalar place scalar text (behind ++ rest) → AreSpaces behind → stops place rest ≡ true
    → (left : List ℕ) × AreSpaces left × (scalar_at place text ≡ Some (scalar, left ++ rest))
unfolding mark_of
scalar_again place scalar text behind rest is spaces stop =
    elim is [
      | inl plain ↦
          let whole = scalar ++ (behind ++ rest) in
          let single : stripped_of (codes "'") whole ≡ None = stripped-None (codes "'") whole (λ after e. plain_not_at place scalar (behind ++ rest) after 39 plain.0 refl e) in
          let double : stripped_of (codes "\"") whole ≡ None = stripped-None (codes "\"") whole (λ after e. plain_not_at place scalar (behind ++ rest) after 34 plain.0 refl e) in
          ([], refl, ap (scalar_at place) plain.1 ∙ plain_there place whole single double ∙ plain_again place scalar behind rest plain.0 spaces stop)
      | inr quoted ↦ elim quoted [
        | inl single ↦ (behind, spaces, ap (scalar_at place) single.1 ∙ single_at place single.0 ∙ quoted_again Single single.0 scalar (behind ++ rest) single.2)
        | inr double ↦ (behind, spaces, ap (scalar_at place) double.1 ∙ double_at place double.0 ∙ quoted_again Double double.0 scalar (behind ++ rest) double.2)
      ]
    ]

-- no scalar begins with an indicator other than a quote
pub scalar_not_at : (place : Place) (scalar text rest after : List ℕ) (mark : ℕ) → IsScalar place scalar text rest → IsIndicator mark → eqb 39 mark ≡ false → eqb 34 mark ≡ false → text ≡ mark ∷ after → ⊥
unfolding mark_of
scalar_not_at place scalar text rest after mark is among no_single no_double e =
    elim is [
      | inl plain ↦ plain_not_at place scalar rest after mark plain.0 among (sym plain.1 ∙ e)
      | inr quoted ↦ elim quoted [
        | inl single ↦ true≢false (sym (eq-eqb 39 mark (head_is 39 mark single.0 after (sym single.1 ∙ e))) ∙ no_single)
        | inr double ↦ true≢false (sym (eq-eqb 34 mark (head_is 34 mark double.0 after (sym double.1 ∙ e))) ∙ no_double)
      ]
    ]

-- where a value begins: neither at a space nor at `#`
pub record Begins (text : List ℕ) : Type 0 where
  pub byte : ℕ
  pub more : List ℕ
  pub whole : text ≡ byte ∷ more
  pub no_space : eqb byte 32 ≡ false
  pub no_hash : eqb byte 35 ≡ false

plain_first : (place : Place) (scalar more : List ℕ) → IsPlain place scalar → Begins (scalar ++ more)
plain_first place [] more p = absurd (p.some refl)
plain_first place (first ∷ scalar) more p = record {
  byte = first;
  more = scalar ++ more;
  whole = refl;
  no_space = stops_where (first ∷ scalar) p.no_space_before;
  no_hash = elim (cases_Bool (eqb first 35)) [
    | inl same ↦ absurd (plain_not_at place (first ∷ scalar) more (scalar ++ more) 35 p refl (ap (λ (b : ℕ). b ∷ (scalar ++ more)) (eqb-true first 35 same)))
    | inr other ↦ other
  ];
}

pub scalar_begins : (place : Place) (scalar text rest : List ℕ) → IsScalar place scalar text rest → Begins text
unfolding mark_of
scalar_begins place scalar text rest is =
    elim is [
      | inl plain ↦ subst Begins (sym plain.1) (plain_first place scalar rest plain.0)
      | inr quoted ↦ elim quoted [
        | inl single ↦ record { byte = 39; more = single.0; whole = single.1; no_space = refl; no_hash = refl }
        | inr double ↦ record { byte = 34; more = double.0; whole = double.1; no_space = refl; no_hash = refl }
      ]
    ]

pub begins_clear : (text : List ℕ) → Begins text → StopsAt is_space text
begins_clear text b = subst (StopsAt is_space) (sym b.whole) b.no_space
