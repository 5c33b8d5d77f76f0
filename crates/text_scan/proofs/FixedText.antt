-- What follows a fixed text is what was put behind it.
use Rattle.std.proofs.Common.{◌≡◌, ◌≢◌, ℕ, eqb, List, [], ◌∷◌, ◌++◌, Option, Some, None, refl, sym, ap, ◌∙◌, ◌⊎◌, inl, inr}
use Rattle.std.specs.Prelude.{MatchOption, option_map}
use Rattle.std.specs.Borrow.{Bor}
use Rattle.std.proofs.lemmas.Bool.{cases_Bool, eqb-true, eq-eqb}
use Rattle.text_scan.specs.Fronts.{stripped_of}

pub stripped-append : (fixed rest : List ℕ) → stripped_of fixed (fixed ++ rest) ≡ Some rest
unfolding stripped_of
stripped-append [] rest = refl
stripped-append (byte ∷ fixed) rest = rw (eq-eqb byte byte refl) (stripped-append fixed rest)

pub stripped-Some : (fixed text rest : List ℕ) → stripped_of fixed text ≡ Some rest → text ≡ fixed ++ rest
unfolding stripped_of
stripped-Some [] text rest e = cc
stripped-Some (byte ∷ fixed) [] rest e = absurd cc
stripped-Some (byte ∷ fixed) (first ∷ text) rest e =
    elim (cases_Bool (eqb byte first)) [
      | inl passes_it ↦
          let same : byte ≡ first = eqb-true byte first passes_it in
          let more : text ≡ fixed ++ rest = stripped-Some fixed text rest (rw (passes_it) at e) in
          cc
      | inr fails ↦ absurd (let e' : None ≡ Some rest = rw (fails) at e in cc)
    ]

-- where no rest fits, there is none
pub stripped-None : (fixed text : List ℕ) → ((rest : List ℕ) → text ≢ fixed ++ rest) → stripped_of fixed text ≡ None
stripped-None fixed text none =
    elim (cases_option (stripped_of fixed text)) [
      | inl is_none ↦ is_none
      | inr some ↦ absurd (none some.0 (stripped-Some fixed text some.0 some.1))
    ]
  where
    cases_option : (o : Option (List ℕ)) → (o ≡ None) ⊎ ((x : List ℕ) × (o ≡ Some x))
    cases_option None = inl refl
    cases_option (Some x) = inr (x, refl)

pub stripped_is : (fixed text : List ℕ) (r : Option (Bor (List ℕ))) → MatchOption r ((rest : List ℕ) → text ≢ fixed ++ rest) (λ x. text ≡ fixed ++ x.now)
    → option_map (λ x. x.now) r ≡ stripped_of fixed text
stripped_is fixed text None none = sym (stripped-None fixed text none)
stripped_is fixed text (Some x) e = sym (ap (stripped_of fixed) e ∙ stripped-append fixed x.now)
