-- Lists of items: what was read so far, and what is left.
use Rattle.std.proofs.Common.{ℕ, zero, suc, ◌≡◌, ◌<◌, ◌≤◌, arith, List, [], ◌∷◌, ◌++◌, length, Bool, true, false, Some, None, refl, sym, ap, ◌∙◌, inl, inr, append_assoc, append-nil}
use Rattle.std.proofs.lemmas.Bool.{cases_Bool}
use Rattle.text_scan.specs.Steps.{◌>>=◌}
use Rattle.text_scan.proofs.Steps.{cases_option}
use Rattle.frag_words.specs.Words.{Word}
use Rattle.frag_token.specs.declared.fault.Stop.{Stop}
use Rattle.frag_token.specs.declared.fault.Stop.TheVariants.{Unfit, Memory}
use Rattle.frag_token.specs.Reading.{Fails, Found, Shrinks, many_at, many_up_to}

-- more steps than words give no more
pub many_enough : {A : Type 0} (begins : List Word → Bool) (item_at : List Word → Found A) → Shrinks item_at → (n m : ℕ) (text : List Word) → length text ≤ n → length text ≤ m → many_up_to begins item_at n text ≡ many_up_to begins item_at m text
unfolding many_up_to
many_enough begins item_at shrinks zero zero text small fits = refl
many_enough begins item_at shrinks zero (suc m) text small fits =
    elim (cases_Bool (begins text)) [
      | inl here ↦ elim (cases_option (item_at text)) [
        | inl e ↦ rw (here, e) refl
        | inr item ↦ absurd (omega (arith, shrinks text item.0.0 item.0.1 item.1))
      ]
      | inr there ↦ rw (there) refl
    ]
many_enough begins item_at shrinks (suc n) zero text small fits =
    elim (cases_Bool (begins text)) [
      | inl here ↦ elim (cases_option (item_at text)) [
        | inl e ↦ rw (here, e) refl
        | inr item ↦ absurd (omega (arith, shrinks text item.0.0 item.0.1 item.1))
      ]
      | inr there ↦ rw (there) refl
    ]
many_enough {A} begins item_at shrinks (suc n) (suc m) text small fits =
    elim (cases_Bool (begins text)) [
      | inl here ↦ elim (cases_option (item_at text)) [
        | inl e ↦ rw (here, e) refl
        | inr item ↦
            let less : length item.0.1 < length text = shrinks text item.0.0 item.0.1 item.1 in
            rw (here, item.1) (ap (λ (o : Found (List A)). o >>= λ more. Some (item.0.0 ∷ more.0, more.1)) (many_enough begins item_at shrinks n m item.0.1 (omega (arith, less, small)) (omega (arith, less, fits))))
      ]
      | inr there ↦ rw (there) refl
    ]

-- what was read, in front of what is read next
abbrev pub joined : {A : Type 0} → List A → Found (List A) → Found (List A)
joined made None = None
joined made (Some found) = Some (made ++ found.0, found.1)

pub joined-nil : {A : Type 0} (found : Found (List A)) → joined [] found ≡ found
joined-nil None = refl
joined-nil (Some found) = refl

joined-item : {A : Type 0} (made : List A) (item : A) (more : Found (List A)) → joined (made ++ item ∷ []) more ≡ joined made (more >>= λ found. Some (item ∷ found.0, found.1))
joined-item made item None = refl
joined-item {A} made item (Some found) = ap (λ (items : List A). Some (items, found.1)) (append_assoc made (item ∷ []) found.0)

many_item : {A : Type 0} (begins : List Word → Bool) (item_at : List Word → Found A) → Shrinks item_at → (text : List Word) (item : A) (rest : List Word) → begins text ≡ true → item_at text ≡ Some (item, rest) → many_at begins item_at text ≡ (many_at begins item_at rest >>= λ more. Some (item ∷ more.0, more.1))
unfolding many_at many_up_to
many_item begins item_at shrinks [] item rest here e = absurd (omega (arith, shrinks [] item rest e))
many_item {A} begins item_at shrinks (word ∷ words) item rest here e =
    let less : length rest < length (word ∷ words) = shrinks (word ∷ words) item rest e in
    rw (here, e) (ap (λ (o : Found (List A)). o >>= λ more. Some (item ∷ more.0, more.1)) (many_enough begins item_at shrinks (length words) (length rest) rest (omega (arith, less)) (omega arith)))

many_none : {A : Type 0} (begins : List Word → Bool) (item_at : List Word → Found A) (text : List Word) → begins text ≡ true → item_at text ≡ None → many_at begins item_at text ≡ None
unfolding many_at many_up_to
many_none begins item_at [] here e = rw (here) refl
many_none begins item_at (word ∷ words) here e = rw (here, e) refl

many_end : {A : Type 0} (begins : List Word → Bool) (item_at : List Word → Found A) (text : List Word) → begins text ≡ false → many_at begins item_at text ≡ Some ([], text)
unfolding many_at many_up_to
many_end begins item_at [] there = rw (there) refl
many_end begins item_at (word ∷ words) there = rw (there) refl

-- ---- loops

pub goes_on : {A : Type 0} (begins : List Word → Bool) (item_at : List Word → Found A) → Shrinks item_at → (made : List A) (item : A) (text rest : List Word) (all : Found (List A)) → begins text ≡ true → item_at text ≡ Some (item, rest) → joined made (many_at begins item_at text) ≡ all → joined (made ++ item ∷ []) (many_at begins item_at rest) ≡ all
goes_on {A} begins item_at shrinks made item text rest all here e so_far =
    joined-item made item (many_at begins item_at rest) ∙ (sym (ap (joined made) (many_item begins item_at shrinks text item rest here e)) ∙ so_far)

pub is_done : {A : Type 0} (begins : List Word → Bool) (item_at : List Word → Found A) (made : List A) (text : List Word) (all : Found (List A)) → begins text ≡ false → joined made (many_at begins item_at text) ≡ all → all ≡ Some (made, text)
is_done {A} begins item_at made text all there so_far =
    sym so_far ∙ (ap (joined made) (many_end begins item_at text there) ∙ ap (λ (items : List A). Some (items, text)) (append-nil made))

breaks_off : {A : Type 0} (begins : List Word → Bool) (item_at : List Word → Found A) (made : List A) (text : List Word) (all : Found (List A)) → begins text ≡ true → item_at text ≡ None → joined made (many_at begins item_at text) ≡ all → all ≡ None
breaks_off begins item_at made text all here e so_far = sym so_far ∙ ap (joined made) (many_none begins item_at text here e)

pub fails : {A : Type 0} (begins : List Word → Bool) (item_at : List Word → Found A) (made : List A) (text : List Word) (all : Found (List A)) (stop : Stop) → begins text ≡ true → Fails stop (item_at text) → joined made (many_at begins item_at text) ≡ all → Fails stop all
fails begins item_at made text all (Unfit left) here e so_far = breaks_off begins item_at made text all here e so_far
fails begins item_at made text all Memory here e so_far = tt
