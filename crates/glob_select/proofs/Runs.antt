-- A run of readings: by its first one, against the relation of each, and back.
use Rattle.std.proofs.Common.{◌≡◌, ℕ, zero, suc, ◌<◌, ◌≤◌, List, [], ◌∷◌, length, Option, Some, None, refl, sym, ap, subst, ◌∙◌, inl, inr, arith}
use Rattle.text_scan.specs.Lists.{ReadsAll}
use Rattle.text_scan.proofs.Steps.{cases_option}
use Rattle.glob_select.specs.Reading.{read_before, run_up_to, run}

abbrev pub given : {A : Type 0} → A → Option A
given x = Some x

-- a reading takes at least a byte
abbrev pub Shrinks : {X : Type 0} → (List ℕ → Option (X × List ℕ)) → Type 0
Shrinks {X} read = (text : List ℕ) (p : X × List ℕ) → read text ≡ Some p → length p.1 < length text

module _ {X : Type 0} (read : List ℕ → Option (X × List ℕ)) where
  abbrev before : X → List X × List ℕ → List X × List ℕ
  before x r = (x ∷ r.0, r.1)

  enough : Shrinks read → (n m : ℕ) (text : List ℕ) → length text ≤ n → length text ≤ m → run_up_to read n text ≡ run_up_to read m text
  unfolding run_up_to
  enough shrinks zero zero text p q = refl
  enough shrinks zero (suc m) text p q =
      elim (cases_option (read text)) [
        | inl none ↦ rw none refl
        | inr some ↦ absurd (omega (arith, shrinks text some.0 some.1))
      ]
  enough shrinks (suc n) zero text p q =
      elim (cases_option (read text)) [
        | inl none ↦ rw none refl
        | inr some ↦ absurd (omega (arith, shrinks text some.0 some.1))
      ]
  enough shrinks (suc n) (suc m) text p q =
      elim (cases_option (read text)) [
        | inl none ↦ rw none refl
        | inr some ↦ rw some.1 (ap (before some.0.0)
            (enough shrinks n m some.0.1 (omega (arith, shrinks text some.0 some.1)) (omega (arith, shrinks text some.0 some.1))))
      ]

  once : Shrinks read → (text : List ℕ) → run read text ≡ read_before (read text) text (run_up_to read (length text))
  unfolding run run_up_to
  once shrinks text = enough shrinks (length text) (suc (length text)) text (omega arith) (omega arith)

  pub run-some : Shrinks read → (text : List ℕ) (p : X × List ℕ) → read text ≡ Some p → run read text ≡ (p.0 ∷ (run read p.1).0, (run read p.1).1)
  unfolding run
  run-some shrinks text p some =
      once shrinks text ∙ rw some (ap (before p.0) (enough shrinks (length text) (length p.1) p.1 (omega (arith, shrinks text p some)) (omega arith)))

  pub run-none : Shrinks read → (text : List ℕ) → read text ≡ None → run read text ≡ ([], text)
  run-none shrinks text none = once shrinks text ∙ rw none refl

  module _ (reads : X → List ℕ → List ℕ → Type 0) where
    up_to_takes : ((text : List ℕ) (p : X × List ℕ) → read text ≡ Some p → reads p.0 text p.1) → (n : ℕ) (text : List ℕ)
        → ReadsAll reads (run_up_to read n text).0 text (run_up_to read n text).1
    unfolding run_up_to
    up_to_takes one zero text = refl
    up_to_takes one (suc n) text =
        elim (cases_option (read text)) [
          | inl none ↦ rw none refl
          | inr some ↦ rw some.1 (some.0.1, one text some.0 some.1, up_to_takes one n some.0.1)
        ]

    pub run_takes : ((text : List ℕ) (p : X × List ℕ) → read text ≡ Some p → reads p.0 text p.1) → (text : List ℕ) → ReadsAll reads (run read text).0 text (run read text).1
    unfolding run
    run_takes one text = up_to_takes one (length text) text

    module _ (Free : List ℕ → Type 0) (shrinks : Shrinks read)
        (frees : (x : X) (text rest : List ℕ) → reads x text rest → Free text)
        (one : (x : X) (text rest : List ℕ) → reads x text rest → Free rest → read text ≡ Some (x, rest)) where
      free_front : (items : List X) (text rest : List ℕ) → ReadsAll reads items text rest → Free rest → Free text
      free_front [] text rest same free = subst Free (sym same) free
      free_front (x ∷ items) text rest all free = frees x text all.0 all.1

      pub run_again : (items : List X) (text rest : List ℕ) → ReadsAll reads items text rest → Free rest → read rest ≡ None → run read text ≡ (items, rest)
      run_again [] text rest same free stop = ap (run read) same ∙ run-none shrinks rest stop
      run_again (x ∷ items) text rest all free stop =
          run-some shrinks text (x, all.0) (one x text all.0 all.1 (free_front items all.0 rest all.2 free))
          ∙ rw (run_again items all.0 rest all.2 free stop) refl
