-- A text is white space where nothing follows its white space.
use Rattle.std.proofs.Common.{◌≡◌, ℕ, Bool, false, eqb, List, [], ◌∷◌, length, refl, inl, inr, arith}
use Rattle.std.proofs.lemmas.Bool.Decides.{nat_tests}
use Rattle.std.specs.List.{list_all}
use Rattle.std.proofs.lemmas.Bool.{cases_Bool}
use Rattle.text_scan.specs.Fronts.{rest_of}

pub some_left : (byte : ℕ) (text : List ℕ) → eqb (length (byte ∷ text)) 0 ≡ false
some_left byte text = grind (arith, nat_tests)

pub none_left : (test : ℕ → Bool) (text : List ℕ) → eqb (length (rest_of test text)) 0 ≡ list_all test text
unfolding rest_of
none_left test [] = refl
none_left test (byte ∷ text) =
    elim (cases_Bool (test byte)) [
      | inl passes ↦ rw (passes) (none_left test text)
      | inr fails ↦ rw (fails) (some_left byte text)
    ]
