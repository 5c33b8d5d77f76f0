-- What is known where steps went through to the end.
use Rattle.std.proofs.Common.{◌≡◌, ℕ, Bool, true, false, List, [], ◌∷◌, Ok, Err, refl}
use Rattle.patch_sem.specs.declared.fault.PatchFault.{PatchFault}
use Rattle.patch_sem.specs.Steps.{Outcome, ◌>>=◌, refused_if, unless_none}

-- a step and the one behind it both gave something
pub both_ok : {A B : Type 0} (first : Outcome A) (next : A → Outcome B) (end : B) → (first >>= next) ≡ Ok end → (x : A) × (first ≡ Ok x) × (next x ≡ Ok end)
both_ok (Ok x) next end e = (x, refl, e)
both_ok (Err fault) next end e = absurd (no e)
  where
    no : Err fault ≡ Ok end → ⊥
    no e = cc

-- nothing was refused
pub not_refused : {A : Type 0} (test : Bool) (fault : PatchFault) (x y : A) → refused_if test fault (Ok x) ≡ Ok y → x ≡ y
not_refused true fault x y e = cc
not_refused false fault x y e = cc

-- something matched
pub some_matched : {A B : Type 0} (line : ℕ) (xs : List A) (x y : B) → unless_none line xs (Ok x) ≡ Ok y → x ≡ y
some_matched line [] x y e = cc
some_matched line (one ∷ others) x y e = cc
