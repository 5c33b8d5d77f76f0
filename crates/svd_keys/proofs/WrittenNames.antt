-- A written name is kept where it passes.
use Rattle.std.proofs.Common.{◌≡◌, ℕ, List, Bool, true, false, refl, ap, Option, Some, None}
use Rattle.svd_keys.specs.WrittenNames.{kept}

pub kept-none : (test : List ℕ → Bool) (written : Option (List ℕ)) → None ≡ written → None ≡ kept test written
unfolding kept
kept-none test written is = ap (kept test) is

pub kept-passed : (test : List ℕ → Bool) (written : Option (List ℕ)) (name : List ℕ) → Some name ≡ written → test name ≡ true → Some name ≡ kept test written
unfolding kept
kept-passed test written name is passes = rw (← is) (rw passes refl)

pub kept-failed : (test : List ℕ → Bool) (written : Option (List ℕ)) (name : List ℕ) → Some name ≡ written → test name ≡ false → None ≡ kept test written
unfolding kept
kept-failed test written name is fails = rw (← is) (rw fails refl)
