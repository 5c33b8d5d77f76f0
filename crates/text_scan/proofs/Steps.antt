-- The steps of a reader that gave something.
use Rattle.std.proofs.Common.{◌≡◌, Bool, true, false, cond, Option, Some, None, refl, ◌⊎◌, inl, inr}
use Rattle.text_scan.specs.Steps.{◌>>=◌}

pub cases_option : {A : Type 0} (o : Option A) → (o ≡ None) ⊎ ((x : A) × (o ≡ Some x))
cases_option None = inl refl
cases_option (Some x) = inr (x, refl)

pub bind_some : {A B : Type 0} (o : Option A) (step : A → Option B) (y : B) → (o >>= step) ≡ Some y → (x : A) × (o ≡ Some x) × (step x ≡ Some y)
bind_some None step y e = absurd cc
bind_some (Some x) step y e = (x, refl, e)

pub guard_some : {A : Type 0} (test : Bool) (x y : A) → cond test (Some x) None ≡ Some y → (test ≡ true) × (x ≡ y)
guard_some true x y e = (refl, cc)
guard_some false x y e = absurd cc

abbrev given : {A : Type 0} → A → Option A
given x = Some x

pub some_is : {A : Type 0} (x y : A) → given x ≡ given y → x ≡ y
some_is x y e = cc
