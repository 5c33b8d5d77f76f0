-- Steps of reading, one after another.
use Rattle.std.proofs.Common.{◌≡◌, Bool, true, false, cond, refl}
use Rattle.svd_text.specs.Machine.{Outcome, goes, breaks, sinks, ◌>>=◌}

pub goes_is : {A : Type 0} (x y : A) → goes x ≡ goes y → x ≡ y
goes_is x y e = cc

pub bind_goes : {A B : Type 0} (outcome : Outcome A) (next : A → Outcome B) (y : B) → (outcome >>= next) ≡ goes y → (x : A) × (outcome ≡ goes x) × (next x ≡ goes y)
bind_goes (goes x) next y e = (x, refl, e)
bind_goes breaks next y e = absurd cc
bind_goes (sinks name) next y e = absurd cc

pub bind_assoc : {A B C : Type 0} (outcome : Outcome A) (next : A → Outcome B) (last : B → Outcome C) → ((outcome >>= next) >>= last) ≡ (outcome >>= λ x. next x >>= last)
bind_assoc (goes x) next last = refl
bind_assoc breaks next last = refl
bind_assoc (sinks name) next last = refl

-- what comes next need be the same only for what was read
pub bind_along : {A B : Type 0} (outcome : Outcome A) (one other : A → Outcome B) → ((x : A) → outcome ≡ goes x → one x ≡ other x) → (outcome >>= one) ≡ (outcome >>= other)
bind_along (goes x) one other same = same x refl
bind_along breaks one other same = refl
bind_along (sinks name) one other same = refl

pub guard_goes : {A : Type 0} (test : Bool) (outcome : Outcome A) (y : A) → cond test outcome breaks ≡ goes y → (test ≡ true) × (outcome ≡ goes y)
guard_goes true outcome y e = (refl, e)
guard_goes false outcome y e = absurd cc
