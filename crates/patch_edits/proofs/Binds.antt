-- Steps one after the other.
use Rattle.std.proofs.Common.{◌≡◌, Ok, Err, refl}
use Rattle.patch_sem.specs.Steps.{Outcome, ◌>>=◌}
use Rattle.patch_edits.specs.Visits.{Below}

pub bind-assoc : {A B C : Type 0} (first : Outcome A) (next : A → Outcome B) (last : B → Outcome C) → ((first >>= next) >>= last) ≡ (first >>= (λ x. next x >>= last))
bind-assoc (Ok x) next last = refl
bind-assoc (Err fault) next last = refl

pub bind-same : {A B : Type 0} (first : Outcome A) (next other : A → Outcome B) → ((x : A) → first ≡ Ok x → next x ≡ other x) → (first >>= next) ≡ (first >>= other)
bind-same (Ok x) next other same = same x refl
bind-same (Err fault) next other same = refl

pub bind-ok : {A : Type 0} (first : Outcome A) → (first >>= (λ x. Ok x)) ≡ first
bind-ok (Ok x) = refl
bind-ok (Err fault) = refl

-- what went through, as an outcome
abbrev pub given : Below → Outcome Below
given f = Ok f

pub given_is : (one other : Below) → given one ≡ given other → one ≡ other
given_is one other e = cc
