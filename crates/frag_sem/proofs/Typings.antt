-- What a typing that comes to something tells.
use Rattle.std.proofs.Common.{ℕ, ◌≡◌, Bool, true, false, is_ok, nat_lt, Option, Some, None, Ok, Err, refl, ap}
use Rattle.std.proofs.lemmas.Bool.{false≢true}
use Rattle.frag_sem.specs.CallPlaces.{admits}
use Rattle.frag_sem.specs.ScriptTyping.{ScriptKind, Typed, ◌>>=◌, holds_or, index_range, index_types}

-- no fault is what something comes to
pub not_ok : {A : Type 0} (kind : ScriptKind) (x : A) → ◌≡◌ {A = Typed A} (Err kind) (Ok x) → ⊥
not_ok kind x h = false≢true (ap is_ok h)

pub same_ok : {A : Type 0} (x y : A) → ◌≡◌ {A = Typed A} (Ok x) (Ok y) → x ≡ y
same_ok x y h = cc

-- an index that types is one that the accessor admits
pub admits_typed : (count index : Option ℕ) → index_types count index ≡ Ok tt → admits count index ≡ true
admits_typed None None h = refl
admits_typed None (Some index) h = absurd (not_ok _ tt h)
admits_typed (Some count) None h = absurd (not_ok _ tt h)
admits_typed (Some count) (Some index) h = by (nat_lt index count) h
  where
    by : (b : Bool) → holds_or index_range b ≡ Ok tt → b ≡ true
    by true e = refl
    by false e = absurd (not_ok index_range tt e)

-- both steps of a typing that came to something
pub both_ok : {A B : Type 0} (found : Typed A) (others : A → Typed B) (y : B) → (found >>= others) ≡ Ok y → (x : A) × (found ≡ Ok x) × (others x ≡ Ok y)
both_ok (Ok x) others y h = (x, refl, h)
both_ok (Err kind) others y h = absurd (not_ok kind y h)

-- what holds at a word that has a rule
pub held_or : (kind : ScriptKind) (b : Bool) → holds_or kind b ≡ Ok tt → b ≡ true
held_or kind true h = refl
held_or kind false h = absurd (not_ok kind tt h)
