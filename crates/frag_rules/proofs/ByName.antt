-- Maps by names, as they are made.
use Rattle.std.proofs.Common.{◌≡◌, ℕ, Bool, true, false, List, [], ◌∷◌, length, find, Option, Some, None, option_map, refl, sym, ap, ◌∙◌, if◌then◌else◌, arith}
use Rattle.std.specs.Borrow.{Bor}
use Rattle.std.specs.Map.{lookup}
use Rattle.std.specs.Option.{option_or}
use Rattle.std.specs.Str.{bytes_eq}
use Rattle.std.proofs.lemmas.Slice.Eq.{bytes_eq-Decides}
use Rattle.std.proofs.lemmas.Bool.{false≢true}
use Rattle.frag_rules.specs.Naming.{named_in}

pub none-left : {A : Type 0} (xs : List A) → length xs ≡ 0 → xs ≡ []
none-left [] h = refl
none-left (x ∷ xs) h = absurd (omega arith)

pub bytes-turned : (one other : List ℕ) → bytes_eq one other ≡ bytes_eq other one
bytes-turned one other = by (bytes_eq one other) (bytes_eq other one) refl refl
  where
    by : (a b : Bool) → bytes_eq one other ≡ a → bytes_eq other one ≡ b → a ≡ b
    by true true e f = refl
    by false false e f = refl
    by true false e f = absurd (false≢true (sym f ∙ (bytes_eq-Decides other one).1 (sym ((bytes_eq-Decides one other).0 e))))
    by false true e f = absurd (false≢true (sym e ∙ (bytes_eq-Decides one other).1 (sym ((bytes_eq-Decides other one).0 f))))

-- the map finds the first of what it was made of, and then of what is left
abbrev pub FindsBefore : {T : Type 0} → (T → List ℕ) → List (List ℕ × Bor T) → List T → List T → Type 0
FindsBefore name_of named left all = (name : List ℕ) → option_or (named_in named name) (find (λ item. bytes_eq name (name_of item)) left) ≡ find (λ item. bytes_eq name (name_of item)) all

pub finds-begin : {T : Type 0} (name_of : T → List ℕ) (named : List (List ℕ × Bor T)) (all : List T) → named ≡ [] → FindsBefore name_of named all all
finds-begin name_of named all is name = rw is refl

pub finds-more : {T : Type 0} (name_of : T → List ℕ) (named named' : List (List ℕ × Bor T)) (first : Bor T) (own : List ℕ) (left others all : List T) → left ≡ first.now ∷ others → own ≡ name_of first.now
    → ((name : List ℕ) → lookup (bytes_eq name) named' ≡ option_or (lookup (bytes_eq name) named) (if bytes_eq name own then Some first else None))
    → FindsBefore name_of named left all → FindsBefore name_of named' others all
finds-more {T} name_of named named' first own left others all is named_so kept before name =
    ap (λ o. option_or (option_map (λ (item : Bor T). item.now) o) (find (λ item. bytes_eq name (name_of item)) others)) (kept name ∙ ap (λ n. option_or (lookup (bytes_eq name) named) (if bytes_eq name n then Some first else None)) named_so)
    ∙ (by (lookup (bytes_eq name) named) (bytes_eq name (name_of first.now)) (find (λ item. bytes_eq name (name_of item)) others)
    ∙ (ap (λ xs. option_or (named_in named name) (find (λ item. bytes_eq name (name_of item)) xs)) (sym is) ∙ before name))
  where
    by : (o : Option (Bor T)) (b : Bool) (f : Option T) → option_or (option_map (λ (item : Bor T). item.now) (option_or o (if b then Some first else None))) f ≡ option_or (option_map (λ (item : Bor T). item.now) o) (if b then Some first.now else f)
    by (Some x) b f = refl
    by None true f = refl
    by None false f = refl

pub finds-done : {T : Type 0} (name_of : T → List ℕ) (named : List (List ℕ × Bor T)) (left all : List T) → left ≡ [] → FindsBefore name_of named left all → (name : List ℕ) → named_in named name ≡ find (λ item. bytes_eq name (name_of item)) all
finds-done {T} name_of named left all is before name = by (named_in named name) ∙ (ap (λ xs. option_or (named_in named name) (find (λ item. bytes_eq name (name_of item)) xs)) (sym is) ∙ before name)
  where
    by : (o : Option T) → o ≡ option_or o None
    by None = refl
    by (Some x) = refl
