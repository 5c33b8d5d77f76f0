-- What a map by names finds.
use Rattle.std.proofs.Common.{◌≡◌, ℕ, Bool, true, false, ◌||◌, List, [], ◌∷◌, map, Option, Some, None, is_some, refl, sym, ap, ◌∙◌, if◌then◌else◌}
use Rattle.std.specs.Borrow.{Bor}
use Rattle.std.specs.List.{list_any}
use Rattle.std.specs.Map.{lookup}
use Rattle.std.specs.Option.{option_or}
use Rattle.std.specs.Str.{bytes_eq}
use Rattle.std.proofs.lemmas.Bool.{false≢true}
use Rattle.std.proofs.lemmas.Slice.Eq.{bytes_eq-Decides}
use Rattle.indexmap.specs.IndexMap.{insert_entry}

abbrev pub key_eq : Bor (List ℕ) → Bor (List ℕ) → Bool
key_eq one other = bytes_eq one.now other.now

abbrev pub entry_of : {T : Type 0} → (Bor (List ℕ) × T) → (List ℕ × T)
entry_of entry = (entry.0.now, entry.1)

pub found-entries : {T : Type 0} (name : List ℕ) (es : List (Bor (List ℕ) × T)) → lookup (bytes_eq name) (map entry_of es) ≡ lookup (λ key. bytes_eq name key.now) es
found-entries name [] = refl
found-entries name (e ∷ es) = ap (λ o. if bytes_eq name e.0.now then Some e.1 else o) (found-entries name es)

pub found-inserted : {T : Type 0} (es : List (Bor (List ℕ) × T)) (key : Bor (List ℕ)) (item : T) (other : List ℕ)
    → lookup (bytes_eq other) (map entry_of (insert_entry key_eq es key item)) ≡ (if bytes_eq other key.now then Some item else lookup (bytes_eq other) (map entry_of es))
found-inserted [] key item other = refl
found-inserted {T} (e ∷ es) key item other = by (bytes_eq key.now e.0.now) refl (found-inserted es key item other)
  where
    kept : (a b : Bool) (x y : Option T) → bytes_eq other e.0.now ≡ a → bytes_eq other key.now ≡ b → bytes_eq key.now e.0.now ≡ false → x ≡ (if b then Some item else y) → (if a then Some e.1 else x) ≡ (if b then Some item else (if a then Some e.1 else y))
    kept false b x y one two apart is = is
    kept true false x y one two apart is = refl
    kept true true x y one two apart is =
        let same : key.now ≡ e.0.now = sym ((bytes_eq-Decides other key.now).0 two) ∙ (bytes_eq-Decides other e.0.now).0 one in
        absurd (false≢true (sym apart ∙ (bytes_eq-Decides key.now e.0.now).1 same))

    put : (a : Bool) (y : Option T) → (if a then Some item else y) ≡ (if a then Some item else (if a then Some e.1 else y))
    put true y = refl
    put false y = refl

    by : (b : Bool) → bytes_eq key.now e.0.now ≡ b
        → lookup (bytes_eq other) (map entry_of (insert_entry key_eq es key item)) ≡ (if bytes_eq other key.now then Some item else lookup (bytes_eq other) (map entry_of es))
        → lookup (bytes_eq other) (map entry_of (if b then (e.0, item) ∷ es else e ∷ insert_entry key_eq es key item)) ≡ (if bytes_eq other key.now then Some item else lookup (bytes_eq other) (map entry_of (e ∷ es)))
    by true same more = rw ((bytes_eq-Decides key.now e.0.now).0 same) (put (bytes_eq other e.0.now) (lookup (bytes_eq other) (map entry_of es)))
    by false apart more = kept (bytes_eq other e.0.now) (bytes_eq other key.now) _ _ refl refl apart more

-- an item that is kept where its name has none
pub kept-there : {T : Type 0} (held : List (List ℕ × T)) (name : List ℕ) (item : T) → is_some (lookup (bytes_eq name) held) ≡ true
    → (other : List ℕ) → lookup (bytes_eq other) held ≡ option_or (lookup (bytes_eq other) held) (if bytes_eq other name then Some item else None)
kept-there {T} held name item there other = by (bytes_eq other name) (lookup (bytes_eq other) held) refl (λ same. ap (λ n. is_some (lookup (bytes_eq n) held)) ((bytes_eq-Decides other name).0 same) ∙ there)
  where
    by : (b : Bool) (o : Option T) → bytes_eq other name ≡ b → (bytes_eq other name ≡ true → is_some o ≡ true) → o ≡ option_or o (if b then Some item else None)
    by b (Some x) is more = refl
    by false None is more = refl
    by true None is more = absurd (false≢true (more is))

pub kept-new : {T : Type 0} (held new : List (List ℕ × T)) (name : List ℕ) (item : T) → is_some (lookup (bytes_eq name) held) ≡ false
    → ((other : List ℕ) → lookup (bytes_eq other) new ≡ (if bytes_eq other name then Some item else lookup (bytes_eq other) held))
    → (other : List ℕ) → lookup (bytes_eq other) new ≡ option_or (lookup (bytes_eq other) held) (if bytes_eq other name then Some item else None)
kept-new {T} held new name item none inserted other =
    inserted other ∙ by (bytes_eq other name) (lookup (bytes_eq other) held) refl (λ same. ap (λ n. is_some (lookup (bytes_eq n) held)) ((bytes_eq-Decides other name).0 same) ∙ none)
  where
    by : (b : Bool) (o : Option T) → bytes_eq other name ≡ b → (bytes_eq other name ≡ true → is_some o ≡ false) → (if b then Some item else o) ≡ option_or o (if b then Some item else None)
    by false (Some x) is more = refl
    by false None is more = refl
    by true None is more = refl
    by true (Some x) is more = absurd (false≢true (sym (more is)))

pub any-map : {A B : Type 0} (test : B → Bool) (f : A → B) (xs : List A) → list_any test (map f xs) ≡ list_any (λ x. test (f x)) xs
any-map test f [] = refl
any-map test f (x ∷ xs) = ap (λ b. test (f x) || b) (any-map test f xs)
