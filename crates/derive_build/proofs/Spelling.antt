-- What an index by names finds.
use Rattle.std.proofs.Common.{◌≡◌, ℕ, Bool, true, false, List, [], ◌∷◌, map, Option, Some, refl, sym, ap, ap₂, ◌∙◌, if◌then◌else◌}
use Rattle.std.specs.Map.{lookup}
use Rattle.std.specs.Str.{bytes_eq}
use Rattle.std.specs.Cmp.Lexicographic.{bytes_decides}
use Rattle.std.proofs.lemmas.Bool.{true≢false}
use Rattle.indexmap.specs.IndexMap.{insert_entry}
use Rattle.derive_build.specs.declared.names.Spelled.{Spelled}

abbrev pub entry_of : (Spelled × ℕ) → (List ℕ × ℕ)
entry_of entry = (entry.0.name.now, entry.1)

module _ (E : Spelled → Spelled → Bool) (tells : (a b : Spelled) → E a b ≡ bytes_eq a.name.now b.name.now) where
  pub found_entries : (key : Spelled) (es : List (Spelled × ℕ)) → lookup (E key) es ≡ lookup (bytes_eq key.name.now) (map entry_of es)
  found_entries key [] = refl
  found_entries key (e ∷ es) = ap₂ (λ (b : Bool) (o : Option ℕ). if b then Some e.1 else o) (tells key e.0) (found_entries key es)

  pub found_inserted : (es : List (Spelled × ℕ)) (key : Spelled) (item : ℕ) (text : List ℕ)
      → lookup (bytes_eq text) (map entry_of (insert_entry E es key item)) ≡ (if bytes_eq text key.name.now then Some item else lookup (bytes_eq text) (map entry_of es))
  found_inserted [] key item text = refl
  found_inserted (e ∷ es) key item text = by (E key e.0) refl (found_inserted es key item text)
    where
      kept : (a b : Bool) (x y : Option ℕ) → bytes_eq text e.0.name.now ≡ a → bytes_eq text key.name.now ≡ b → E key e.0 ≡ false → x ≡ (if b then Some item else y) → (if a then Some e.1 else x) ≡ (if b then Some item else (if a then Some e.1 else y))
      kept false b x y one two apart is = is
      kept true false x y one two apart is = refl
      kept true true x y one two apart is =
          let same : key.name.now ≡ e.0.name.now = sym ((bytes_decides text key.name.now).0 two) ∙ (bytes_decides text e.0.name.now).0 one in
          absurd (true≢false (sym (tells key e.0 ∙ (bytes_decides key.name.now e.0.name.now).1 same) ∙ apart))

      put : (a : Bool) (y : Option ℕ) → (if a then Some item else y) ≡ (if a then Some item else (if a then Some e.1 else y))
      put true y = refl
      put false y = refl

      by : (b : Bool) → E key e.0 ≡ b
          → lookup (bytes_eq text) (map entry_of (insert_entry E es key item)) ≡ (if bytes_eq text key.name.now then Some item else lookup (bytes_eq text) (map entry_of es))
          → lookup (bytes_eq text) (map entry_of (if b then (e.0, item) ∷ es else e ∷ insert_entry E es key item)) ≡ (if bytes_eq text key.name.now then Some item else lookup (bytes_eq text) (map entry_of (e ∷ es)))
      by true same more =
          let equal : key.name.now ≡ e.0.name.now = (bytes_decides key.name.now e.0.name.now).0 (sym (tells key e.0) ∙ same) in
          put (bytes_eq text e.0.name.now) (lookup (bytes_eq text) (map entry_of es))
          ∙ ap (λ name. if bytes_eq text name then Some item else (if bytes_eq text e.0.name.now then Some e.1 else lookup (bytes_eq text) (map entry_of es))) (sym equal)
      by false apart more = kept (bytes_eq text e.0.name.now) (bytes_eq text key.name.now) _ _ refl refl apart more
