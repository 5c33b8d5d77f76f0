-- The value of the first key of a name, sought from the front.
use Rattle.std.proofs.Common.{◌≡◌, ℕ, ◌+◌, ◌<◌, ◌≤◌, true, false, List, ◌∷◌, drop, get_or, length, Some, None, refl, sym, ap, ◌∙◌}
use Rattle.std.proofs.lemmas.List.{drop_all, drop_more}
use Rattle.std.specs.Map.{lookup}
use Rattle.std.specs.Str.{bytes_eq}
use Rattle.patch_model.specs.Acts.{KeyList}

pub next : (keys : KeyList) (i : ℕ) (entry : List ℕ × List ℕ) → i < length keys → entry ≡ get_or keys i entry → drop i keys ≡ entry ∷ drop (i + 1) keys
next keys i entry within is = drop_more keys i entry within ∙ ap (λ (e : List ℕ × List ℕ). e ∷ drop (i + 1) keys) (sym is)

module _ (name : List ℕ) (keys : KeyList) (i : ℕ) (entry : List ℕ × List ℕ) (within : i < length keys) (is : entry ≡ get_or keys i entry) where
  pub found-here : bytes_eq name entry.0 ≡ true → Some entry.1 ≡ lookup (bytes_eq name) (drop i keys)
  found-here same = sym (ap (lookup (bytes_eq name)) (next keys i entry within is) ∙ rw same refl)

  pub not-here : bytes_eq name entry.0 ≡ false → lookup (bytes_eq name) (drop (i + 1) keys) ≡ lookup (bytes_eq name) (drop i keys)
  not-here other = sym (ap (lookup (bytes_eq name)) (next keys i entry within is) ∙ rw other refl)

pub none-left : (name : List ℕ) (keys : KeyList) (i : ℕ) → length keys ≤ i → None ≡ lookup (bytes_eq name) (drop i keys)
none-left name keys i past = sym (ap (lookup (bytes_eq name)) (drop_all i keys past))
