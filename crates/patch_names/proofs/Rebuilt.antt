-- A map that is made anew, entry by entry, under other keys.
use Rattle.std.proofs.Common.{◌≡◌, ℕ, Bool, false, cond, ◌&&◌, nat_eq, List, [], ◌∷◌, ◌++◌, map, None, refl, sym, ap, ◌∙◌, subst, append_assoc}
use Rattle.std.specs.List.{AllByRecursion, IsDistinct as AreDistinct}
use Rattle.std.specs.Str.{bytes_eq}
use Rattle.indexmap.specs.IndexMap.{insert_entry}
use Rattle.patch_sem.specs.Stripping.{first_clash, stripped}
use Rattle.patch_names.proofs.Clashes.{distinct-named, distinct-stripped}
use Rattle.patch_names.specs.Renaming.{entry_name, stripped_entry}
use Rattle.svd_model.proofs.Copies.{sibling_eq, sibling_eq-turns}
use Rattle.svd_model.specs.declared.sibling.Sibling.{Sibling}

abbrev pub key_of : {X : Type 0} → (Sibling × X) → Sibling
key_of entry = entry.0

apart-keys : (x y : Sibling) → bytes_eq x.name y.name ≡ false → sibling_eq x y ≡ false
apart-keys x y e = ap (λ (b : Bool). b && nat_eq x.number y.number) e

module _ {X : Type 0} where
  -- an entry whose key is none of those before goes last
  put_last : (made : List (Sibling × X)) (entry : Sibling × X) (left : List (Sibling × X)) → AreDistinct sibling_eq (map key_of (made ++ entry ∷ left)) → insert_entry sibling_eq made entry.0 entry.1 ≡ made ++ entry ∷ []
  unfolding AreDistinct
  put_last [] entry left distinct = refl
  put_last (first ∷ made) entry left distinct =
      ap (λ (b : Bool). cond b ((first.0, entry.1) ∷ made) (first ∷ insert_entry sibling_eq made entry.0 entry.1)) (sibling_eq-turns entry.0 first.0 ∙ apart made distinct.0)
      ∙ ap (λ (r : List (Sibling × X)). first ∷ r) (put_last made entry left distinct.1)
    where
      apart : (front : List (Sibling × X)) → AllByRecursion (λ key. sibling_eq first.0 key ≡ false) (map key_of (front ++ entry ∷ left)) → sibling_eq first.0 entry.0 ≡ false
      apart [] h = h.0
      apart (one ∷ front) h = apart front h.1

  -- what is made, and what is left, come to all
  abbrev pub MadeUpTo : List (Sibling × X) → List (Sibling × X) → List (Sibling × X) → Type 0
  MadeUpTo all made left = made ++ left ≡ all

  pub made_more : (all made left : List (Sibling × X)) (entry : Sibling × X) (rest new : List (Sibling × X)) → AreDistinct sibling_eq (map key_of all) → MadeUpTo all made left → left ≡ entry ∷ rest → new ≡ insert_entry sibling_eq made entry.0 entry.1 → MadeUpTo all new rest
  made_more all made left entry rest new distinct so_far is grown =
      ap (λ (front : List (Sibling × X)). front ++ rest) (grown ∙ put_last made entry rest (subst (λ (entries : List (Sibling × X)). AreDistinct sibling_eq (map key_of entries)) (sym whole) distinct))
      ∙ append_assoc made (entry ∷ []) rest
      ∙ whole
    where
      whole : made ++ entry ∷ rest ≡ all
      whole = ap (λ (r : List (Sibling × X)). made ++ r) (sym is) ∙ so_far

  -- entries of which no two come to one name have distinct keys then
  pub distinct-keys : (prefix : List ℕ) (entries : List (Sibling × X)) → first_clash prefix (map entry_name entries) ≡ None → AreDistinct sibling_eq (map key_of (map (stripped_entry prefix) entries))
  distinct-keys prefix entries none =
      distinct-named (λ (key : Sibling). key.name) sibling_eq apart-keys (map key_of (map (stripped_entry prefix) entries))
      (subst (AreDistinct bytes_eq) (same entries) (distinct-stripped prefix (map entry_name entries) none))
    where
      same : (es : List (Sibling × X)) → map (stripped prefix) (map entry_name es) ≡ map (λ (key : Sibling). key.name) (map key_of (map (stripped_entry prefix) es))
      same [] = refl
      same (e ∷ es) = ap (λ (r : List (List ℕ)). stripped prefix e.0.name ∷ r) (same es)
