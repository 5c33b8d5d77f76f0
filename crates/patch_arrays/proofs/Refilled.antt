-- Entries that are put into a map one after the other, of which no two have one key.
use Rattle.std.proofs.Common.{◌≡◌, Bool, false, cond, List, [], ◌∷◌, ◌++◌, map, refl, sym, ap, ◌∙◌, subst, append_assoc}
use Rattle.std.specs.List.{AllByRecursion, IsDistinct as AreDistinct}
use Rattle.indexmap.specs.IndexMap.{insert_entry}
use Rattle.patch_arrays.specs.Members.{entry_key}
use Rattle.svd_model.proofs.Copies.{sibling_eq, sibling_eq-turns}
use Rattle.svd_model.specs.declared.sibling.Sibling.{Sibling}

module _ {X : Type 0} where
  -- an entry whose key is none of those before goes last
  put_last : (made : List (Sibling × X)) (entry : Sibling × X) (left : List (Sibling × X)) → AreDistinct sibling_eq (map entry_key (made ++ entry ∷ left)) → insert_entry sibling_eq made entry.0 entry.1 ≡ made ++ entry ∷ []
  unfolding AreDistinct
  put_last [] entry left distinct = refl
  put_last (first ∷ made) entry left distinct =
      ap (λ (b : Bool). cond b ((first.0, entry.1) ∷ made) (first ∷ insert_entry sibling_eq made entry.0 entry.1)) (sibling_eq-turns entry.0 first.0 ∙ apart made distinct.0)
      ∙ ap (λ (r : List (Sibling × X)). first ∷ r) (put_last made entry left distinct.1)
    where
      apart : (front : List (Sibling × X)) → AllByRecursion (λ key. sibling_eq first.0 key ≡ false) (map entry_key (front ++ entry ∷ left)) → sibling_eq first.0 entry.0 ≡ false
      apart [] h = h.0
      apart (one ∷ front) h = apart front h.1

  pub refilled-more : (all made left : List (Sibling × X)) (entry : Sibling × X) (rest new : List (Sibling × X)) → AreDistinct sibling_eq (map entry_key all) → made ++ left ≡ all → left ≡ entry ∷ rest → new ≡ insert_entry sibling_eq made entry.0 entry.1 → new ++ rest ≡ all
  refilled-more all made left entry rest new distinct so_far is grown =
      ap (λ (front : List (Sibling × X)). front ++ rest) (grown ∙ put_last made entry rest (subst (λ (entries : List (Sibling × X)). AreDistinct sibling_eq (map entry_key entries)) (sym whole) distinct))
      ∙ append_assoc made (entry ∷ []) rest
      ∙ whole
    where
      whole : made ++ entry ∷ rest ≡ all
      whole = ap (λ (r : List (Sibling × X)). made ++ r) (sym is) ∙ so_far

-- what is seen of items that are put behind one another, and of those that are left
pub seen-more : {A B C : Type 0} (seen : A → C) (other : B → C) (made : List A) (left rest : List B) (item : A) (from : B) (all : List C) → left ≡ from ∷ rest → seen item ≡ other from → map seen made ++ map other left ≡ all → map seen (made ++ item ∷ []) ++ map other rest ≡ all
seen-more seen other [] left rest item from all is same so_far = ap (λ x. x ∷ map other rest) same ∙ sym (ap (map other) is) ∙ so_far
seen-more {C = C} seen other (x ∷ made) left rest item from all is same so_far =
    ap (λ (r : List C). seen x ∷ r) (seen-more seen other made left rest item from (map seen made ++ map other left) is same refl) ∙ so_far
