-- Siblings that stand in a list: what is done to the list is done to them.
use Rattle.std.proofs.Common.{◌≡◌, ◌+◌, Bool, true, false, cond, not, List, [], ◌∷◌, ◌++◌, map, filter, flat_map, refl, sym, ap, ap₂, ◌∙◌, subst}
use Rattle.std.specs.List.{AllByRecursion, IsDistinct as AreDistinct}
use Rattle.svd_rows.specs.Edits.{planted, in_children, within, on_children, among, replaced, renamed}
use Rattle.svd_rows.specs.Elements.{IsDistinct, Every, count}
use Rattle.svd_rows.specs.Forest.{Forest, Tree, leaf, node, join, siblings, steps}

module _ {S K : Type 0} where
  pub siblings-append : (xs ys : List (S × Tree S K)) → siblings (xs ++ ys) ≡ join (siblings xs) (siblings ys)
  unfolding siblings join
  siblings-append [] ys = refl
  siblings-append (x ∷ xs) ys = ap (planted x.0 x.1) (siblings-append xs ys)

  pub steps-siblings : (xs : List (S × Tree S K)) → steps (siblings xs) ≡ map (λ x. x.0) xs
  unfolding siblings steps
  steps-siblings [] = refl
  steps-siblings (x ∷ xs) = ap (λ r. x.0 ∷ r) (steps-siblings xs)

  -- the element, edited where its step passes the test
  abbrev pub edited_where : (S → Bool) → (Tree S K → Tree S K) → (S × Tree S K) → (S × Tree S K)
  edited_where test edit x = (x.0, cond (test x.0) (edit x.1) x.1)

  pub in_children-siblings : (test : S → Bool) (edit : Tree S K → Tree S K) (xs : List (S × Tree S K)) → in_children test edit (siblings xs) ≡ siblings (map (edited_where test edit) xs)
  unfolding siblings in_children
  in_children-siblings test edit [] = refl
  in_children-siblings test edit (x ∷ xs) = ap (planted x.0 (cond (test x.0) (edit x.1) x.1)) (in_children-siblings test edit xs)

  pub renamed-siblings : (new : S → S) (xs : List (S × Tree S K)) → renamed new (siblings xs) ≡ siblings (map (λ x. (new x.0, x.1)) xs)
  unfolding siblings renamed
  renamed-siblings new [] = refl
  renamed-siblings new (x ∷ xs) = ap (planted (new x.0) x.1) (renamed-siblings new xs)

  pub without-siblings : (test : S → Bool) (xs : List (S × Tree S K)) → replaced test (λ step child. leaf) (siblings xs) ≡ siblings (filter (λ x. not (test x.0)) xs)
  unfolding siblings replaced join
  without-siblings test [] = refl
  without-siblings test (x ∷ xs) = cases (test x.0) (without-siblings test xs)
    where
      cases : (b : Bool) → replaced test (λ step child. leaf) (siblings xs) ≡ siblings (filter (λ y. not (test y.0)) xs) → cond b (replaced test (λ step child. leaf) (siblings xs)) (planted x.0 x.1 (replaced test (λ step child. leaf) (siblings xs))) ≡ siblings (cond (not b) (x ∷ filter (λ y. not (test y.0)) xs) (filter (λ y. not (test y.0)) xs))
      cases true rest = rest
      cases false rest = ap (planted x.0 x.1) rest

  -- the element, or those that are made of it where its step passes the test
  abbrev pub made_where : (S → Bool) → (S → Tree S K → List (S × Tree S K)) → (S × Tree S K) → List (S × Tree S K)
  made_where test made x = cond (test x.0) (made x.0 x.1) (x ∷ [])

  pub replaced-siblings : (test : S → Bool) (made : S → Tree S K → List (S × Tree S K)) (xs : List (S × Tree S K)) → replaced test (λ step child. siblings (made step child)) (siblings xs) ≡ siblings (flat_map (made_where test made) xs)
  unfolding siblings replaced join
  replaced-siblings test made [] = refl
  replaced-siblings test made (x ∷ xs) =
      cases (test x.0)
      ∙ ap (join (siblings (made_where test made x))) (replaced-siblings test made xs)
      ∙ sym (siblings-append (made_where test made x) (flat_map (made_where test made) xs))
    where
      cases : (b : Bool) → cond b (join (siblings (made x.0 x.1)) (replaced test (λ step child. siblings (made step child)) (siblings xs))) (planted x.0 x.1 (replaced test (λ step child. siblings (made step child)) (siblings xs))) ≡ join (siblings (cond b (made x.0 x.1) (x ∷ []))) (replaced test (λ step child. siblings (made step child)) (siblings xs))
      cases true = refl
      cases false = refl

  pub Every-siblings : (P : S → List K → Type 0) (xs : List (S × Tree S K)) → AllByRecursion (λ x. P x.0 x.1.keys × Every P x.1.below) xs → Every P (siblings xs)
  unfolding Every siblings
  Every-siblings P [] h = tt
  Every-siblings P (x ∷ xs) h = (h.0.0, h.0.1, Every-siblings P xs h.1)

  pub Every-each : (P : S → List K → Type 0) (xs : List (S × Tree S K)) → Every P (siblings xs) → AllByRecursion (λ x. P x.0 x.1.keys × Every P x.1.below) xs
  unfolding Every siblings
  Every-each P [] h = tt
  Every-each P (x ∷ xs) h = ((h.0, h.1), Every-each P xs h.2)

  pub IsDistinct-siblings : (same : S → S → Bool) (xs : List (S × Tree S K)) → AreDistinct same (map (λ x. x.0) xs) → AllByRecursion (λ x. IsDistinct same x.1.below) xs → IsDistinct same (siblings xs)
  unfolding IsDistinct AreDistinct siblings
  IsDistinct-siblings same [] h k = tt
  IsDistinct-siblings same (x ∷ xs) h k = (
    subst (λ all. AllByRecursion (λ other. same x.0 other ≡ false) all) (sym (steps-siblings xs)) h.0,
    k.0,
    IsDistinct-siblings same xs h.1 k.1,
  )

  pub IsDistinct-each : (same : S → S → Bool) (xs : List (S × Tree S K)) → IsDistinct same (siblings xs) → AreDistinct same (map (λ x. x.0) xs) × AllByRecursion (λ x. IsDistinct same x.1.below) xs
  unfolding IsDistinct AreDistinct siblings
  IsDistinct-each same [] h = (tt, tt)
  IsDistinct-each same (x ∷ xs) h =
      let rest = IsDistinct-each same xs h.2 in
      ((subst (λ all. AllByRecursion (λ other. same x.0 other ≡ false) all) (steps-siblings xs) h.0, rest.0), (h.1, rest.1))

  pub count-siblings : (test : S → Bool) (x : S × Tree S K) (xs : List (S × Tree S K)) → count test (siblings (x ∷ xs)) ≡ cond (test x.0) 1 0 + (count test x.1.below + count test (siblings xs))
  unfolding count siblings
  count-siblings test x xs = refl

  in_children-agree : (test : S → Bool) (edit other : Tree S K → Tree S K) → ((tree : Tree S K) → edit tree ≡ other tree) → (f : Forest S K) → in_children test edit f ≡ in_children test other f
  unfolding in_children
  in_children-agree test edit other agree leaf = refl
  in_children-agree test edit other agree (node s ks c n) =
      ap₂ (planted s) (ap (λ tree. cond (test s) tree (record { keys = ks; below = c })) (agree (record { keys = ks; below = c }))) (in_children-agree test edit other agree n)

  -- an edit of children leaves the keys of the element from which the tests lead
  pub within-among : (tests : List (S → Bool)) (edit : Forest S K → Forest S K) (tree : Tree S K) → within tests (on_children edit) tree ≡ on_children (among tests edit) tree
  unfolding within among
  within-among [] edit tree = refl
  within-among (test ∷ tests) edit tree =
      ap (λ f. record { keys = tree.keys; below = f }) (in_children-agree test (within tests (on_children edit)) (on_children (among tests edit)) (within-among tests edit) tree.below)
