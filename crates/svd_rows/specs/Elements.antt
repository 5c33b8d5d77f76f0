-- The elements of a tree, by their paths.
use Rattle.std.specs.Prelude.{◌≡◌, Bool, false, cond, ℕ, ◌+◌, List, [], ◌∷◌, ◌++◌, map, Option, None, Some, option_and_then, ⊤}
use Rattle.std.specs.List.{AllByRecursion}
use Rattle.svd_rows.specs.Forest.{Forest, Tree, leaf, node, steps}

-- a path that is seen from one step further up, with its element
abbrev pub step_down : {S K : Type 0} → S → (List S × Tree S K) → (List S × Tree S K)
step_down step found = (step ∷ found.0, found.1)

-- the elements below these siblings that `of` finds in each sibling which passes the test, in document order
unfoldable pub found_in : {S K : Type 0} → (S → Bool) → (Tree S K → List (List S × Tree S K)) → Forest S K → List (List S × Tree S K)
found_in test of leaf = []
found_in test of (node step keys children siblings) =
    cond (test step) (map (step_down step) (of (record { keys = keys; below = children }))) [] ++ found_in test of siblings

-- the elements whose steps pass the tests one by one, with their paths, in document order
unfoldable pub found : {S K : Type 0} → List (S → Bool) → Tree S K → List (List S × Tree S K)
found [] tree = ([], tree) ∷ []
found (test ∷ tests) tree = found_in test (found tests) tree.below

-- the first sibling that passes the test
unfoldable pub child_at : {S K : Type 0} → (S → Bool) → Forest S K → Option (Tree S K)
child_at test leaf = None
child_at test (node step keys children siblings) =
    cond (test step) (Some (record { keys = keys; below = children })) (child_at test siblings)

-- the element at the path
unfoldable pub element_at : {S K : Type 0} → List (S → Bool) → Tree S K → Option (Tree S K)
element_at [] tree = Some tree
element_at (test ∷ tests) tree = option_and_then (element_at tests) (child_at test tree.below)

-- none of the siblings is this one
abbrev pub IsAbsent : {S K : Type 0} → (S → S → Bool) → S → Forest S K → Type 0
IsAbsent same step siblings = AllByRecursion (λ other. same step other ≡ false) (steps siblings)

-- no two siblings have one step, at any level
unfoldable pub IsDistinct : {S K : Type 0} → (S → S → Bool) → Forest S K → Type 0
IsDistinct same leaf = ⊤
IsDistinct same (node step keys children siblings) =
    IsAbsent same step siblings × IsDistinct same children × IsDistinct same siblings

-- each element has the property, which is one of its step and its keys
unfoldable pub Every : {S K : Type 0} → (S → List K → Type 0) → Forest S K → Type 0
Every P leaf = ⊤
Every P (node step keys children siblings) = P step keys × Every P children × Every P siblings

-- how many elements there are whose steps pass the test
unfoldable pub count : {S K : Type 0} → (S → Bool) → Forest S K → ℕ
count test leaf = 0
count test (node step keys children siblings) = cond (test step) 1 0 + (count test children + count test siblings)
