-- Edits of a tree, as the code makes them: at the elements that a chain of tests leads to.
use Rattle.std.specs.Prelude.{Bool, cond, List, [], ◌∷◌}
use Rattle.svd_rows.specs.Forest.{Forest, Tree, leaf, node, join}

-- the element under its step, before its later siblings
abbrev pub planted : {S K : Type 0} → S → Tree S K → Forest S K → Forest S K
planted step tree siblings = node step tree.keys tree.below siblings

-- each sibling that passes the test is edited
unfoldable pub in_children : {S K : Type 0} → (S → Bool) → (Tree S K → Tree S K) → Forest S K → Forest S K
in_children test edit leaf = leaf
in_children test edit (node step keys children siblings) =
    planted step
    (cond (test step) (edit (record { keys = keys; below = children })) (record { keys = keys; below = children }))
    (in_children test edit siblings)

-- each element whose steps pass the tests one by one is edited
unfoldable pub within : {S K : Type 0} → List (S → Bool) → (Tree S K → Tree S K) → Tree S K → Tree S K
within [] edit tree = edit tree
within (test ∷ tests) edit tree =
    record { keys = tree.keys; below = in_children test (within tests edit) tree.below }

-- an edit of an element that leaves its keys
abbrev pub on_children : {S K : Type 0} → (Forest S K → Forest S K) → Tree S K → Tree S K
on_children edit tree = record { keys = tree.keys; below = edit tree.below }

-- the siblings, where the children of each element to which the tests lead from them are edited
unfoldable pub among : {S K : Type 0} → List (S → Bool) → (Forest S K → Forest S K) → Forest S K → Forest S K
among [] edit siblings = edit siblings
among (test ∷ tests) edit siblings = in_children test (on_children (among tests edit)) siblings

-- the siblings in whose place, where one passes the test, stand those that are made of it
unfoldable pub replaced : {S K : Type 0} → (S → Bool) → (S → Tree S K → Forest S K) → Forest S K → Forest S K
replaced test made leaf = leaf
replaced test made (node step keys children siblings) =
    cond (test step)
    (join (made step (record { keys = keys; below = children })) (replaced test made siblings))
    (node step keys children (replaced test made siblings))

-- the siblings under other steps
unfoldable pub renamed : {S K : Type 0} → (S → S) → Forest S K → Forest S K
renamed new leaf = leaf
renamed new (node step keys children siblings) = node (new step) keys children (renamed new siblings)

-- an element without those children that pass the test
abbrev pub without_children : {S K : Type 0} → (S → Bool) → Tree S K → Tree S K
without_children test tree = record { keys = tree.keys; below = replaced test (λ step child. leaf) tree.below }

-- an element whose children have other steps
abbrev pub with_renamed : {S K : Type 0} → (S → S) → Tree S K → Tree S K
with_renamed new tree = record { keys = tree.keys; below = renamed new tree.below }

-- an element in which the children that pass the test are replaced
abbrev pub with_replaced : {S K : Type 0} → (S → Bool) → (S → Tree S K → Forest S K) → Tree S K → Tree S K
with_replaced test made tree = record { keys = tree.keys; below = replaced test made tree.below }

-- an element with more children, after those that it has
abbrev pub with_children : {S K : Type 0} → Forest S K → Tree S K → Tree S K
with_children more tree = record { keys = tree.keys; below = join tree.below more }

-- an element with other keys
abbrev pub with_keys : {S K : Type 0} → (List K → List K) → Tree S K → Tree S K
with_keys edit tree = record { keys = edit tree.keys; below = tree.below }
