-- The rows of the unfolded tree are what the flat definition makes of the rows of the tree.
use Rattle.std.proofs.Common.{◌≡◌, ℕ, zero, suc, ◌+◌, ◌≤◌, List, [], ◌∷◌, ◌++◌, map, filter, flat_map, length, refl, sym, ap, ap₂, ◌∙◌, subst, arith, append-nil, length-append}
use Rattle.std.proofs.lemmas.List.{map-append, length-map}
use Rattle.std.proofs.lemmas.List.Elements.{filter-append}
use Rattle.dim_expand.specs.Unfolding.{is_own, groups_of, numbered_behind, sibling_rows, child_groups, unfolded_below, unfolded_rows}
use Rattle.dim_expand.specs.Walks.{exact, group_of, groups, numbered_list, unfolded_list, unfolded, unfolded_tree}
use Rattle.svd_model.specs.Keys.{Key}
use Rattle.svd_model.specs.Steps.{Step, same_step}
use Rattle.svd_model.proofs.Walking.{child_rows}
use Rattle.svd_rows.specs.Elements.{IsDistinct}
use Rattle.svd_rows.specs.Forest.{Forest, Tree, leaf, node, join, siblings, steps}
use Rattle.svd_rows.specs.LookUps.{inside, keys_of}
use Rattle.svd_rows.specs.Rows.{Row, own, element, states, under, forest_rows, rows}
use Rattle.svd_rows.proofs.Lists.{map-map}
use Rattle.svd_rows.proofs.LookUps.{keys_of-rows, children_of-rows}

-- ---- the rows of the element itself

own-own : (keys : List Key) → filter is_own (own keys) ≡ own keys
unfolding own
own-own keys = ap (λ r. record { path = []; said = element } ∷ r) (each keys)
  where
    each : (keys : List Key) → filter is_own (map (λ key. record { path = []; said = states key }) keys) ≡ map (λ key. record { path = []; said = states key }) keys
    each [] = refl
    each (key ∷ keys) = ap (λ r. record { path = []; said = states key } ∷ r) (each keys)

none-own : (s : Step) (all : List (Row Step Key)) → filter is_own (map (under s) all) ≡ []
unfolding under
none-own s [] = refl
none-own s (row ∷ all) = none-own s all

none-below : (f : Forest Step Key) → filter is_own (forest_rows f) ≡ []
unfolding forest_rows
none-below leaf = refl
none-below (node s ks c n) =
    filter-append is_own (map (under s) (own ks ++ forest_rows c)) (forest_rows n)
    ∙ ap₂ (λ a b. a ++ b) (none-own s (own ks ++ forest_rows c)) (none-below n)

own-rows : (tree : Tree Step Key) → filter is_own (rows tree) ≡ own tree.keys
unfolding rows
own-rows tree =
    filter-append is_own (own tree.keys) (forest_rows tree.below)
    ∙ ap₂ (λ a b. a ++ b) (own-own tree.keys) (none-below tree.below)
    ∙ append-nil (own tree.keys)

-- ---- the rows of siblings

seen : (Step × Tree Step Key) → (Step × List (Row Step Key))
seen x = (x.0, rows x.1)

siblings-rows : (before : List (List ℕ)) (xs : List (Step × Tree Step Key)) → sibling_rows before (map seen xs) ≡ forest_rows (siblings (numbered_list before xs))
unfolding sibling_rows forest_rows siblings numbered_list rows seen
siblings-rows before [] = refl
siblings-rows before (x ∷ xs) =
    ap (λ r. map (under (numbered_behind before x.0)) (own x.1.keys ++ forest_rows x.1.below) ++ r) (siblings-rows (before ++ x.0.name ∷ []) xs)

groups-rows : (s : Step) (ks : List Key) (below : Forest Step Key) → child_groups s ks (forest_rows below) ≡ map seen (groups exact s ks below)
unfolding rows seen
groups-rows s ks below = sym (map-map seen (group_of exact s ks below) (groups_of s ks))

-- what the children of these siblings' parent come to, where each has its rows
row_groups : Forest Step Key → List (Step × List (Row Step Key))
row_groups leaf = []
row_groups (node s ks c n) = child_groups s ks (forest_rows (unfolded exact c)) ++ row_groups n

list-rows : (f : Forest Step Key) → row_groups f ≡ map seen (unfolded_list exact f)
unfolding row_groups unfolded_list unfolded
list-rows leaf = refl
list-rows (node s ks c n) =
    ap₂ (λ a b. a ++ b) (groups-rows s ks (unfolded exact c)) (list-rows n)
    ∙ sym (map-append seen (groups exact s ks (siblings (numbered_list [] (unfolded_list exact c)))) (unfolded_list exact n))

-- ---- levels

-- a child has fewer rows than its parent
child-fewer : (before : Forest Step Key) (s : Step) (ks : List Key) (c n : Forest Step Key) → length (rows (record { keys = ks; below = c })) ≤ length (forest_rows (join before (node s ks c n)))
unfolding forest_rows join rows
child-fewer leaf s ks c n =
    let one = length-append (map (under s) (own ks ++ forest_rows c)) (forest_rows n) in
    let two = length-map (own ks ++ forest_rows c) (under s) in
    omega (arith, one, two)
child-fewer (node t us d m) s ks c n =
    let one = length-append (map (under t) (own us ++ forest_rows d)) (forest_rows (join m (node s ks c n))) in
    let rest = child-fewer m s ks c n in
    omega (arith, one, rest)

rows-some : (tree : Tree Step Key) → 1 + length (forest_rows tree.below) ≤ length (rows tree)
unfolding rows own
rows-some tree =
    let one = length-append (map (λ key. record { path = []; said = states key }) tree.keys) (forest_rows tree.below) in
    omega (arith, one)

join-join : (f g h : Forest Step Key) → join (join f g) h ≡ join f (join g h)
unfolding join
join-join leaf g h = refl
join-join (node s ks c n) g h = ap (node s ks c) (join-join n g h)

-- each child's groups, as the rows of its parent tell them
of_child : ℕ → List (Row Step Key) → Step → List (Step × List (Row Step Key))
of_child levels all child = child_groups child (keys_of (inside same_step (child ∷ []) all)) (unfolded_below levels (inside same_step (child ∷ []) all))

-- what is below a tree of no more rows than there are levels
IsFlat : ℕ → Type 0
IsFlat levels = (tree : Tree Step Key) → IsDistinct same_step tree.below → length (rows tree) ≤ levels → unfolded_below levels (rows tree) ≡ forest_rows (unfolded exact tree.below)

children-rows : (levels : ℕ) → IsFlat levels → (ks : List Key) (before g : Forest Step Key) → IsDistinct same_step (join before g) → IsDistinct same_step g → length (rows (record { keys = ks; below = join before g })) ≤ suc levels → flat_map (of_child levels (rows (record { keys = ks; below = join before g }))) (steps g) ≡ row_groups g
unfolding IsFlat row_groups steps IsDistinct of_child join
children-rows levels flat ks before leaf whole distinct fits = refl
children-rows levels flat ks before (node s cs c n) whole distinct fits =
    ap₂ (λ a b. a ++ b)
    (ap (λ all. child_groups s (keys_of all) (unfolded_below levels all)) is
    ∙ ap₂ (child_groups s) (keys_of-rows (record { keys = cs; below = c })) (flat (record { keys = cs; below = c }) distinct.1 fewer))
    (subst (λ (all : Forest Step Key). flat_map (of_child levels (rows (record { keys = ks; below = all }))) (steps n) ≡ row_groups n) (join-join before (node s cs c leaf) n)
    (children-rows levels flat ks (join before (node s cs c leaf)) n
    (subst (IsDistinct same_step) (sym (join-join before (node s cs c leaf) n)) whole)
    distinct.2
    (subst (λ (all : Forest Step Key). length (rows (record { keys = ks; below = all })) ≤ suc levels) (sym (join-join before (node s cs c leaf) n)) fits)))
  where
    is : inside same_step (s ∷ []) (rows (record { keys = ks; below = join before (node s cs c n) })) ≡ rows (record { keys = cs; below = c })
    is = child_rows ks before s cs c n whole

    fewer : length (rows (record { keys = cs; below = c })) ≤ levels
    fewer =
        let one = child-fewer before s cs c n in
        let some = rows-some (record { keys = ks; below = join before (node s cs c n) }) in
        omega (arith, one, some, fits)

below-rows : (levels : ℕ) → IsFlat levels
unfolding IsFlat unfolded_below of_child unfolded join
below-rows zero tree distinct fits = absurd (let some = rows-some tree in omega (arith, some, fits))
below-rows (suc levels) tree distinct fits =
    ap (λ children. sibling_rows [] (flat_map (of_child levels (rows tree)) children)) (children_of-rows tree)
    ∙ ap (sibling_rows []) (children-rows levels (below-rows levels) tree.keys leaf tree.below distinct distinct fits ∙ list-rows tree.below)
    ∙ siblings-rows [] (unfolded_list exact tree.below)

-- the rows of the unfolded tree
pub flat : (tree : Tree Step Key) → IsDistinct same_step tree.below → unfolded_rows (rows tree) ≡ rows (unfolded_tree exact tree)
unfolding unfolded_rows IsFlat rows
flat tree distinct =
    ap₂ (λ a b. a ++ b) (own-rows tree) (below-rows (length (rows tree)) tree distinct (le_self (length (rows tree))))
  where
    le_self : (n : ℕ) → n ≤ n
    le_self n = omega arith
