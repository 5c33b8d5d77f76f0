-- The own children of an element, told by numbers of parents, are those that its path has.
use Rattle.std.proofs.Common.{◌≡◌, ℕ, ◌+◌, ◌<◌, true, List, [], ◌∷◌, ◌++◌, map, drop, length, get_or, Option, None, Some, refl, sym, ap, ap₂, ◌∙◌, subst, arith}
use Rattle.std.specs.List.{AllByRecursion}
use Rattle.derive_build.specs.declared.own.Own.{Own}
use Rattle.derive_build.specs.Children.{children_of, step_by}
use Rattle.derive_build.specs.Nodes.{number_of, nodes_of, own_node}
use Rattle.derive_build.specs.Tables.{by_place}
use Rattle.derive_build.proofs.Paths.{node_by, node-at, node-push}
use Rattle.derive_order.proofs.Ties.{child_numbers, child_later}
use Rattle.derive_sources.specs.Graphs.{children_among}
use Rattle.derive_sources.specs.Numbers.{Item, AreNumbered}
use Rattle.derive_sources.proofs.Seats.{as_many, one_number}
use Rattle.derived_graph.specs.Graphs.{Child, path_at, own_children}
use Rattle.derived_graph.specs.Nesting.{is_child, ArePlaced, PlacedIn, IsNested}
use Rattle.derived_graph.proofs.Own.{own-told, own-inside}
use Rattle.derived_graph.proofs.Standing.{own-children}
use Rattle.derived_rows.specs.Merging.{renumbered}
use Rattle.derived_rows.specs.Sources.{child_paths, children_at, kind_at}
use Rattle.need_order.specs.Needs.{among}
use Rattle.need_order.proofs.Numbers.{among-head, or_right}
use Rattle.std.specs.Prelude.{nat_eq}
use Rattle.svd_model.specs.Facts.{IsElement, IsPlacedOrDerived}
use Rattle.svd_model.specs.Keys.{Key}
use Rattle.svd_model.specs.Stating.{keys_at, paths_of}
use Rattle.svd_model.specs.Steps.{Step, Kind, peripheral, cluster, register, field, set, value, same_key, same_step}
use Rattle.svd_model.proofs.Steps.{same_step-finer}
use Rattle.svd_rows.specs.Elements.{Every}
use Rattle.svd_rows.specs.Elements.{IsDistinct as AreDistinct}
use Rattle.svd_rows.specs.Forest.{Tree}
use Rattle.svd_rows.specs.Rows.{rows}
use Rattle.svd_rows.proofs.Facts.{IsDistinct-finer}
use Rattle.svd_rows.proofs.Lists.{map-map}

all-map : {X Y : Type 0} (P : Y → Type 0) (f : X → Y) (xs : List X) → AllByRecursion P (map f xs) → AllByRecursion (λ x. P (f x)) xs
all-map P f [] h = tt
all-map P f (x ∷ xs) h = (h.0, all-map P f xs h.1)

-- ---- steps as nodes have them, without the numbers of sets and values

abbrev plain : Child → Child
plain child = (record { kind = child.0.kind; name = child.0.name; number = number_of child.0.kind child.0.number }, child.1)

placed-again : (n : ℕ) (children : List Child) → ArePlaced n (map (λ child. child.0) children) → renumbered n (map plain children) ≡ children
unfolding renumbered ArePlaced
placed-again n [] placed = refl
placed-again n (child ∷ children) placed =
    ap₂ (λ (m : ℕ) others. (record { kind = child.0.kind; name = child.0.name; number = m }, child.1) ∷ others) (sym placed.0) (placed-again (n + 1) children placed.1)

number-stays : (kind : Option Kind) → (kind ≡ Some field → ⊥) → (kind ≡ Some set → ⊥) → (own : Kind) (n : ℕ) → is_child kind own ≡ true → number_of own n ≡ n
number-stays kind f s peripheral n fits = refl
number-stays kind f s cluster n fits = refl
number-stays kind f s register n fits = refl
number-stays kind f s field n fits = refl
number-stays (Some field) f s set n fits = absurd (f refl)
number-stays (Some set) f s value n fits = absurd (s refl)
number-stays _ f s _ n fits = absurd cc

stay : (kind : Option Kind) → (kind ≡ Some field → ⊥) → (kind ≡ Some set → ⊥) → (children : List Child) → AllByRecursion (λ (child : Child). is_child kind child.0.kind ≡ true) children → map plain children ≡ children
stay kind f s [] fit = refl
stay kind f s (child ∷ children) fit =
    ap₂ (λ (n : ℕ) others. (record { kind = child.0.kind; name = child.0.name; number = n }, child.1) ∷ others) (number-stays kind f s child.0.kind child.0.number fit.0) (stay kind f s children fit.1)

by-place : (kind : Option Kind) (children : List Child) → PlacedIn kind (map (λ child. child.0) children) → AllByRecursion (λ (child : Child). is_child kind child.0.kind ≡ true) children → by_place kind (map plain children) ≡ children
by-place None children placed fit = stay None (λ e. absurd cc) (λ e. absurd cc) children fit
by-place (Some peripheral) children placed fit = stay (Some peripheral) (λ e. absurd cc) (λ e. absurd cc) children fit
by-place (Some cluster) children placed fit = stay (Some cluster) (λ e. absurd cc) (λ e. absurd cc) children fit
by-place (Some register) children placed fit = stay (Some register) (λ e. absurd cc) (λ e. absurd cc) children fit
by-place (Some field) children placed fit = placed-again 0 children placed
by-place (Some set) children placed fit = placed-again 0 children placed
by-place (Some value) children placed fit = stay (Some value) (λ e. absurd cc) (λ e. absurd cc) children fit

all-among : (P : ℕ → Type 0) (xs : List ℕ) → ((d : ℕ) → among d xs ≡ true → P d) → AllByRecursion P xs
all-among P [] h = tt
all-among P (x ∷ xs) h = (h x (among-head x xs), all-among P xs (λ d p. h d (or_right (nat_eq d x) (among d xs) p)))

module _ (tree : Tree Step Key) (distinct : AreDistinct same_key tree.below) (elements : Every (IsElement IsPlacedOrDerived) tree.below) (nested : IsNested None tree.below)
    (items : List Item) (numbered : AreNumbered (rows tree) items) (owns : List Own) (listed : map own_node owns ≡ nodes_of tree) where
  abbrev at : ℕ → List Step
  at e = path_at (rows tree) e

  abbrev inside_all : ℕ → Type 0
  inside_all d = d < length (paths_of (rows tree))

  -- equal paths are those of equal numbers
  same-numbers : (ds es : List ℕ) → AllByRecursion (λ d. d < length (paths_of (rows tree))) ds → AllByRecursion (λ d. d < length (paths_of (rows tree))) es → map (path_at (rows tree)) ds ≡ map (path_at (rows tree)) es → ds ≡ es
  same-numbers [] [] p q same = refl
  same-numbers [] (e ∷ es) p q same = absurd cc
  same-numbers (d ∷ ds) [] p q same = absurd cc
  same-numbers (d ∷ ds) (e ∷ es) p q same =
      ap₂ (λ n ns. n ∷ ns)
      (one_number (rows tree) items numbered d e (omega (arith, p.0, as_many (rows tree) items numbered)) (omega (arith, q.0, as_many (rows tree) items numbered)) (ap (λ paths. get_or paths 0 []) same))
      (same-numbers ds es p.1 q.1 (ap (drop 1) same))

  module _ (e : ℕ) (inside : e < length (paths_of (rows tree))) where
    numbers-are : map (λ (child : Child). child.1) (own_children (rows tree) e) ≡ children_among e 0 items
    unfolding child_paths
    numbers-are =
        same-numbers (map (λ (child : Child). child.1) (own_children (rows tree) e)) (children_among e 0 items)
        (each (own_children (rows tree) e) (own-inside (rows tree) e))
        (all-among (λ d. d < length (paths_of (rows tree))) (children_among e 0 items) (λ d there. omega (arith, (child_later (rows tree) items numbered e d there).1, as_many (rows tree) items numbered)))
        (map-map (path_at (rows tree)) (λ (child : Child). child.1) (own_children (rows tree) e)
        ∙ sym (map-map (λ (x : Step × List Step). x.1) (λ (child : Child). (child.0, path_at (rows tree) child.1)) (own_children (rows tree) e))
        ∙ ap (map (λ (x : Step × List Step). x.1)) (own-told (λ path. path) (rows tree) e)
        ∙ map-map (λ (x : Step × List Step). x.1) (λ step. (step, at e ++ step ∷ [])) (children_at (rows tree) (at e))
        ∙ sym (child_numbers (rows tree) items numbered e (omega (arith, inside, as_many (rows tree) items numbered))))
      where
        each : (cs : List Child) → AllByRecursion (λ (child : Child). child.1 < length (paths_of (rows tree))) cs → AllByRecursion (λ d. d < length (paths_of (rows tree))) (map (λ (child : Child). child.1) cs)
        each [] h = tt
        each (c ∷ cs) h = (h.0, each cs h.1)

    -- the path of each
    paths-are : AllByRecursion (λ (child : Child). path_at (rows tree) child.1 ≡ path_at (rows tree) e ++ child.0 ∷ []) (own_children (rows tree) e)
    paths-are =
        all-map (λ (x : Step × List Step). x.1 ≡ path_at (rows tree) e ++ x.0 ∷ []) (λ (child : Child). (child.0, path_at (rows tree) child.1)) (own_children (rows tree) e)
        (subst (AllByRecursion (λ (x : Step × List Step). x.1 ≡ path_at (rows tree) e ++ x.0 ∷ [])) (sym (own-told (λ path. path) (rows tree) e)) (paths (children_at (rows tree) (path_at (rows tree) e))))
      where
        paths : (steps : List Step) → AllByRecursion (λ (x : Step × List Step). x.1 ≡ path_at (rows tree) e ++ x.0 ∷ []) (map {A = Step} {B = Step × List Step} (λ step. (step, path_at (rows tree) e ++ step ∷ [])) steps)
        paths [] = tt
        paths (step ∷ steps) = (refl, paths steps)

    seen-plain : (cs : List Child) → AllByRecursion (λ (child : Child). child.1 < length (paths_of (rows tree))) cs → AllByRecursion (λ (child : Child). path_at (rows tree) child.1 ≡ path_at (rows tree) e ++ child.0 ∷ []) cs → children_of owns (map (λ (child : Child). child.1) cs) ≡ map plain cs
    seen-plain [] i p = refl
    seen-plain (c ∷ cs) i p =
        ap₂ (λ (s : Step) others. (s, c.1) ∷ others)
        (ap step_by (node-at tree (IsDistinct-finer same_key same_step same_step-finer tree.below distinct) owns listed c.1 i.0
        ∙ ap (λ path. node_by path (keys_at (rows tree) (path_at (rows tree) c.1))) p.0
        ∙ node-push (path_at (rows tree) e) c.0 (keys_at (rows tree) (path_at (rows tree) c.1))))
        (seen-plain cs i.1 p.1)

    pub parts-are : by_place (kind_at (path_at (rows tree) e)) (children_of owns (children_among e 0 items)) ≡ own_children (rows tree) e
    parts-are =
        let own = own-children tree distinct elements nested e inside in
        ap (λ ds. by_place (kind_at (path_at (rows tree) e)) (children_of owns ds)) (sym numbers-are)
        ∙ ap (by_place (kind_at (path_at (rows tree) e))) (seen-plain (own_children (rows tree) e) (own-inside (rows tree) e) paths-are)
        ∙ by-place (kind_at (path_at (rows tree) e)) (own_children (rows tree) e) own.placed
        (all-map (λ step. is_child (kind_at (path_at (rows tree) e)) step.kind ≡ true) (λ (child : Child). child.0) (own_children (rows tree) e) own.kinds)
