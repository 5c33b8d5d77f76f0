-- A description in which no element states a source derives to itself.
use Rattle.std.proofs.Common.{◌≡◌, inl, inr, true, List, [], ◌∷◌, ◌++◌, map, length, None, option_map, is_some, refl, sym, ap, ap₂, ◌∙◌, subst, arith}
use Rattle.std.specs.List.{flat_map, AllByRecursion}
use Rattle.std.specs.Set.{is_member}
use Rattle.std.proofs.lemmas.Bool.{cases_Bool, true≢false}
use Rattle.derived_rows.specs.Dependence.{same_path, IsAmong, IsOnCircle, HasNoCircle}
use Rattle.derived_rows.specs.Deriving.{Part, derived_by, derived_at, derived_rows, element_rows, own_parts, with_source}
use Rattle.derived_rows.specs.Laws.{NothingDerives}
use Rattle.derived_rows.specs.Sources.{source_names, source_of}
use Rattle.derived_rows.proofs.Circles.{circle_derives, deriving-member, no_source}
use Rattle.derived_rows.proofs.Levels.{levels_are_enough}
use Rattle.derived_rows.proofs.Paths.{same_path-tells, member-head, member-tail}
use Rattle.derived_rows.proofs.Seen.{inside-step}
use Rattle.derived_rows.proofs.Stand.{child-stands}
use Rattle.svd_model.specs.Keys.{Key}
use Rattle.svd_model.specs.Stating.{keys_at, paths_of}
use Rattle.svd_model.specs.Steps.{Step, same_step}
use Rattle.svd_model.proofs.Steps.{same_step-tells}
use Rattle.svd_model.proofs.Walking.{child_rows, paths-append, paths-own}
use Rattle.svd_rows.specs.Elements.{IsDistinct, element_at}
use Rattle.svd_rows.specs.Forest.{Forest, Tree, leaf, node, join, steps}
use Rattle.svd_rows.specs.LookUps.{inside, keys_of, children_of}
use Rattle.svd_rows.specs.Rows.{Row, own, under, forest_rows, rows}
use Rattle.svd_rows.proofs.LookUps.{inside-rows, keys_of-rows, children_of-rows}
use Rattle.svd_rows.proofs.Standing.{element_at-stands}

join-join : (f g h : Forest Step Key) → join (join f g) h ≡ join f (join g h)
unfolding join
join-join leaf g h = refl
join-join (node s ks c n) g h = ap (node s ks c) (join-join n g h)

step-there : (before : Forest Step Key) (s : Step) (ks : List Key) (c n : Forest Step Key) → is_member same_step (steps (join before (node s ks c n))) s ≡ true
unfolding join steps
step-there leaf s ks c n = member-head same_step same_step-tells s (steps n)
step-there (node t ts d m) s ks c n = member-tail same_step same_step-tells t (steps (join m (node s ks c n))) s (step-there m s ks c n)

module _ (all : List (Row Step Key)) (no_circle : HasNoCircle all) (none : (path : List Step) → IsAmong (paths_of all) path → source_of all path ≡ None) where
  abbrev derived : List Step → List (Row Step Key)
  derived = derived_at all (length (paths_of all))

  -- an element comes to its own keys and children
  as_it_is : (path : List Step) → IsAmong (paths_of all) path → derived path ≡ element_rows (keys_at all path) (own_parts all derived path)
  unfolding derived_by
  as_it_is path here =
      levels_are_enough all no_circle (length (paths_of all)) (omega arith) path here
      ∙ ap (λ o. with_source path (keys_at all path) (own_parts all derived path) (option_map derived o)) (none path here)

  abbrev Below : List Step → Forest Step Key → Type 0
  Below path g = flat_map (λ (child : Part). map (under child.0) child.1) (map (λ child. (child, derived (path ++ child ∷ []))) (steps g)) ≡ forest_rows g

  -- an element with these rows comes to them, where what is below it does
  element-rests : (path : List Step) (tree : Tree Step Key) → IsAmong (paths_of all) path → inside same_step path all ≡ rows tree → Below path tree.below → derived path ≡ rows tree
  unfolding element_rows rows
  element-rests path tree here is below =
      as_it_is path here
      ∙ ap₂ (λ keys steps. own keys ++ flat_map (λ (child : Part). map (under child.0) child.1) (map (λ child. (child, derived (path ++ child ∷ []))) steps))
      (ap keys_of is ∙ keys_of-rows tree)
      (ap children_of is ∙ children_of-rows tree)
      ∙ ap (λ r. own tree.keys ++ r) below

  siblings-rest : (path : List Step) (ks : List Key) (before g : Forest Step Key) → inside same_step path all ≡ rows (record { keys = ks; below = join before g }) → IsDistinct same_step (join before g) → IsDistinct same_step g → Below path g
  unfolding steps forest_rows IsDistinct join own rows
  siblings-rest path ks before leaf is whole distinct = refl
  siblings-rest path ks before (node s cs c n) is whole distinct =
      ap₂ (λ first others. map (under s) first ++ others)
      (element-rests (path ++ s ∷ []) child child-here child-is (siblings-rest (path ++ s ∷ []) cs leaf c child-is distinct.1 distinct.1))
      (siblings-rest path ks (join before (node s cs c leaf)) n
      (is ∙ ap (λ all. rows (record { keys = ks; below = all })) (sym (join-join before (node s cs c leaf) n)))
      (subst (IsDistinct same_step) (sym (join-join before (node s cs c leaf) n)) whole) distinct.2)
    where
      child : Tree Step Key
      child = record { keys = cs; below = c }

      child-is : inside same_step (path ++ s ∷ []) all ≡ rows child
      child-is = inside-step path s all ∙ ap (inside same_step (s ∷ [])) is ∙ child_rows ks before s cs c n whole

      child-here : IsAmong (paths_of all) (path ++ s ∷ [])
      child-here =
          child-stands all path s
          (ap (λ steps. is_member same_step steps s) (ap children_of is ∙ children_of-rows (record { keys = ks; below = join before (node s cs c n) }))
          ∙ step-there before s cs c n)

pub nothing_derives : NothingDerives
unfolding derived_rows element_at join rows own
nothing_derives tree distinct nothing =
    element-rests (rows tree) no_circle none [] tree top
    (inside-rows same_step same_step-tells [] tree tree (element_at-stands same_step same_step-tells [] tree tree distinct refl))
    (siblings-rest (rows tree) no_circle none [] tree.keys leaf tree.below
    (inside-rows same_step same_step-tells [] tree tree (element_at-stands same_step same_step-tells [] tree tree distinct refl)) distinct distinct)
  where
    no_circle : HasNoCircle (rows tree)
    no_circle = circle_derives (rows tree) (subst (AllByRecursion (λ path. IsOnCircle (rows tree) path → ⊥)) (sym nothing) tt)

    none : (path : List Step) → IsAmong (paths_of (rows tree)) path → source_of (rows tree) path ≡ None
    none path here = elim (cases_Bool (is_some (source_names (rows tree) path))) [
      | inl p ↦ absurd (true≢false (sym (deriving-member (rows tree) path here p) ∙ ap (λ paths. is_member same_path paths path) nothing))
      | inr q ↦ no_source (rows tree) path q
    ]

    top : IsAmong (paths_of (rows tree)) []
    top = ap (λ paths. is_member same_path paths []) (paths-append (own tree.keys) (forest_rows tree.below) ∙ ap (λ r. r ++ paths_of (forest_rows tree.below)) (paths-own tree.keys))
        ∙ member-head same_path same_path-tells [] (paths_of (forest_rows tree.below))
