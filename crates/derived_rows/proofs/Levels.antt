-- Where no element is on a circle, levels are never used up: an element whose value changes from one level on has a chain
-- of as many elements below it, and as many as there are would meet one twice.
use Rattle.std.specs.Prelude.{⊤}
use Rattle.std.proofs.Common.{◌≡◌, ◌⊎◌, inl, inr, ℕ, zero, suc, ◌+◌, ◌-◌, ◌≤◌, true, false, List, [], ◌∷◌, ◌++◌, map, length, Option, None, Some, option_map, refl, sym, ap, ap₂, ◌∙◌, subst, arith}
use Rattle.std.specs.List.{IsDistinct, AllByRecursion}
use Rattle.std.specs.Set.{is_member}
use Rattle.std.proofs.lemmas.Bool.{cases_Bool, true≢false}
use Rattle.std.proofs.lemmas.Map.Made.{length-le_from_is_member}
use Rattle.derived_rows.specs.Dependence.{same_path, IsAmong, IsChain, IsOnCircle, HasNoCircle, listed, dependences}
use Rattle.derived_rows.specs.Deriving.{derived_by, derived_at, Part, own_parts, with_source}
use Rattle.derived_rows.specs.Laws.{LevelsAreEnough}
use Rattle.derived_rows.specs.Sources.{children_at, child_paths, source_of}
use Rattle.derived_rows.proofs.Paths.{same_path-tells, equivalence, member-cases, member-head, member-tail, member-left, member-right, member-mapped}
use Rattle.derived_rows.proofs.Stand.{dependence-stands}
use Rattle.need_order.specs.Levels.{by_levels}
use Rattle.need_order.proofs.Numbers.{or_none}
use Rattle.svd_model.specs.Keys.{Key}
use Rattle.svd_model.specs.Stating.{keys_at, paths_of}
use Rattle.svd_model.specs.Steps.{Step, same_step}
use Rattle.svd_model.proofs.Steps.{same_step-tells}
use Rattle.svd_rows.specs.Rows.{Row}

module _ (all : List (Row Step Key)) where
  -- the children come to the same where each of them does
  own-parts-agree : (f g : List Step → List (Row Step Key)) (path : List Step) → ((child : Step) → is_member same_step (children_at all path) child ≡ true → f (path ++ child ∷ []) ≡ g (path ++ child ∷ [])) → own_parts all f path ≡ own_parts all g path
  own-parts-agree f g path agree = each (children_at all path) agree
    where
      each : (steps : List Step) → ((child : Step) → is_member same_step steps child ≡ true → f (path ++ child ∷ []) ≡ g (path ++ child ∷ [])) → map {B = Part} (λ child. (child, f (path ++ child ∷ []))) steps ≡ map {B = Part} (λ child. (child, g (path ++ child ∷ []))) steps
      each [] same = refl
      each (s ∷ steps) same =
          ap₂ (λ x xs. (s, x) ∷ xs) (same s (member-head same_step same_step-tells s steps))
          (each steps (λ child h. same child (member-tail same_step same_step-tells s steps child h)))

  -- an element is made of those on which it depends alone
  pub made_of : (f g : List Step → List (Row Step Key)) (path : List Step) → ((other : List Step) → IsAmong (dependences all path) other → f other ≡ g other) → derived_by all f path ≡ derived_by all g path
  unfolding derived_by dependences child_paths
  made_of f g path agree =
      ap₂ (with_source path (keys_at all path))
      (own-parts-agree f g path (λ child h. agree (path ++ child ∷ []) (member-right same_path same_path-tells (listed (source_of all path)) (child_paths all path) (path ++ child ∷ []) (member-mapped same_path same_path-tells same_step same_step-tells (λ s. path ++ s ∷ []) (children_at all path) child h))))
      (by (source_of all path) (λ other h. agree other (member-left same_path same_path-tells (listed (source_of all path)) (child_paths all path) other h)))
    where
      by : (o : Option (List Step)) → ((other : List Step) → IsAmong (listed o) other → f other ≡ g other) → option_map f o ≡ option_map g o
      by None same = refl
      by (Some x) same = ap Some (same x (member-head same_path same_path-tells x []))

  -- the value of an element doesn't change from this level on
  abbrev pub Rests : ℕ → List Step → Type 0
  Rests k path = (more : ℕ) → derived_at all (k + more) path ≡ derived_at all k path

  -- each of these depends on the next, and the element on the first
  unfoldable pub Goes : List Step → List (List Step) → Type 0
  Goes path [] = ⊤
  Goes path (next ∷ others) = IsAmong (dependences all path) next × Goes next others

  -- so many elements, one after the other, go on from an element
  abbrev pub Way : ℕ → List Step → Type 0
  Way k path = (others : List (List Step)) × (length others ≡ k) × Goes path others

  rests_or_goes : (k : ℕ) (path : List Step) → Rests k path ⊎ Way k path
  unfolding by_levels Goes
  rests_or_goes zero path = inr ([], refl, tt)
  rests_or_goes (suc k) path = elim (each (rests_or_goes k) (dependences all path)) [
    | inl all_rest ↦ inl (λ more. ap (λ j. derived_at all j path) (shift k more) ∙ made_of (derived_at all (k + more)) (derived_at all k) path (λ other h. all_rest other h more))
    | inr found ↦ inr (found.0 ∷ found.2.0, ap suc found.2.1, (found.1, found.2.2))
  ]
    where
      shift : (k more : ℕ) → suc k + more ≡ suc (k + more)
      shift k more = omega arith

      each : ((other : List Step) → Rests k other ⊎ Way k other) → (others : List (List Step)) → ((other : List Step) → IsAmong others other → Rests k other) ⊎ ((other : List Step) × IsAmong others other × Way k other)
      each by [] = inl (λ other h. absurd (true≢false (sym h)))
      each by (x ∷ others) = elim (by x) [
        | inr way ↦ inr (x, member-head same_path same_path-tells x others, way)
        | inl rests ↦ elim (each by others) [
          | inr found ↦ inr (found.0, member-tail same_path same_path-tells x others found.0 found.1, found.2)
          | inl all_rest ↦ inl (λ other h. elim (member-cases same_path same_path-tells x others other h) [
            | inl same ↦ subst (Rests k) (sym same) rests
            | inr p ↦ all_rest other p
          ])
        ]
      ]

  -- an element that a way passes is at the end of a chain
  chain_to : (path : List Step) (others : List (List Step)) (other : List Step) → Goes path others → IsAmong others other → (between : List (List Step)) × IsChain all path between other
  unfolding Goes IsChain
  chain_to path [] other way h = absurd (true≢false (sym h))
  chain_to path (next ∷ others) other way h = elim (member-cases same_path same_path-tells next others other h) [
    | inl same ↦ ([], subst (IsAmong (dependences all path)) (sym same) way.0)
    | inr p ↦ let r = chain_to next others other way.1 p in (next ∷ r.0, (way.0, r.1))
  ]

  -- the elements of a way are elements
  way-stands : (path : List Step) (others : List (List Step)) → Goes path others → IsAmong (paths_of all) path → (other : List Step) → IsAmong (path ∷ others) other → IsAmong (paths_of all) other
  unfolding Goes
  way-stands path [] way here other h = elim (member-cases same_path same_path-tells path [] other h) [
    | inl same ↦ subst (IsAmong (paths_of all)) (sym same) here
    | inr p ↦ absurd (true≢false (sym p))
  ]
  way-stands path (next ∷ others) way here other h = elim (member-cases same_path same_path-tells path (next ∷ others) other h) [
    | inl same ↦ subst (IsAmong (paths_of all)) (sym same) here
    | inr p ↦ way-stands next others way.1 (dependence-stands all path next way.0) other p
  ]

  none_equal : (path : List Step) (others : List (List Step)) → is_member same_path others path ≡ false → AllByRecursion (λ other. same_path path other ≡ false) others
  none_equal path [] h = tt
  none_equal path (x ∷ others) h =
      let parts = or_none (same_path path x) (is_member same_path others path) h in
      (parts.0, none_equal path others parts.1)

  -- the elements of a way are distinct, or one of them is on a circle
  distinct_or_circle : (path : List Step) (others : List (List Step)) → Goes path others → IsDistinct same_path (path ∷ others) ⊎ ((other : List Step) × IsAmong (path ∷ others) other × IsOnCircle all other)
  unfolding Goes IsDistinct
  distinct_or_circle path [] way = inl (tt, tt)
  distinct_or_circle path (next ∷ others) way = elim (distinct_or_circle next others way.1) [
    | inr found ↦ inr (found.0, member-tail same_path same_path-tells path (next ∷ others) found.0 found.1, found.2)
    | inl distinct ↦ elim (cases_Bool (is_member same_path (next ∷ others) path)) [
      | inl p ↦ inr (path, member-head same_path same_path-tells path (next ∷ others), chain_to path (next ∷ others) path way p)
      | inr q ↦ inl (none_equal path (next ∷ others) q, distinct)
    ]
  ]

  pub rests : HasNoCircle all → (path : List Step) → IsAmong (paths_of all) path → Rests (length (paths_of all)) path
  rests no_circle path here = elim (rests_or_goes (length (paths_of all)) path) [
    | inl p ↦ p
    | inr way ↦ elim (distinct_or_circle path way.0 way.2) [
      | inl distinct ↦ absurd (omega (arith, way.1, length-le_from_is_member (equivalence same_path same_path-tells) (path ∷ way.0) (paths_of all) distinct (way-stands path way.0 way.2 here)))
      | inr found ↦ absurd (no_circle found.0 (way-stands path way.0 way.2 here found.0 found.1) found.2)
    ]
  ]

pub levels_are_enough : LevelsAreEnough
unfolding by_levels
levels_are_enough all no_circle levels enough path here =
    same levels enough ∙ sym (same (suc levels) (more levels (length (paths_of all)) enough))
  where
    same : (k : ℕ) → length (paths_of all) ≤ k → derived_at all k path ≡ derived_at all (length (paths_of all)) path
    same k h = ap (λ j. derived_at all j path) (less k (length (paths_of all)) h) ∙ rests all no_circle path here (k - length (paths_of all))
      where
        less : (a b : ℕ) → b ≤ a → a ≡ b + (a - b)
        less a b h = omega (arith, h)

    more : (a b : ℕ) → b ≤ a → b ≤ suc a
    more a b h = omega (arith, h)
