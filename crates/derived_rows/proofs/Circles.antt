-- A circle passes an element that states a source.
use Rattle.std.proofs.Common.{◌≡◌, ◌⊎◌, inl, inr, ◌+◌, ◌<◌, true, false, List, [], ◌∷◌, ◌++◌, length, Option, None, Some, is_some, refl, sym, ap, ◌∙◌, subst, arith, lt_trans, lt_irrefl}
use Rattle.std.specs.List.{AllByRecursion}
use Rattle.std.specs.Set.{is_member}
use Rattle.std.proofs.lemmas.Bool.{cases_Bool, and_from, true≢false}
use Rattle.std.proofs.lemmas.List.{length_push}
use Rattle.std.proofs.lemmas.Map.Made.{is_member-filter}
use Rattle.derived_rows.specs.Dependence.{same_path, IsAmong, IsChain, IsOnCircle, HasNoCircle, listed, dependences, deriving_paths}
use Rattle.derived_rows.specs.Laws.{CirclesDerive}
use Rattle.derived_rows.specs.Sources.{children_at, child_paths, kind_at, source_names, sought_from, source_of}
use Rattle.derived_rows.proofs.Paths.{same_path-tells, equivalence, member-cases, member-append, member-map}
use Rattle.derived_rows.proofs.Stand.{dependence-stands}
use Rattle.pac_base.specs.declared.path.Step.{Step as Written}
use Rattle.svd_model.specs.Keys.{Key}
use Rattle.svd_model.specs.Stating.{paths_of}
use Rattle.svd_model.specs.Steps.{Step, Kind, same_step}
use Rattle.svd_model.proofs.Steps.{same_step-tells}
use Rattle.svd_rows.specs.Rows.{Row}

pub all-member : (P : List Step → Type 0) (paths : List (List Step)) (path : List Step) → AllByRecursion P paths → IsAmong paths path → P path
all-member P [] path each h = absurd (true≢false (sym h))
all-member P (x ∷ paths) path each h = elim (member-cases same_path same_path-tells x paths path h) [
  | inl same ↦ subst P (sym same) each.0
  | inr p ↦ all-member P paths path each.1 p
]

module _ (all : List (Row Step Key)) where
  -- without names there is no source
  pub no_source : (path : List Step) → is_some (source_names all path) ≡ false → source_of all path ≡ None
  unfolding source_of
  no_source path h = by (kind_at path) (source_names all path) h
    where
      by : (kind : Option Kind) (names : Option (List Written)) → is_some names ≡ false → sought_from all path kind names ≡ None
      by None names e = refl
      by (Some kind) None e = refl
      by (Some kind) (Some names) e = absurd (true≢false e)

  -- an element that states no source depends on longer paths alone
  longer : (path other : List Step) → is_some (source_names all path) ≡ false → IsAmong (dependences all path) other → length path < length other
  unfolding dependences child_paths
  longer path other none h = elim (member-append same_path same_path-tells (listed (source_of all path)) (child_paths all path) other h) [
    | inl p ↦ absurd (true≢false (sym p ∙ ap (λ o. is_member same_path (listed o) other) (no_source path none)))
    | inr p ↦ let r = member-map same_path same_path-tells same_step same_step-tells (λ child. path ++ child ∷ []) (children_at all path) other p in
        let long : length other ≡ length path + 1 = ap length r.2 ∙ length_push path r.0 in omega (arith, long)
  ]

  abbrev Chains : List Step → List Step → Type 0
  Chains from to = (others : List (List Step)) × IsChain all from others to

  -- an element that states a source, between the ends of a chain or at its front
  record Through (from to : List Step) : Type 0 where
    at : List Step
    derives : is_some (source_names all at) ≡ true
    before : (from ≡ at) ⊎ Chains from at
    after : Chains at to

  through : (from : List Step) (others : List (List Step)) (to : List Step) → IsChain all from others to → (length from < length to) ⊎ Through from to
  unfolding IsChain
  through from [] to h = elim (cases_Bool (is_some (source_names all from))) [
    | inl p ↦ inr (record { at = from; derives = p; before = inl refl; after = ([], h) })
    | inr q ↦ inl (longer from to q h)
  ]
  through from (x ∷ others) to h = elim (cases_Bool (is_some (source_names all from))) [
    | inl p ↦ inr (record { at = from; derives = p; before = inl refl; after = (x ∷ others, h) })
    | inr q ↦ elim (through x others to h.1) [
      | inl p ↦ inl (lt_trans (longer from x q h.0) p)
      | inr t ↦ inr (record { at = t.at; derives = t.derives; before = inr (further t.before); after = t.after })
    ]
  ]
    where
      further : {z : List Step} → (x ≡ z) ⊎ Chains x z → Chains from z
      further {z} (inl same) = ([], subst (IsAmong (dependences all from)) same h.0)
      further {z} (inr v) = (x ∷ v.0, (h.0, v.1))

  joined : (from : List Step) (others : List (List Step)) (over : List Step) (more : List (List Step)) (to : List Step) → IsChain all from others over → IsChain all over more to → IsChain all from (others ++ over ∷ more) to
  unfolding IsChain
  joined from [] over more to h k = (h, k)
  joined from (x ∷ others) over more to h k = (h.0, joined x others over more to h.1 k)

  pub ends-stand : (from : List Step) (others : List (List Step)) (to : List Step) → IsChain all from others to → IsAmong (paths_of all) to
  unfolding IsChain
  ends-stand from [] to h = dependence-stands all from to h
  ends-stand from (x ∷ others) to h = ends-stand x others to h.1

  -- an element that states a source is one of those that do
  pub deriving-member : (path : List Step) → IsAmong (paths_of all) path → is_some (source_names all path) ≡ true → IsAmong (deriving_paths all) path
  unfolding deriving_paths
  deriving-member path h derives =
      is_member-filter (equivalence same_path same_path-tells) (λ p. is_some (source_names all p)) path
      (λ x e. ap (λ p. is_some (source_names all p)) (same_path-tells.alone path x e)) (paths_of all)
      ∙ and_from (is_member same_path (paths_of all) path) (is_some (source_names all path)) h derives

  pub circle_derives : AllByRecursion (λ path. IsOnCircle all path → ⊥) (deriving_paths all) → HasNoCircle all
  circle_derives none path here circle = elim (through path circle.0 path circle.1) [
    | inl p ↦ absurd (lt_irrefl _ p)
    | inr t ↦
        let w = around t.before t.after in
        all-member (λ p. IsOnCircle all p → ⊥) (deriving_paths all) t.at none (deriving-member t.at (ends-stand t.at w.0 t.at w.1) t.derives) w
  ]
    where
      around : {z : List Step} → (path ≡ z) ⊎ Chains path z → Chains z path → Chains z z
      around {z} (inl same) after = subst (λ p. Chains z p) same after
      around {z} (inr before) after = (after.0 ++ path ∷ before.0, joined z after.0 path before.0 z after.1 before.1)

pub circles_derive : CirclesDerive
circles_derive all none = circle_derives all none
