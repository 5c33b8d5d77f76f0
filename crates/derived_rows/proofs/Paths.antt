-- Paths as members of lists.
use Rattle.std.proofs.Common.{◌≡◌, ◌⊎◌, inl, inr, Bool, true, false, ◌||◌, List, [], ◌∷◌, ◌++◌, map, refl, sym, ap, ◌∙◌, subst}
use Rattle.std.specs.Cmp.{IsEquivalence}
use Rattle.std.specs.Set.{is_member}
use Rattle.std.proofs.lemmas.Bool.{and_parts, and_from, or_cases, true≢false}
use Rattle.std.proofs.lemmas.List.Folds.{list_any-append}
use Rattle.derived_rows.specs.Dependence.{same_path}
use Rattle.svd_model.specs.Steps.{Step, same_step}
use Rattle.svd_model.proofs.Steps.{same_step-tells}
use Rattle.svd_rows.specs.Paths.{IsSame, fits, exactly}

-- the test tells whether two paths are equal
pub same_path-tells : IsSame same_path
unfolding same_path fits
same_path-tells = record { itself = itself; alone = alone }
  where
    itself : (path : List Step) → fits (exactly same_step path) path ≡ true
    itself [] = refl
    itself (step ∷ path) = and_from (same_step step step) (fits (exactly same_step path) path) (same_step-tells.itself step) (itself path)

    alone : (path other : List Step) → fits (exactly same_step path) other ≡ true → path ≡ other
    alone [] [] e = refl
    alone [] (step ∷ other) e = absurd (true≢false (sym e))
    alone (step ∷ path) [] e = absurd (true≢false (sym e))
    alone (step ∷ path) (next ∷ other) e =
        let parts = and_parts (same_step step next) (fits (exactly same_step path) other) e in
        let first : step ≡ next = same_step-tells.alone step next parts.0 in
        let rest : path ≡ other = alone path other parts.1 in
        λ i. first i ∷ rest i

-- a test of what is equal is an equivalence
pub equivalence : {X : Type 0} (same : X → X → Bool) → IsSame same → IsEquivalence same
equivalence {X} same law = record {
  refl = law.itself;
  symm = λ x y. both (same x y) (same y x) (turned x y) (turned y x);
  congr = λ x y z e. ap (λ w. same w z) (law.alone x y e);
}
  where
    turned : (x y : X) → same x y ≡ true → same y x ≡ true
    turned x y e = subst (λ z. same z x ≡ true) (law.alone x y e) (law.itself x)

    both : (a b : Bool) → (a ≡ true → b ≡ true) → (b ≡ true → a ≡ true) → a ≡ b
    both true b f g = sym (f refl)
    both false true f g = g refl
    both false false f g = refl

module _ {X : Type 0} (same : X → X → Bool) (law : IsSame same) where
  -- the first of these, or one of the others
  pub member-cases : (x : X) (xs : List X) (q : X) → is_member same (x ∷ xs) q ≡ true → (q ≡ x) ⊎ (is_member same xs q ≡ true)
  member-cases x xs q h = elim (or_cases (same q x) (is_member same xs q) h) [ inl p ↦ inl (law.alone q x p) | inr p ↦ inr p ]

  pub member-head : (x : X) (xs : List X) → is_member same (x ∷ xs) x ≡ true
  member-head x xs = rw (law.itself x) refl

  pub member-tail : (x : X) (xs : List X) (q : X) → is_member same xs q ≡ true → is_member same (x ∷ xs) q ≡ true
  member-tail x xs q h = by (same q x)
    where
      by : (b : Bool) → (b || is_member same xs q) ≡ true
      by true = refl
      by false = h

  pub member-left : (xs ys : List X) (q : X) → is_member same xs q ≡ true → is_member same (xs ++ ys) q ≡ true
  member-left [] ys q h = absurd (true≢false (sym h))
  member-left (x ∷ xs) ys q h = elim (member-cases x xs q h) [
    | inl p ↦ subst (λ z. is_member same (x ∷ (xs ++ ys)) z ≡ true) (sym p) (member-head x (xs ++ ys))
    | inr p ↦ member-tail x (xs ++ ys) q (member-left xs ys q p)
  ]

  pub member-right : (xs ys : List X) (q : X) → is_member same ys q ≡ true → is_member same (xs ++ ys) q ≡ true
  member-right [] ys q h = h
  member-right (x ∷ xs) ys q h = member-tail x (xs ++ ys) q (member-right xs ys q h)

  pub member-append : (xs ys : List X) (q : X) → is_member same (xs ++ ys) q ≡ true → (is_member same xs q ≡ true) ⊎ (is_member same ys q ≡ true)
  member-append xs ys q h = or_cases (is_member same xs q) (is_member same ys q) (sym (list_any-append (same q) xs ys) ∙ h)

  -- a member of what is made of the items is made of one
  pub member-map : {W : Type 0} (other : W → W → Bool) → IsSame other → (f : W → X) (ws : List W) (q : X) → is_member same (map f ws) q ≡ true → (w : W) × (is_member other ws w ≡ true) × (q ≡ f w)
  member-map {W} other rule f [] q h = absurd (true≢false (sym h))
  member-map {W} other rule f (w ∷ ws) q h = elim (member-cases (f w) (map f ws) q h) [
    | inl p ↦ (w, rw (rule.itself w) refl, p)
    | inr p ↦ let r = member-map other rule f ws q p in (r.0, further (other r.0 w) r.1, r.2)
  ]
    where
      further : {rest : Bool} (b : Bool) → rest ≡ true → (b || rest) ≡ true
      further true e = refl
      further false e = e

  -- what is made of a member is one of what is made of the items
  pub member-mapped : {W : Type 0} (other : W → W → Bool) → IsSame other → (f : W → X) (ws : List W) (w : W) → is_member other ws w ≡ true → is_member same (map f ws) (f w) ≡ true
  member-mapped {W} other rule f [] w h = absurd (true≢false (sym h))
  member-mapped {W} other rule f (x ∷ ws) w h = elim (or_cases (other w x) (is_member other ws w) h) [
    | inl p ↦ subst (λ z. is_member same (f x ∷ map f ws) (f z) ≡ true) (sym (rule.alone w x p)) (member-head (f x) (map f ws))
    | inr p ↦ member-tail (f x) (map f ws) (f w) (member-mapped other rule f ws w p)
  ]
