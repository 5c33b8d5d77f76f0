-- A circle of needs has an element with a base.
use Rattle.std.proofs.Common.{◌≡◌, ◌⊎◌, inl, inr, ℕ, ◌<◌, true, List, [], ◌∷◌, ◌++◌, length, refl, subst, lt_trans, lt_irrefl}
use Rattle.std.proofs.lemmas.Bool.{cases_Bool}
use Rattle.need_order.specs.declared.element.Element.{Element}
use Rattle.need_order.specs.Needs.{among, needs, is_based, Leads, IsPath, IsWithin, HasCircle, HasNoneBelow}
use Rattle.need_order.specs.Laws.{NeedsLater}

way-way : (needs : ℕ → List ℕ) (a : ℕ) (path : List ℕ) (b : ℕ) (others : List ℕ) (c : ℕ) → IsPath needs a path b → IsPath needs b others c → IsPath needs a (path ++ b ∷ others) c
unfolding IsPath
way-way needs a [] b others c w v = (w, v)
way-way needs a (x ∷ path) b others c w v = (w.0, way-way needs x path b others c w.1 v)

-- a path ends within the elements
pub ends-within : (needs : ℕ → List ℕ) (n : ℕ) → IsWithin needs n → (a : ℕ) (path : List ℕ) (b : ℕ) → IsPath needs a path b → b < n
unfolding IsPath
ends-within needs n within a [] b w = within a b w
ends-within needs n within a (x ∷ path) b w = ends-within needs n within x path b w.1

-- a path goes to later elements alone, or goes through an element with a base
record Through (elements : List Element) (a b : ℕ) : Type 0 where
  at : ℕ
  derived : is_based elements at ≡ true
  before : (a ≡ at) ⊎ Leads (needs elements) a at
  after : Leads (needs elements) at b

through : (elements : List Element) → NeedsLater elements → (a : ℕ) (path : List ℕ) (b : ℕ) → IsPath (needs elements) a path b → (a < b) ⊎ Through elements a b
unfolding IsPath
through elements h a [] b w = elim (cases_Bool (is_based elements a)) [
  | inl p ↦ inr (record { at = a; derived = p; before = inl refl; after = ([], w) })
  | inr q ↦ inl (h a b q w)
]
through elements h a (x ∷ path) b w = elim (cases_Bool (is_based elements a)) [
  | inl p ↦ inr (record { at = a; derived = p; before = inl refl; after = (x ∷ path, w) })
  | inr q ↦ elim (through elements h x path b w.1) [
    | inl p ↦ inl (lt_trans (h a x q w.0) p)
    | inr t ↦ inr (record { at = t.at; derived = t.derived; before = inr (further t.before); after = t.after })
  ]
]
  where
    further : {z : ℕ} → (x ≡ z) ⊎ Leads (needs elements) x z → Leads (needs elements) a z
    further {z} (inl same) = ([], subst (λ i. among i (needs elements a) ≡ true) same w.0)
    further {z} (inr v) = (x ∷ v.0, (w.0, v.1))

pub circle_is_based : (elements : List Element) → NeedsLater elements → IsWithin (needs elements) (length elements) → HasCircle (needs elements) (length elements) → HasNoneBelow elements (length elements) → ⊥
circle_is_based elements h within circle none = elim (through elements h circle.on circle.circle.0 circle.on circle.circle.1) [
  | inl p ↦ absurd (lt_irrefl _ p)
  | inr t ↦ let w = around t.before t.after in none t.at (ends-within (needs elements) (length elements) within t.at w.0 t.at w.1) (t.derived, w)
]
  where
    around : {z : ℕ} → (circle.on ≡ z) ⊎ Leads (needs elements) circle.on z → Leads (needs elements) z circle.on → Leads (needs elements) z z
    around {z} (inl same) after = subst (λ i. Leads (needs elements) z i) same after
    around {z} (inr before) after = (after.0 ++ circle.on ∷ before.0, way-way (needs elements) z after.0 circle.on before.0 z after.1 before.1)
