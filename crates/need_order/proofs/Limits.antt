-- Needs that are elements.
use Rattle.std.proofs.Common.{◌≡◌, inl, inr, ℕ, ◌+◌, ◌<◌, ◌≤◌, true, false, nat_le, List, length, get_or, refl, sym, ap, ◌∙◌, arith}
use Rattle.std.specs.List.{list_any}
use Rattle.std.proofs.lemmas.Bool.{cases_eq, cases_lt, leb-false, true≢false}
use Rattle.std.proofs.lemmas.Bool.Decides.{nat_tests}
use Rattle.need_order.specs.declared.element.Element.{Element}
use Rattle.need_order.specs.Needs.{needs, needs_of, IsWithin}
use Rattle.need_order.proofs.Deepening.{any_false}
use Rattle.need_order.proofs.Depths.{none_passes}
use Rattle.need_order.proofs.Numbers.{less_one}
use Rattle.need_order.proofs.Reaching.{item-at, needs-at, needs-past}

module _ (elements : List Element) (limit : ℕ) where
  -- the needs of the element at a place
  needs_there : (i : ℕ) (element : Element) → i < length elements → element ≡ get_or elements i element → needs elements i ≡ needs_of element
  needs_there i element inside is = needs-at elements i element (item-at elements i i element refl inside is)

  -- one more element needs elements alone
  pub within_more : (i : ℕ) (element : Element) → i < length elements → element ≡ get_or elements i element → list_any (λ d. nat_le limit d) (needs_of element) ≡ false
      → ((e : ℕ) → e < i → list_any (λ d. nat_le limit d) (needs elements e) ≡ false) → (e : ℕ) → e < i + 1 → list_any (λ d. nat_le limit d) (needs elements e) ≡ false
  within_more i element inside is none so_far e below = elim (cases_eq e i) [
    | inl same ↦ ap (λ k. list_any (λ d. nat_le limit d) (needs elements k)) same ∙ ap (list_any (λ d. nat_le limit d)) (needs_there i element inside is) ∙ none
    | inr other ↦ so_far e (less_one e i below other)
  ]

  -- all elements need elements alone
  pub all_within : (i : ℕ) → length elements ≤ i → ((e : ℕ) → e < i → list_any (λ d. nat_le limit d) (needs elements e) ≡ false) → IsWithin (needs elements) limit
  all_within i done so_far e d p = leb-false limit d (none_passes (λ x. nat_le limit x) (needs elements e) (every e) d p)
    where
      every : (e : ℕ) → list_any (λ d. nat_le limit d) (needs elements e) ≡ false
      every e = elim (cases_lt e i) [
        | inl q ↦ so_far e q
        | inr q ↦ ap (list_any (λ d. nat_le limit d)) (needs-past elements e (omega (arith, done, q)))
      ]

  -- an element needs one past the limit
  pub not_within : (i : ℕ) (element : Element) → i < length elements → element ≡ get_or elements i element → list_any (λ d. nat_le limit d) (needs_of element) ≡ true → IsWithin (needs elements) limit → ⊥
  not_within i element inside is some within =
      true≢false (sym some ∙ sym (ap (list_any (λ d. nat_le limit d)) (needs_there i element inside is))
      ∙ any_false (λ d. nat_le limit d) (needs elements i) (λ d p. let below = within i d p in grind (arith, nat_tests, below)))
