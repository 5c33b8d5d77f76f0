-- Groups parted by `_`, from left to right.
use Rattle.std.proofs.Common.{ℕ, ◌≡◌, ◌<◌, ◌≤◌, arith, get_or, length, List, [], ◌∷◌, Bool, true, false, refl, sym, ap, ◌∙◌, inl, inr}
use Rattle.std.specs.Prelude.{◌&&◌, ◌||◌}
use Rattle.std.specs.List.{list_all, slice_split, onto_first}
use Rattle.std.proofs.lemmas.Bool.{cases_Bool}
use Rattle.frag_script.specs.Groups.{grouped_on}
use Rattle.frag_script.specs.Tokens.{is_grouped, is_some_byte, is_underscore}

-- each group has a byte, the first with what stands before it
abbrev groups_on : Bool → List (List ℕ) → Bool
groups_on is_begun [] = true
groups_on is_begun (group ∷ groups) = (is_begun || is_some_byte group) && list_all is_some_byte groups

onto_first-begun : (byte : ℕ) (is_begun : Bool) (groups : List (List ℕ)) → groups_on is_begun (onto_first byte groups) ≡ groups_on true groups
onto_first-begun byte true [] = refl
onto_first-begun byte false [] = refl
onto_first-begun byte true (group ∷ groups) = refl
onto_first-begun byte false (group ∷ groups) = refl

groups_on-false : (groups : List (List ℕ)) → groups_on false groups ≡ list_all is_some_byte groups
groups_on-false [] = refl
groups_on-false (group ∷ groups) = refl

behind_underscore : (is_begun : Bool) (groups : List (List ℕ)) → groups_on is_begun ([] ∷ groups) ≡ (is_begun && groups_on false groups)
behind_underscore true groups = sym (groups_on-false groups)
behind_underscore false groups = refl

pub grouped_on-is : (is_begun : Bool) (text : List ℕ) → grouped_on is_begun text ≡ groups_on is_begun (slice_split is_underscore text)
unfolding grouped_on
grouped_on-is true [] = refl
grouped_on-is false [] = refl
grouped_on-is is_begun (byte ∷ rest) =
    elim (cases_Bool (is_underscore byte)) [
      | inl parts_it ↦ rw (parts_it) (ap (λ x. is_begun && x) (grouped_on-is false rest) ∙ sym (behind_underscore is_begun (slice_split is_underscore rest)))
      | inr other ↦ rw (other) (grouped_on-is true rest ∙ sym (onto_first-begun byte is_begun (slice_split is_underscore rest)))
    ]

pub is_grouped-on : (text : List ℕ) → grouped_on false text ≡ is_grouped text
unfolding is_grouped
is_grouped-on text = grouped_on-is false text ∙ groups_on-false (slice_split is_underscore text)

-- a group without a byte was met
pub is_refused : (is_begun : Bool) (rest text : List ℕ) → grouped_on is_begun rest ≡ grouped_on false text → is_begun ≡ false → 1 ≤ length rest → get_or rest 0 0 ≡ 95 → false ≡ is_grouped text
unfolding grouped_on
is_refused is_begun [] text so_far none some mark = absurd (omega arith)
is_refused is_begun (byte ∷ rest) text so_far none some mark =
    let here : grouped_on is_begun (byte ∷ rest) ≡ false = rw (mark, none) refl in
    sym here ∙ (so_far ∙ is_grouped-on text)

-- all was passed
pub is_ended : (is_begun : Bool) (rest text : List ℕ) → grouped_on is_begun rest ≡ grouped_on false text → length rest < 1 → is_begun ≡ is_grouped text
unfolding grouped_on
is_ended is_begun [] text so_far none = so_far ∙ is_grouped-on text
is_ended is_begun (byte ∷ rest) text so_far none = absurd (omega arith)
