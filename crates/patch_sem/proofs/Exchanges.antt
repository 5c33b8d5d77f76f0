-- Two exchanges in a list, whose tests no item passes both.
use Rattle.std.proofs.Common.{◌≡◌, Bool, true, false, not, List, [], ◌∷◌, ◌++◌, filter, refl, sym, ap, ap₂, ◌∙◌}
use Rattle.std.proofs.lemmas.List.Elements.{filter-append}
use Rattle.svd_rows.proofs.Passing.{exchanged-before, filter-none, filter-not_none}
use Rattle.svd_rows.specs.RowEdits.{exchanged, some_pass}

-- the items that fail the test
abbrev left_out : {X : Type 0} → (X → Bool) → List X → List X
left_out test xs = filter (λ x. not (test x)) xs

-- what an item comes to where it passes, and where it fails
drops : {X : Type 0} (test : X → Bool) (x : X) (xs : List X) → test x ≡ true → left_out test (x ∷ xs) ≡ left_out test xs
drops test x xs e = rw e refl

keeps : {X : Type 0} (test : X → Bool) (x : X) (xs : List X) → test x ≡ false → left_out test (x ∷ xs) ≡ x ∷ left_out test xs
keeps test x xs e = rw e refl

meets : {X : Type 0} (test : X → Bool) (new : List X) (x : X) (xs : List X) → test x ≡ true → exchanged test new (x ∷ xs) ≡ new ++ left_out test xs
unfolding exchanged
meets test new x xs e = rw e refl

passes : {X : Type 0} (test : X → Bool) (new : List X) (x : X) (xs : List X) → test x ≡ false → exchanged test new (x ∷ xs) ≡ x ∷ exchanged test new xs
unfolding exchanged
passes test new x xs e = rw e refl

-- leaving out items of two kinds, in either order
both_out : {X : Type 0} (P Q : X → Bool) (xs : List X) → left_out P (left_out Q xs) ≡ left_out Q (left_out P xs)
both_out P Q [] = refl
both_out P Q (x ∷ xs) = cases (P x) (Q x) refl refl (both_out P Q xs)
  where
    cases : (p q : Bool) → P x ≡ p → Q x ≡ q → left_out P (left_out Q xs) ≡ left_out Q (left_out P xs) → left_out P (left_out Q (x ∷ xs)) ≡ left_out Q (left_out P (x ∷ xs))
    cases true true is also more = ap (left_out P) (drops Q x xs also) ∙ more ∙ ap (left_out Q) (sym (drops P x xs is))
    cases true false is also more =
        ap (left_out P) (keeps Q x xs also) ∙ drops P x (left_out Q xs) is ∙ more ∙ ap (left_out Q) (sym (drops P x xs is))
    cases false true is also more =
        ap (left_out P) (drops Q x xs also) ∙ more ∙ sym (drops Q x (left_out P xs) also) ∙ ap (left_out Q) (sym (keeps P x xs is))
    cases false false is also more =
        ap (left_out P) (keeps Q x xs also) ∙ keeps P x (left_out Q xs) is ∙ ap (λ r. x ∷ r) (more) ∙ sym (keeps Q x (left_out P xs) also) ∙ ap (left_out Q) (sym (keeps P x xs is))

nothing_met : {X : Type 0} (test : X → Bool) (new : List X) → exchanged test new [] ≡ []
unfolding exchanged
nothing_met test new = refl

-- leaving items out, and an exchange of others
out-exchanged : {X : Type 0} (P Q : X → Bool) (B : List X) → ((x : X) → Q x ≡ true → P x ≡ false) → some_pass P B ≡ false → (xs : List X) → left_out P (exchanged Q B xs) ≡ exchanged Q B (left_out P xs)
out-exchanged P Q B apart none [] = ap (left_out P) (nothing_met Q B) ∙ sym (nothing_met Q B)
out-exchanged P Q B apart none (x ∷ xs) = cases (P x) (Q x) refl refl (out-exchanged P Q B apart none xs)
  where
    cases : (p q : Bool) → P x ≡ p → Q x ≡ q → left_out P (exchanged Q B xs) ≡ exchanged Q B (left_out P xs) → left_out P (exchanged Q B (x ∷ xs)) ≡ exchanged Q B (left_out P (x ∷ xs))
    cases p true is also more =
        ap (left_out P) (meets Q B x xs also) ∙ filter-append (λ y. not (P y)) B (left_out Q xs)
        ∙ ap₂ (λ a b. a ++ b) (filter-not_none P B none) (both_out P Q xs)
        ∙ sym (meets Q B x (left_out P xs) also) ∙ ap (exchanged Q B) (sym (keeps P x xs (apart x also)))
    cases true false is also more =
        ap (left_out P) (passes Q B x xs also) ∙ drops P x (exchanged Q B xs) is ∙ more ∙ ap (exchanged Q B) (sym (drops P x xs is))
    cases false false is also more =
        ap (left_out P) (passes Q B x xs also) ∙ keeps P x (exchanged Q B xs) is ∙ ap (λ r. x ∷ r) (more)
        ∙ sym (passes Q B x (left_out P xs) also) ∙ ap (exchanged Q B) (sym (keeps P x xs is))

-- two exchanges, in either order
pub exchanged-apart : {X : Type 0} (P Q : X → Bool) (A B : List X) → ((x : X) → P x ≡ true → Q x ≡ false) → ((x : X) → Q x ≡ true → P x ≡ false) → some_pass Q A ≡ false → some_pass P B ≡ false → (xs : List X) → exchanged Q B (exchanged P A xs) ≡ exchanged P A (exchanged Q B xs)
exchanged-apart P Q A B apart back none_a none_b [] =
    ap (exchanged Q B) (nothing_met P A) ∙ nothing_met Q B ∙ sym (nothing_met P A) ∙ ap (exchanged P A) (sym (nothing_met Q B))
exchanged-apart P Q A B apart back none_a none_b (x ∷ xs) =
    cases (P x) (Q x) refl refl (exchanged-apart P Q A B apart back none_a none_b xs)
  where
    cases : (p q : Bool) → P x ≡ p → Q x ≡ q → exchanged Q B (exchanged P A xs) ≡ exchanged P A (exchanged Q B xs) → exchanged Q B (exchanged P A (x ∷ xs)) ≡ exchanged P A (exchanged Q B (x ∷ xs))
    cases true q is also more =
        ap (exchanged Q B) (meets P A x xs is) ∙ exchanged-before Q B A (left_out P xs) none_a
        ∙ ap (λ r. A ++ r) (sym (out-exchanged P Q B back none_b xs))
        ∙ sym (meets P A x (exchanged Q B xs) is) ∙ ap (exchanged P A) (sym (passes Q B x xs (apart x is)))
    cases false true is also more =
        ap (exchanged Q B) (passes P A x xs is) ∙ meets Q B x (exchanged P A xs) also
        ∙ ap (λ r. B ++ r) (out-exchanged Q P A apart none_a xs)
        ∙ sym (exchanged-before P A B (left_out Q xs) none_b) ∙ ap (exchanged P A) (sym (meets Q B x xs also))
    cases false false is also more =
        ap (exchanged Q B) (passes P A x xs is) ∙ passes Q B x (exchanged P A xs) also
        ∙ ap (λ r. x ∷ r) (more)
        ∙ sym (passes P A x (exchanged Q B xs) is) ∙ ap (exchanged P A) (sym (passes Q B x xs also))

not_both : false ≡ true → ⊥
not_both e = cc

-- what passes the other test is as it was
still : {X : Type 0} (P Q : X → Bool) → ((x : X) → Q x ≡ true → P x ≡ false) → (xs : List X) → filter Q (left_out P xs) ≡ filter Q xs
still P Q back [] = refl
still P Q back (x ∷ xs) = cases (P x) (Q x) refl refl (still P Q back xs)
  where
    cases : (p q : Bool) → P x ≡ p → Q x ≡ q → filter Q (left_out P xs) ≡ filter Q xs → filter Q (left_out P (x ∷ xs)) ≡ filter Q (x ∷ xs)
    cases p true is also more = ap (filter Q) (keeps P x xs (back x also)) ∙ rw also (ap (λ r. x ∷ r) (more))
    cases true false is also more = ap (filter Q) (drops P x xs is) ∙ more ∙ rw also refl
    cases false false is also more = ap (filter Q) (keeps P x xs is) ∙ rw also (more)

pub filter-exchanged : {X : Type 0} (P Q : X → Bool) (A : List X) → ((x : X) → Q x ≡ true → P x ≡ false) → some_pass Q A ≡ false → (xs : List X) → filter Q (exchanged P A xs) ≡ filter Q xs
filter-exchanged P Q A back none [] = ap (filter Q) (nothing_met P A)
filter-exchanged P Q A back none (x ∷ xs) = cases (P x) (Q x) refl refl (filter-exchanged P Q A back none xs)
  where
    cases : (p q : Bool) → P x ≡ p → Q x ≡ q → filter Q (exchanged P A xs) ≡ filter Q xs → filter Q (exchanged P A (x ∷ xs)) ≡ filter Q (x ∷ xs)
    cases true true is also more = absurd (not_both (sym (back x also) ∙ is))
    cases true false is also more =
        ap (filter Q) (meets P A x xs is) ∙ filter-append Q A (left_out P xs)
        ∙ ap₂ (λ a b. a ++ b) (filter-none Q A none) (still P Q back xs) ∙ rw also refl
    cases false true is also more = ap (filter Q) (passes P A x xs is) ∙ rw also (ap (λ r. x ∷ r) more)
    cases false false is also more = ap (filter Q) (passes P A x xs is) ∙ rw also more
