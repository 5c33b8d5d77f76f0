-- A list of items is read back, and the loop that reads it.
use Rattle.std.proofs.Common.{◌≡◌, ℕ, zero, suc, ◌<◌, ◌≤◌, Bool, true, false, cond, List, [], ◌∷◌, ◌++◌, length, Option, Some, None, refl, sym, ap, subst, ◌∙◌, inl, inr, append_assoc, arith}
use Rattle.std.proofs.lemmas.Bool.{cases_Bool}
use Rattle.std.proofs.lemmas.List.{append-nil}
use Rattle.text_scan.specs.Steps.{◌>>=◌}
use Rattle.text_scan.specs.Lists.{ReadsAll, items_up_to, items_at}
use Rattle.text_scan.proofs.Steps.{cases_option, bind_some, some_is}

-- a reader of one item takes at least a byte
abbrev pub Shrinks : {X : Type 0} → (List ℕ → Option (X × List ℕ)) → Type 0
Shrinks {X} item_at = (text : List ℕ) (x : X × List ℕ) → item_at text ≡ Some x → length x.1 < length text

-- what is read behind items that were read before
abbrev pub given : {A : Type 0} → A → Option A
given x = Some x

abbrev pub with_front : {X : Type 0} → List X → Option (List X × List ℕ) → Option (List X × List ℕ)
with_front front read = read >>= λ items. Some (front ++ items.0, items.1)

module _ {X : Type 0} (begins : List ℕ → Bool) (item_at : List ℕ → Option (X × List ℕ)) where
  enough : Shrinks item_at → (n m : ℕ) (text : List ℕ) → length text ≤ n → length text ≤ m → items_up_to begins item_at n text ≡ items_up_to begins item_at m text
  unfolding items_up_to
  enough shrinks zero zero text p q = refl
  enough shrinks zero (suc m) text p q =
      elim (cases_Bool (begins text)) [
        | inl starts ↦ elim (cases_option (item_at text)) [
          | inl none ↦ rw (starts, none) refl
          | inr some ↦ absurd (omega (arith, shrinks text some.0 some.1))
        ]
        | inr other ↦ rw other refl
      ]
  enough shrinks (suc n) zero text p q =
      elim (cases_Bool (begins text)) [
        | inl starts ↦ elim (cases_option (item_at text)) [
          | inl none ↦ rw (starts, none) refl
          | inr some ↦ absurd (omega (arith, shrinks text some.0 some.1))
        ]
        | inr other ↦ rw other refl
      ]
  enough shrinks (suc n) (suc m) text p q =
      elim (cases_Bool (begins text)) [
        | inl starts ↦ elim (cases_option (item_at text)) [
          | inl none ↦ rw (starts, none) refl
          | inr some ↦ rw (starts, some.1) (ap (λ (read : Option (List X × List ℕ)). read >>= λ items. Some (some.0.0 ∷ items.0, items.1))
              (enough shrinks n m some.0.1 (omega (arith, shrinks text some.0 some.1)) (omega (arith, shrinks text some.0 some.1))))
        ]
        | inr other ↦ rw other refl
      ]

  -- the reader by its first item
  up_to-first : Shrinks item_at → (text : List ℕ) → items_up_to begins item_at (suc (length text)) text ≡ cond (begins text) (item_at text >>= λ item. items_up_to begins item_at (length item.1) item.1 >>= λ items. Some (item.0 ∷ items.0, items.1)) (Some ([], text))
  unfolding items_up_to
  up_to-first shrinks text =
      elim (cases_Bool (begins text)) [
        | inl starts ↦ elim (cases_option (item_at text)) [
          | inl none ↦ rw (starts, none) refl
          | inr some ↦ rw (starts, some.1) (ap (λ (read : Option (List X × List ℕ)). read >>= λ items. Some (some.0.0 ∷ items.0, items.1))
              (enough shrinks (length text) (length some.0.1) some.0.1 (omega (arith, shrinks text some.0 some.1)) (omega arith)))
        ]
        | inr other ↦ rw other refl
      ]

  items-unfold : Shrinks item_at → (text : List ℕ) → items_at begins item_at text ≡ cond (begins text) (item_at text >>= λ item. items_at begins item_at item.1 >>= λ items. Some (item.0 ∷ items.0, items.1)) (Some ([], text))
  unfolding items_at
  items-unfold shrinks text = enough shrinks (length text) (suc (length text)) text (omega arith) (omega arith) ∙ up_to-first shrinks text

  items-more : Shrinks item_at → (text : List ℕ) (item : X × List ℕ) → begins text ≡ true → item_at text ≡ Some item → items_at begins item_at text ≡ (items_at begins item_at item.1 >>= λ items. Some (item.0 ∷ items.0, items.1))
  items-more shrinks text item starts some = items-unfold shrinks text ∙ rw (starts, some) refl

  items-fail : Shrinks item_at → (text : List ℕ) → begins text ≡ true → item_at text ≡ None → items_at begins item_at text ≡ None
  items-fail shrinks text starts none = items-unfold shrinks text ∙ rw (starts, none) refl

  items-stop : Shrinks item_at → (text : List ℕ) → begins text ≡ false → items_at begins item_at text ≡ Some ([], text)
  items-stop shrinks text other = items-unfold shrinks text ∙ rw other refl

  -- what is read is a list of items
  module _ (reads : X → List ℕ → List ℕ → Type 0) (item_takes : (text : List ℕ) (x : X) (rest : List ℕ) → item_at text ≡ Some (x, rest) → reads x text rest) where
    up_to_takes : (most : ℕ) (text : List ℕ) (items : List X) (rest : List ℕ) → items_up_to begins item_at most text ≡ Some (items, rest) → ReadsAll reads items text rest
    unfolding items_up_to
    up_to_takes zero text items rest e =
        elim (cases_Bool (begins text)) [
          | inl starts ↦ absurd (let e' : None ≡ given (items, rest) = rw starts at e in cc)
          | inr other ↦ let e' : given ([], text) ≡ given (items, rest) = rw other at e in subst (λ (p : List X × List ℕ). ReadsAll reads p.0 text p.1) (some_is ([], text) (items, rest) e') refl
        ]
    up_to_takes (suc most) text items rest e =
        elim (cases_Bool (begins text)) [
          | inl starts ↦
              let e' : (item_at text >>= λ item. items_up_to begins item_at most item.1 >>= λ others. Some (item.0 ∷ others.0, others.1)) ≡ Some (items, rest) = rw starts at e in
              let one = bind_some (item_at text) (λ item. items_up_to begins item_at most item.1 >>= λ others. Some (item.0 ∷ others.0, others.1)) (items, rest) e' in
              let more = bind_some (items_up_to begins item_at most one.0.1) (λ others. Some (one.0.0 ∷ others.0, others.1)) (items, rest) one.2 in
              let all : ReadsAll reads (one.0.0 ∷ more.0.0) text more.0.1 = (one.0.1, item_takes text one.0.0 one.0.1 one.1, up_to_takes most one.0.1 more.0.0 more.0.1 more.1) in
              subst (λ (p : List X × List ℕ). ReadsAll reads p.0 text p.1) (some_is (one.0.0 ∷ more.0.0, more.0.1) (items, rest) more.2) all
          | inr other ↦ let e' : given ([], text) ≡ given (items, rest) = rw other at e in subst (λ (p : List X × List ℕ). ReadsAll reads p.0 text p.1) (some_is ([], text) (items, rest) e') refl
        ]

    pub items_take : (text : List ℕ) (items : List X) (rest : List ℕ) → items_at begins item_at text ≡ Some (items, rest) → ReadsAll reads items text rest
    unfolding items_at
    items_take text items rest e = up_to_takes (length text) text items rest e

  -- a list of items is read, up to what begins no item
  module _ (reads : X → List ℕ → List ℕ → Type 0) (shrinks : Shrinks item_at)
      (item_begins : (x : X) (text rest : List ℕ) → reads x text rest → begins text ≡ true)
      (item_again : (x : X) (text rest : List ℕ) → reads x text rest → item_at text ≡ Some (x, rest)) where
    pub items_again : (items : List X) (text rest : List ℕ) → ReadsAll reads items text rest → begins rest ≡ false → items_at begins item_at text ≡ Some (items, rest)
    items_again [] text rest same ends = ap (items_at begins item_at) same ∙ items-stop shrinks rest ends ∙ ap (λ (t : List ℕ). given ([], t)) refl
    items_again (x ∷ items) text rest all ends =
        items-more shrinks text (x, all.0) (item_begins x text all.0 all.1) (item_again x text all.0 all.1)
        ∙ rw (items_again items all.0 rest all.2 ends) refl

  -- the loop
  module _ (shrinks : Shrinks item_at) where
    pub goes_on : (front : List X) (text : List ℕ) (x : X) (after : List ℕ) (total : Option (List X × List ℕ)) → begins text ≡ true → item_at text ≡ Some (x, after)
        → with_front front (items_at begins item_at text) ≡ total → with_front (front ++ x ∷ []) (items_at begins item_at after) ≡ total
    goes_on front text x after total starts some so_far =
        regrouped (items_at begins item_at after) ∙ sym (ap (with_front front) (items-more shrinks text (x, after) starts some)) ∙ so_far
      where
        regrouped : (read : Option (List X × List ℕ)) → with_front (front ++ x ∷ []) read ≡ with_front front (read >>= λ items. Some (x ∷ items.0, items.1))
        regrouped None = refl
        regrouped (Some items) = ap (λ (xs : List X). given (xs, items.1)) (append_assoc front (x ∷ []) items.0)

    pub breaks_off : (front : List X) (text : List ℕ) (total : Option (List X × List ℕ)) → begins text ≡ true → item_at text ≡ None → with_front front (items_at begins item_at text) ≡ total → total ≡ None
    breaks_off front text total starts none so_far = sym so_far ∙ ap (with_front front) (items-fail shrinks text starts none)

    pub is_done : (front : List X) (text : List ℕ) (total : Option (List X × List ℕ)) → begins text ≡ false → with_front front (items_at begins item_at text) ≡ total → total ≡ Some (front, text)
    is_done front text total other so_far =
        sym so_far ∙ ap (with_front front) (items-stop shrinks text other) ∙ ap (λ (xs : List X). given (xs, text)) (append-nil front)

-- a list of items takes no less than nothing
pub ReadsAll-length : {X : Type 0} (reads : X → List ℕ → List ℕ → Type 0) → ((x : X) (text rest : List ℕ) → reads x text rest → length rest ≤ length text)
    → (items : List X) (text rest : List ℕ) → ReadsAll reads items text rest → length rest ≤ length text
ReadsAll-length reads one [] text rest same = omega (arith, ap length same)
ReadsAll-length reads one (x ∷ items) text rest all = omega (arith, one x text all.0 all.1, ReadsAll-length reads one items all.0 rest all.2)
