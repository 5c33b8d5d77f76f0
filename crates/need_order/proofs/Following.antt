-- An order behind needs, step by step and as a whole.
use Rattle.std.proofs.Common.{◌≡◌, inl, inr, ℕ, ◌≤◌, true, false, nat_eq, List, [], ◌∷◌, ◌++◌, length, refl, sym, ap, ◌∙◌, subst, append_assoc, append-nil}
use Rattle.std.specs.List.{IsDistinct, AllByRecursion}
use Rattle.std.proofs.lemmas.Bool.{eqb-true, eq-eqb, or_cases, true≢false}
use Rattle.std.proofs.lemmas.Map.Steps.{length-le_from_distinct_below}
use Rattle.need_order.specs.Needs.{among, IsWithin, HasNoCircle, IsOrder}
use Rattle.need_order.specs.Settling.{Follows, IsSettled}
use Rattle.need_order.proofs.Numbers.{among-left, all_there, lacks-none, lacks-from_all}
use Rattle.need_order.proofs.Circles.{ends-within}
use Rattle.need_order.proofs.Reaching.{stays}

module _ (needs : ℕ → List ℕ) where
  -- what an element needs stands before it
  pub behind_in : (start before after : List ℕ) (e d : ℕ) → Follows needs start (before ++ (e ∷ after)) → among d (needs e) ≡ true → among d (start ++ before) ≡ true
  unfolding Follows
  behind_in start [] after e d follows p = subst (λ xs. among d xs ≡ true) (sym (append-nil start)) (lacks-none start (needs e) follows.0 d p)
  behind_in start (x ∷ before) after e d follows p =
      subst (λ xs. among d xs ≡ true) (append_assoc start (x ∷ []) before) (behind_in (start ++ x ∷ []) before after e d follows.1 p)

  follows_from : (start rest : List ℕ) → ((before after : List ℕ) (e d : ℕ) → rest ≡ before ++ (e ∷ after) → among d (needs e) ≡ true → among d (start ++ before) ≡ true) → Follows needs start rest
  unfolding Follows
  follows_from start [] h = tt
  follows_from start (x ∷ rest) h = (
    lacks-from_all start (needs x) (λ d p. subst (λ xs. among d xs ≡ true) (append-nil start) (h [] rest x d refl p)),
    follows_from (start ++ x ∷ []) rest (λ before after e d same p. subst (λ xs. among d xs ≡ true) (sym (append_assoc start (x ∷ []) before)) (h (x ∷ before) after e d (ap (λ xs. x ∷ xs) same) p)),
  )

  pub order_follows : (n : ℕ) (order : List ℕ) → IsOrder needs n order → Follows needs [] order
  order_follows n order h = follows_from [] order h.behind

-- a number that is there parts the list
pub record Parted (e : ℕ) (numbers : List ℕ) : Type 0 where
  pub before : List ℕ
  pub after : List ℕ
  pub whole : numbers ≡ before ++ (e ∷ after)

pub parted : (e : ℕ) (numbers : List ℕ) → among e numbers ≡ true → Parted e numbers
parted e [] h = absurd (true≢false (sym h))
parted e (x ∷ numbers) h = elim (or_cases (nat_eq e x) (among e numbers) h) [
  | inl p ↦ record { before = []; after = numbers; whole = ap (λ y. y ∷ numbers) (sym (eqb-true e x p)) }
  | inr q ↦ let r = parted e numbers q in record { before = x ∷ r.before; after = r.after; whole = ap (λ ys. x ∷ ys) r.whole }
]

all_at : (P : ℕ → Type 0) (before after : List ℕ) (e : ℕ) → AllByRecursion P (before ++ (e ∷ after)) → P e
all_at P [] after e h = h.0
all_at P (x ∷ before) after e h = all_at P before after e h.1

-- no number stands twice
apart : (before after : List ℕ) (e : ℕ) → IsDistinct nat_eq (before ++ (e ∷ after)) → among e before ≡ true → ⊥
unfolding IsDistinct
apart [] after e h there = true≢false (sym there)
apart (x ∷ before) after e h there = elim (or_cases (nat_eq e x) (among e before) there) [
  | inl p ↦ true≢false (sym (eq-eqb x e (sym (eqb-true e x p))) ∙ all_at (λ y. nat_eq x y ≡ false) before after e h.0)
  | inr q ↦ apart before after e h.1 q
]

-- an order has at most as many numbers as there are
pub order_length : (needs : ℕ → List ℕ) (n : ℕ) (order : List ℕ) → IsOrder needs n order → length order ≤ n
order_length needs n order h = length-le_from_distinct_below order n h.once (λ e p. (h.whole e).0 p)

-- where an order stands, no path of needs returns
pub ordered_no_circle : (needs : ℕ → List ℕ) (n : ℕ) (order : List ℕ) → IsWithin needs n → IsOrder needs n order → HasNoCircle needs
ordered_no_circle needs n order within h e circle = apart at.before at.after e (subst (IsDistinct nat_eq) at.whole h.once) returns
  where
    at : Parted e order
    at = parted e order ((h.whole e).1 (ends-within needs n within e circle.0 e circle.1))

    closed : (x : ℕ) → among x at.before ≡ true → (d : ℕ) → among d (needs x) ≡ true → among d at.before ≡ true
    closed x there d p = let part = parted x at.before there in
        subst (λ xs. among d xs ≡ true) (sym part.whole)
        (among-left d part.before (x ∷ part.after)
        (h.behind part.before (part.after ++ (e ∷ at.after)) x d (at.whole ∙ ap (λ xs. xs ++ (e ∷ at.after)) part.whole ∙ append_assoc part.before (x ∷ part.after) (e ∷ at.after)) p))

    returns : among e at.before ≡ true
    returns = stays n needs at.before closed e (λ d p. h.behind at.before at.after e d at.whole p) circle.0 e circle.1

-- what is settled, where all is, is an order
pub settled_order : (needs : ℕ → List ℕ) (n : ℕ) (items : List ℕ) → IsSettled needs n items → n ≤ length items → IsOrder needs n items
settled_order needs n items h full = record {
  whole = λ e. (h.below e, all_there items n h.distinct h.below full e);
  once = h.distinct;
  behind = λ before after e d same p. behind_in needs [] before after e d (subst (Follows needs []) same h.follows) p;
}
