-- Children that are parted one after the other.
use Rattle.std.proofs.Common.{◌≡◌, ◌≤◌, ℕ, zero, suc, ◌+◌, Bool, true, false, cond, not, ◌&&◌, List, [], ◌∷◌, ◌++◌, filter, take, drop, length, refl, sym, ap, ap₂, ◌∙◌, subst, append-nil, append_assoc, arith, length-append}
use Rattle.std.specs.List.{list_any}
use Rattle.glob_select.specs.Matching.{matches}
use Rattle.patch_arrays.specs.Arranging.{Element, is_member}
use Rattle.patch_arrays.specs.declared.parting.Parted.{Parted}
use Rattle.patch_arrays.specs.Partings.{IsParted, Takes, next_place, put_at}
use Rattle.patch_model.specs.Acts.{PatternItems}
use Rattle.patch_sem.specs.Selecting.{is_patched, selects}
use Rattle.svd_model.specs.declared.sibling.Sibling.{Sibling}
use Rattle.svd_model.specs.Facts.{is_dim}
use Rattle.svd_rows.specs.RowEdits.{exchanged}

module _ {M : Type 0} (test : Sibling × M → Bool) where
  abbrev Entry : Type 0
  Entry = Sibling × M

  abbrev isnt : Entry → Bool
  isnt entry = not (test entry)

  -- the others so far, with new ones where the first of the members stood or will stand, and what is left
  abbrev joined : List Entry → ℕ → List Entry → List Entry → List Entry → List Entry
  joined [] place new others left = others ++ exchanged test new left
  joined (member ∷ members) place new others left = take place others ++ (new ++ (drop place others ++ filter isnt left))

  -- what is parted, and what is left, come to all
  pub record PartedUpTo (all left : List Entry) (parted : Parted M) : Type 0 where
    pub members : parted.members.items ++ filter test left ≡ filter test all
    pub others : parted.others.items ++ filter isnt left ≡ filter isnt all
    pub placed : (new : List Entry) → joined parted.members.items parted.place new parted.others.items left ≡ exchanged test new all
    pub within : parted.place ≤ length parted.others.items

  take-front : (xs ys : List Entry) (n : ℕ) → n ≤ length xs → take n (xs ++ ys) ≡ take n xs
  take-front xs ys zero le = refl
  take-front [] ys (suc n) le = absurd (omega (arith, le))
  take-front (x ∷ xs) ys (suc n) le = ap (λ (r : List Entry). x ∷ r) (take-front xs ys n (omega (arith, le)))

  drop-front : (xs ys : List Entry) (n : ℕ) → n ≤ length xs → drop n (xs ++ ys) ≡ drop n xs ++ ys
  drop-front xs ys zero le = refl
  drop-front [] ys (suc n) le = absurd (omega (arith, le))
  drop-front (x ∷ xs) ys (suc n) le = drop-front xs ys n (omega (arith, le))

  take-whole : (xs : List Entry) → take (length xs) xs ≡ xs
  take-whole [] = refl
  take-whole (x ∷ xs) = ap (λ (r : List Entry). x ∷ r) (take-whole xs)

  drop-whole : (xs : List Entry) → drop (length xs) xs ≡ []
  drop-whole [] = refl
  drop-whole (x ∷ xs) = drop-whole xs

  kept-more : (p : Entry → Bool) (front left : List Entry) (entry : Entry) → p entry ≡ true → (front ++ entry ∷ []) ++ filter p left ≡ front ++ filter p (entry ∷ left)
  kept-more p front left entry is = append_assoc front (entry ∷ []) (filter p left) ∙ ap (λ (b : Bool). front ++ cond b (entry ∷ filter p left) (filter p left)) (sym is)

  kept-same : (p : Entry → Bool) (front left : List Entry) (entry : Entry) → p entry ≡ false → front ++ filter p left ≡ front ++ filter p (entry ∷ left)
  kept-same p front left entry isnt_one = ap (λ (b : Bool). front ++ cond b (entry ∷ filter p left) (filter p left)) (sym isnt_one)

  -- one more member
  joined-member : (members others left new : List Entry) (place : ℕ) (entry : Entry) → test entry ≡ true → place ≤ length others
      → joined (members ++ entry ∷ []) (next_place members (length others) place) new others left ≡ joined members place new others (entry ∷ left)
  unfolding exchanged
  joined-member [] others left new place entry is within =
      ap₂ (λ (a b : List Entry). a ++ (new ++ (b ++ filter isnt left))) (take-whole others) (drop-whole others)
      ∙ ap (λ (b : Bool). others ++ cond b (new ++ filter isnt left) (entry ∷ exchanged test new left)) (sym is)
  joined-member (member ∷ members) others left new place entry is within =
      ap (λ (b : Bool). take place others ++ (new ++ (drop place others ++ cond (not b) (entry ∷ filter isnt left) (filter isnt left)))) (sym is)

  -- one more of the others
  joined-other : (members others left new : List Entry) (place : ℕ) (entry : Entry) → test entry ≡ false → place ≤ length others
      → joined members place new (others ++ entry ∷ []) left ≡ joined members place new others (entry ∷ left)
  unfolding exchanged
  joined-other [] others left new place entry is within =
      append_assoc others (entry ∷ []) (exchanged test new left)
      ∙ ap (λ (b : Bool). others ++ cond b (new ++ filter isnt left) (entry ∷ exchanged test new left)) (sym is)
  joined-other (member ∷ members) others left new place entry is within =
      ap₂ (λ (a b : List Entry). a ++ (new ++ (b ++ filter isnt left))) (take-front others (entry ∷ []) place within) (drop-front others (entry ∷ []) place within)
      ∙ ap (λ (r : List Entry). take place others ++ (new ++ r)) (append_assoc (drop place others) (entry ∷ []) (filter isnt left))
      ∙ ap (λ (b : Bool). take place others ++ (new ++ (drop place others ++ cond (not b) (entry ∷ filter isnt left) (filter isnt left)))) (sym is)

  place-within : (members others : List Entry) (place : ℕ) → place ≤ length others → next_place members (length others) place ≤ length others
  place-within [] others place within = omega arith
  place-within (member ∷ members) others place within = within

  pub parted-step : (all left rest : List Entry) (entry : Entry) (old new : Parted M) (b : Bool) → test entry ≡ b → left ≡ entry ∷ rest → PartedUpTo all left old → Takes b entry old new → PartedUpTo all rest new
  parted-step all left rest entry old new true is next so_far taken = record {
    members = ap (λ (xs : List Entry). xs ++ filter test rest) taken.0 ∙ kept-more test old.members.items rest entry is ∙ ap (λ (xs : List Entry). old.members.items ++ filter test xs) (sym next) ∙ so_far.members;
    others = ap (λ (xs : List Entry). xs ++ filter isnt rest) taken.1 ∙ kept-same isnt old.others.items rest entry (ap not is) ∙ ap (λ (xs : List Entry). old.others.items ++ filter isnt xs) (sym next) ∙ so_far.others;
    placed = λ added.
        ap₂ (λ (ms xs : List Entry). joined ms new.place added xs rest) taken.0 taken.1
        ∙ ap (λ (n : ℕ). joined (old.members.items ++ entry ∷ []) n added old.others.items rest) taken.2
        ∙ joined-member old.members.items old.others.items rest added old.place entry is so_far.within
        ∙ ap (joined old.members.items old.place added old.others.items) (sym next)
        ∙ so_far.placed added;
    within = at_most new.place (next_place old.members.items (length old.others.items) old.place) (length old.others.items) (length new.others.items) taken.2 (place-within old.members.items old.others.items old.place so_far.within) (ap length taken.1);
  }
    where
      at_most : (a b c d : ℕ) → a ≡ b → b ≤ c → d ≡ c → a ≤ d
      at_most a b c d e le f = omega (arith, e, le, f)
  parted-step all left rest entry old new false is next so_far taken = record {
    members = ap (λ (xs : List Entry). xs ++ filter test rest) taken.0 ∙ kept-same test old.members.items rest entry is ∙ ap (λ (xs : List Entry). old.members.items ++ filter test xs) (sym next) ∙ so_far.members;
    others = ap (λ (xs : List Entry). xs ++ filter isnt rest) taken.1 ∙ kept-more isnt old.others.items rest entry (ap not is) ∙ ap (λ (xs : List Entry). old.others.items ++ filter isnt xs) (sym next) ∙ so_far.others;
    placed = λ added.
        ap₂ (λ (ms xs : List Entry). joined ms new.place added xs rest) taken.0 taken.1
        ∙ ap (λ (n : ℕ). joined old.members.items n added (old.others.items ++ entry ∷ []) rest) taken.2
        ∙ joined-other old.members.items old.others.items rest added old.place entry is so_far.within
        ∙ ap (joined old.members.items old.place added old.others.items) (sym next)
        ∙ so_far.placed added;
    within = at_most new.place old.place (length old.others.items) 1 (length new.others.items) taken.2 so_far.within (ap length taken.1 ∙ length-append old.others.items (entry ∷ []));
  }
    where
      at_most : (a b c n d : ℕ) → a ≡ b → b ≤ c → d ≡ c + n → a ≤ d
      at_most a b c n d e le f = omega (arith, e, le, f)

  joined-nothing : (members others new : List Entry) (place : ℕ) → put_at members place new others ≡ joined members place new others []
  unfolding exchanged
  joined-nothing [] others new place = sym (append-nil others)
  joined-nothing (member ∷ members) others new place = ap (λ (r : List Entry). take place others ++ (new ++ r)) (sym (append-nil (drop place others)))

  pub parted-end : (all left : List Entry) (parted : Parted M) → left ≡ [] → PartedUpTo all left parted → IsParted test all parted
  parted-end all left parted none so_far = record {
    members = sym (append-nil parted.members.items) ∙ ap (λ (xs : List Entry). parted.members.items ++ filter test xs) (sym none) ∙ so_far.members;
    others = sym (append-nil parted.others.items) ∙ ap (λ (xs : List Entry). parted.others.items ++ filter isnt xs) (sym none) ∙ so_far.others;
    placed = λ new. joined-nothing parted.members.items parted.others.items new parted.place ∙ ap (joined parted.members.items parted.place new parted.others.items) (sym none) ∙ so_far.placed new;
    within = so_far.within;
  }

  pub parted-done : (all left : List Entry) (parted : Parted M) → length left ≡ 0 → PartedUpTo all left parted → IsParted test all parted
  parted-done all [] parted none so_far = parted-end all [] parted refl so_far
  parted-done all (entry ∷ left) parted none so_far = absurd (omega (arith, none))

-- ---- one child

-- whether a child becomes a member, by what the code asks of it
pub member-is : (pattern : PatternItems) (child : Element) (matched dimmed : Bool) → is_patched child.0.kind ≡ true → matched ≡ matches pattern child.0.name → dimmed ≡ list_any is_dim child.1.keys → is_member pattern child ≡ (matched && not dimmed)
unfolding selects
member-is pattern child matched dimmed known one other =
    ap (λ (b : Bool). (b && matches pattern child.0.name) && not (list_any is_dim child.1.keys)) known
    ∙ sym (ap₂ (λ (a b : Bool). a && not b) one other)

pub takes_by : {M : Type 0} (a b : Bool) (entry : Sibling × M) (old new : Parted M) → b ≡ a → Takes a entry old new → Takes b entry old new
takes_by a b entry old new e taken = subst (λ (x : Bool). Takes x entry old new) (sym e) taken
