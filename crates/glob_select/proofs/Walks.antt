-- The loops of matching, step by step over the text of the items.
use Rattle.std.proofs.Common.{◌≡◌, ℕ, Bool, true, false, eqb, length, rules, arith, List, [], ◌∷◌, Option, Some, None, refl, sym, ap, subst, ◌∙◌}
use Rattle.std.specs.Prelude.{option_and_then}
use Rattle.glob_select.specs.Items.{Item}
use Rattle.glob_select.specs.Matching.{is_star, taken, passes_behind_some, is_empty, fits}
use Rattle.glob_select.specs.Reading.{item_at, items_of}
use Rattle.glob_select.specs.Walking.{walk, ends_well, kept, first_walk}
use Rattle.glob_select.proofs.Items.{items-some, items-none}
use Rattle.glob_select.proofs.Stars.{StopsAtStar, walk-nothing, walk-star, walk-other, fits-star, fits-ends, first_walk-some, first_walk-none}

pub walk_goes_on : (text name : List ℕ) (p : Item × List ℕ) (rest : List ℕ) (total : Option (List Item × List ℕ)) → item_at text ≡ Some p → is_star p.0 ≡ false → taken p.0 name ≡ Some rest
    → walk (items_of text) name ≡ total → walk (items_of p.1) rest ≡ total
walk_goes_on text name p rest total e other takes so_far =
    sym (ap (λ (items : List Item). walk items name) (items-some text p e) ∙ walk-other p.0 (items_of p.1) name other ∙ ap (option_and_then (walk (items_of p.1))) takes) ∙ so_far

pub walk_breaks_off : (text name : List ℕ) (p : Item × List ℕ) (total : Option (List Item × List ℕ)) → item_at text ≡ Some p → is_star p.0 ≡ false → taken p.0 name ≡ None
    → walk (items_of text) name ≡ total → None ≡ total
walk_breaks_off text name p total e other takes so_far =
    sym (ap (λ (items : List Item). walk items name) (items-some text p e) ∙ walk-other p.0 (items_of p.1) name other ∙ ap (option_and_then (walk (items_of p.1))) takes) ∙ so_far

pub walk_at_star : (text name : List ℕ) (p : Item × List ℕ) (total : Option (List Item × List ℕ)) → item_at text ≡ Some p → is_star p.0 ≡ true
    → walk (items_of text) name ≡ total → Some (items_of text, name) ≡ total
walk_at_star text name p total e star so_far =
    subst (λ (items : List Item). Some (items, name) ≡ walk items name) (sym (items-some text p e)) (sym (walk-star p.0 (items_of p.1) name star)) ∙ so_far

pub walk_ends : (text name : List ℕ) (total : Option (List Item × List ℕ)) → item_at text ≡ None → walk (items_of text) name ≡ total → Some (items_of text, name) ≡ total
walk_ends text name total e so_far =
    subst (λ (items : List Item). Some (items, name) ≡ walk items name) (sym (items-none text e)) (sym (walk-nothing name)) ∙ so_far

pub kept_at_star : (text rest : List ℕ) (p : Item × List ℕ) → item_at text ≡ Some p → Some (items_of text, rest) ≡ ends_well (items_of text) rest
kept_at_star text rest p e = subst (λ (items : List Item). Some (items, rest) ≡ ends_well items rest) (sym (items-some text p e)) refl

pub kept_at_end : (text rest : List ℕ) → item_at text ≡ None → rest ≡ [] → Some (items_of text, rest) ≡ ends_well (items_of text) rest
kept_at_end text rest e empty =
    subst (λ (items : List Item). Some (items, rest) ≡ ends_well items rest) (sym (items-none text e)) (subst (λ (t : List ℕ). Some ([], t) ≡ ends_well [] t) (sym empty) refl)

pub empty_length : (text : List ℕ) → eqb (length text) 0 ≡ is_empty text
empty_length [] = refl
empty_length (byte ∷ text) = search rules

pub not_kept_before_end : (text rest : List ℕ) → item_at text ≡ None → eqb (length rest) 0 ≡ false → None ≡ ends_well (items_of text) rest
not_kept_before_end text rest e more = subst (λ (items : List Item). None ≡ ends_well items rest) (sym (items-none text e)) (there rest (sym (empty_length rest) ∙ more))
  where
    there : (rest : List ℕ) → is_empty rest ≡ false → None ≡ ends_well [] rest
    there [] h = absurd cc
    there (byte ∷ rest) h = refl

pub first_found : (items : List Item) (from : List ℕ) (p : List Item × List ℕ) (total : Option (List Item × List ℕ)) → kept (walk items from) ≡ Some p → first_walk items from ≡ total → Some p ≡ total
unfolding first_walk
first_found items [] p total e so_far = sym e ∙ so_far
first_found items (byte ∷ from) p total e so_far = sym (rw e refl) ∙ so_far

first_goes_on : (items : List Item) (byte : ℕ) (after : List ℕ) → kept (walk items (byte ∷ after)) ≡ None → first_walk items (byte ∷ after) ≡ first_walk items after
unfolding first_walk
first_goes_on items byte after e = rw e refl

pub first_moves : (items : List Item) (from : List ℕ) (byte : ℕ) (after : List ℕ) (total : Option (List Item × List ℕ)) → from ≡ byte ∷ after → kept (walk items from) ≡ None → first_walk items from ≡ total → first_walk items after ≡ total
first_moves items from byte after total is e so_far =
    sym (first_goes_on items byte after (subst (λ (t : List ℕ). kept (walk items t) ≡ None) is e)) ∙ sym (ap (first_walk items) is) ∙ so_far

first_of_nothing : (items : List Item) → first_walk items [] ≡ kept (walk items [])
unfolding first_walk
first_of_nothing items = refl

pub first_ends : (items : List Item) (from : List ℕ) (total : Option (List Item × List ℕ)) → length from ≡ 0 → first_walk items from ≡ total → kept (walk items from) ≡ total
first_ends items [] total empty so_far = sym (first_of_nothing items) ∙ so_far
first_ends items (byte ∷ from) total empty so_far = absurd (omega arith)

-- a star at the front of the text
at_star : (text : List ℕ) (p : Item × List ℕ) → item_at text ≡ Some p → StopsAtStar (items_of text) → fits (items_of text) ≡ passes_behind_some (fits (items_of p.1))
at_star text p e stops =
    ap fits (items-some text p e) ∙ fits-star p.0 (items_of p.1) (subst StopsAtStar (items-some text p e) stops)

pub fits_moves : (text name : List ℕ) (p : Item × List ℕ) (q : List Item × List ℕ) (total : Bool) → item_at text ≡ Some p → first_walk (items_of p.1) name ≡ Some q
    → (fits (items_of text) name ≡ total) × StopsAtStar (items_of text) → (fits q.0 q.1 ≡ total) × StopsAtStar q.0
fits_moves text name p q total e found so_far =
    let first = first_walk-some (items_of p.1) name q found in
    (sym first.same ∙ sym (ap (λ (f : List ℕ → Bool). f name) (at_star text p e so_far.1)) ∙ so_far.0, first.stops)

pub fits_nowhere : (text name : List ℕ) (p : Item × List ℕ) (total : Bool) → item_at text ≡ Some p → first_walk (items_of p.1) name ≡ None
    → (fits (items_of text) name ≡ total) × StopsAtStar (items_of text) → false ≡ total
fits_nowhere text name p total e none so_far =
    sym (first_walk-none (items_of p.1) name none) ∙ sym (ap (λ (f : List ℕ → Bool). f name) (at_star text p e so_far.1)) ∙ so_far.0

pub fits_ends : (text name : List ℕ) (total : Bool) → item_at text ≡ None → (fits (items_of text) name ≡ total) × StopsAtStar (items_of text) → is_empty name ≡ total
fits_ends text name total e so_far = sym (fits-ends name) ∙ sym (ap (λ (items : List Item). fits items name) (items-none text e)) ∙ so_far.0
