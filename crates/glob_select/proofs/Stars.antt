-- Matching without going back: the first place at which the items before a star fit leaves the most of the name.
use Rattle.std.proofs.Common.{◌≡◌, ℕ, zero, suc, ◌+◌, Bool, true, false, ◌||◌, List, [], ◌∷◌, drop, Option, Some, None, refl, sym, ap, subst, ◌∙◌, inl, inr, arith}
use Rattle.std.specs.Prelude.{option_and_then}
use Rattle.std.specs.Option.{option_map_or}
use Rattle.std.proofs.lemmas.Bool.{cases_Bool, or_cases, or_left, or_right}
use Rattle.std.proofs.lemmas.List.{drop-drop}
use Rattle.std.proofs.Math.Seq.{drop-nil, drop-append_seam}
use Rattle.text_scan.proofs.Steps.{cases_option, some_is}
use Rattle.text_scan.proofs.FixedText.{stripped-Some}
use Rattle.glob_select.proofs.Runs.{given}
use Rattle.glob_select.specs.Items.{Item}
use Rattle.glob_select.specs.Items.Item.{Exactly, Mark, Star, AnyByte, OneOf}
use Rattle.glob_select.specs.Matching.{is_star, stands_for, after_first, mark_text, taken, passes_behind_some, is_empty, fits}
use Rattle.glob_select.specs.Walking.{walk, ends_well, kept, first_walk}

-- an alternative that begins with a star matches where its rest matches the name, or it matches the name without its first byte
star_by_bytes : (items : List Item) (byte : ℕ) (name : List ℕ) → fits (Star ∷ items) (byte ∷ name) ≡ (fits items (byte ∷ name) || fits (Star ∷ items) name)
unfolding fits passes_behind_some
star_by_bytes items byte name = refl

-- the items end, or go on with a star
abbrev pub StopsAtStar : List Item → Type 0
StopsAtStar [] = Unit {0}
StopsAtStar (item ∷ items) = is_star item ≡ true

-- a test that passes behind some bytes passes behind a number of them
place_of : (test : List ℕ → Bool) (name : List ℕ) → passes_behind_some test name ≡ true → (k : ℕ) × (test (drop k name) ≡ true)
unfolding passes_behind_some
place_of test [] e = (0, e)
place_of test (byte ∷ name) e =
    elim (or_cases (test (byte ∷ name)) (passes_behind_some test name) e) [
      | inl here ↦ (0, here)
      | inr later ↦ let place = place_of test name later in (suc place.0, place.1)
    ]

from_place : (test : List ℕ → Bool) (name : List ℕ) (k : ℕ) → test (drop k name) ≡ true → passes_behind_some test name ≡ true
unfolding passes_behind_some
from_place test [] k e = sym (ap test (drop-nil k)) ∙ e
from_place test (byte ∷ name) zero e = or_left (test (byte ∷ name)) (passes_behind_some test name) e
from_place test (byte ∷ name) (suc k) e = or_right (test (byte ∷ name)) (passes_behind_some test name) (from_place test name k e)

-- how many bytes an item stands for
abbrev width : Item → ℕ
width (Exactly byte) = 1
width Mark = 4
width Star = 0
width AnyByte = 1
width (OneOf members) = 1

first_drops : (item : Item) (name rest : List ℕ) → after_first item name ≡ Some rest → rest ≡ drop 1 name
first_drops item [] rest e = absurd cc
first_drops item (byte ∷ name) rest e =
    elim (cases_Bool (stands_for item byte)) [
      | inl stands ↦ sym (some_is name rest (rw stands at e))
      | inr other ↦ absurd (let e' : None ≡ given rest = rw other at e in cc)
    ]

taken-drop : (item : Item) (name rest : List ℕ) → taken item name ≡ Some rest → rest ≡ drop (width item) name
unfolding taken
taken-drop (Exactly byte) name rest e = first_drops (Exactly byte) name rest e
taken-drop Mark name rest e = sym (ap (drop 4) (stripped-Some mark_text name rest e) ∙ drop-append_seam mark_text rest)
taken-drop Star name rest e = absurd cc
taken-drop AnyByte name rest e = first_drops AnyByte name rest e
taken-drop (OneOf members) name rest e = first_drops (OneOf members) name rest e

map_or_true : (test : List ℕ → Bool) (o : Option (List ℕ)) → option_map_or test o false ≡ true → (x : List ℕ) × (o ≡ Some x) × (test x ≡ true)
map_or_true test None e = absurd cc
map_or_true test (Some x) e = (x, refl, e)

-- Where an item has taken its bytes, all later places of the item lie behind them.
shifted : (item : Item) (test : List ℕ → Bool) (name rest : List ℕ) → taken item name ≡ Some rest
    → passes_behind_some (λ n. option_map_or test (taken item n) false) name ≡ true → passes_behind_some test rest ≡ true
shifted item test name rest takes e =
    let place = place_of (λ n. option_map_or test (taken item n) false) name e in
    let there = map_or_true test (taken item (drop place.0 name)) place.1 in
    let same : there.0 ≡ drop place.0 rest =
    taken-drop item (drop place.0 name) there.0 there.1
    ∙ drop-drop (width item) place.0 name
    ∙ ap (λ (n : ℕ). drop n name) {x = place.0 + width item} {y = width item + place.0} (omega arith)
    ∙ sym (drop-drop place.0 (width item) name)
    ∙ ap (drop place.0) (sym (taken-drop item name rest takes)) in
    from_place test rest place.0 (sym (ap test same) ∙ there.2)

twice : (test : List ℕ → Bool) (name : List ℕ) → passes_behind_some (passes_behind_some test) name ≡ true → passes_behind_some test name ≡ true
twice test name e =
    let outer = place_of (passes_behind_some test) name e in
    let inner = place_of test (drop outer.0 name) outer.1 in
    from_place test name (outer.0 + inner.0) (sym (ap test (drop-drop inner.0 outer.0 name)) ∙ inner.1)

pub fits-star : (item : Item) (items : List Item) → is_star item ≡ true → fits (item ∷ items) ≡ passes_behind_some (fits items)
unfolding fits
fits-star (Exactly byte) items e = absurd cc
fits-star Mark items e = absurd cc
fits-star Star items e = refl
fits-star AnyByte items e = absurd cc
fits-star (OneOf members) items e = absurd cc

abbrev by_taking : Item → List Item → List ℕ → Bool
by_taking item items = λ name. option_map_or (fits items) (taken item name) false

fits-other : (item : Item) (items : List Item) → is_star item ≡ false → fits (item ∷ items) ≡ by_taking item items
unfolding fits
fits-other (Exactly byte) items e = refl
fits-other Mark items e = refl
fits-other Star items e = absurd cc
fits-other AnyByte items e = refl
fits-other (OneOf members) items e = refl

pub walk-other : (item : Item) (items : List Item) (name : List ℕ) → is_star item ≡ false → walk (item ∷ items) name ≡ option_and_then (walk items) (taken item name)
unfolding walk
walk-other item items name other = rw other refl

pub walk-nothing : (name : List ℕ) → walk [] name ≡ Some ([], name)
unfolding walk
walk-nothing name = refl

pub walk-star : (item : Item) (items : List Item) (name : List ℕ) → is_star item ≡ true → walk (item ∷ items) name ≡ Some (item ∷ items, name)
unfolding walk
walk-star item items name star = rw star refl

pub walk-none : (items : List Item) (name : List ℕ) → walk items name ≡ None → fits items name ≡ false
walk-none [] name e = absurd (let e' : given ([], name) ≡ None = sym (walk-nothing name) ∙ e in cc)
walk-none (item ∷ items) name e =
    elim (cases_Bool (is_star item)) [
      | inl star ↦ absurd (let e' : given (item ∷ items, name) ≡ None = sym (walk-star item items name star) ∙ e in cc)
      | inr other ↦ elim (cases_option (taken item name)) [
        | inl none ↦ ap (λ (f : List ℕ → Bool). f name) (fits-other item items other) ∙ rw none refl
        | inr some ↦ ap (λ (f : List ℕ → Bool). f name) (fits-other item items other) ∙ rw some.1 (walk-none items some.0 (rw some.1 at (sym (walk-other item items name other) ∙ e)))
      ]
    ]

-- what a walk says: the items left fit what is left exactly where the items fit the name
pub record IsWalked (items : List Item) (name : List ℕ) (left : List Item) (rest : List ℕ) : Type 0 where
  pub same : fits items name ≡ fits left rest
  pub stops : StopsAtStar left
  pub behind : (star : Item) (more : List Item) → left ≡ star ∷ more → passes_behind_some (fits items) name ≡ true → fits left rest ≡ true

pub walk-some : (items : List Item) (name : List ℕ) (p : List Item × List ℕ) → walk items name ≡ Some p → IsWalked items name p.0 p.1
walk-some [] name p e =
    subst (λ (q : List Item × List ℕ). IsWalked [] name q.0 q.1) (some_is ([], name) p (sym (walk-nothing name) ∙ e))
    (record { same = refl; stops = tt; behind = λ star more is. absurd (let e' : [] ≡ star ∷ more = is in cc) })
walk-some (item ∷ items) name p e =
    elim (cases_Bool (is_star item)) [
      | inl star ↦
          subst (λ (q : List Item × List ℕ). IsWalked (item ∷ items) name q.0 q.1) (some_is (item ∷ items, name) p (sym (walk-star item items name star) ∙ e))
          (record {
            same = refl;
            stops = star;
            behind = λ _ _ _ passes.
                rw (fits-star item items star) (twice (fits items) name (rw (fits-star item items star) at passes));
          })
      | inr other ↦ elim (cases_option (taken item name)) [
        | inl none ↦ absurd (let e' : None ≡ given p = rw none at (sym (walk-other item items name other) ∙ e) in cc)
        | inr some ↦
            let is = walk-some items some.0 p (rw some.1 at (sym (walk-other item items name other) ∙ e)) in
            record {
              same = ap (λ (f : List ℕ → Bool). f name) (fits-other item items other) ∙ rw some.1 is.same;
              stops = is.stops;
              behind = λ star more left passes.
                  is.behind star more left (shifted item (fits items) name some.0 some.1
                  (subst (λ (f : List ℕ → Bool). passes_behind_some f name ≡ true) (fits-other item items other) passes));
            }
      ]
    ]

-- what the first walk that ends well says
pub record IsFirst (items : List Item) (name : List ℕ) (left : List Item) (rest : List ℕ) : Type 0 where
  pub same : passes_behind_some (fits items) name ≡ fits left rest
  pub stops : StopsAtStar left

well_ended : (left : List Item) (rest : List ℕ) (p : List Item × List ℕ) → ends_well left rest ≡ Some p → (left, rest) ≡ p
well_ended [] [] p e = some_is ([], []) p e
well_ended [] (byte ∷ rest) p e = absurd cc
well_ended (item ∷ items) rest p e = some_is (item ∷ items, rest) p e

pub fits-ends : (rest : List ℕ) → fits [] rest ≡ is_empty rest
unfolding fits
fits-ends rest = refl

ill_ended : (left : List Item) (rest : List ℕ) → ends_well left rest ≡ None → fits left rest ≡ false
ill_ended [] [] e = absurd cc
ill_ended [] (byte ∷ rest) e = fits-ends (byte ∷ rest)
ill_ended (item ∷ items) rest e = absurd (let e' : given (item ∷ items, rest) ≡ None = e in cc)

not_kept : (items : List Item) (name : List ℕ) → kept (walk items name) ≡ None → fits items name ≡ false
not_kept items name e =
    elim (cases_option (walk items name)) [
      | inl none ↦ walk-none items name none
      | inr some ↦ (walk-some items name some.0 some.1).same ∙ ill_ended some.0.0 some.0.1 (rw some.1 at e)
    ]

-- a walk that ends well, and what fits behind it
pub record IsKept (items : List Item) (name : List ℕ) (left : List Item) (rest : List ℕ) : Type 0 where
  pub same : fits items name ≡ fits left rest
  pub stops : StopsAtStar left
  pub behind : passes_behind_some (fits items) name ≡ true → fits left rest ≡ true

fits_well : (left : List Item) (rest : List ℕ) (items : List Item) (name : List ℕ) → IsWalked items name left rest → (p : List Item × List ℕ) → ends_well left rest ≡ Some p → IsKept items name left rest
fits_well [] [] items name is p e = record { same = is.same; stops = is.stops; behind = λ _. fits-ends [] }
fits_well [] (byte ∷ rest) items name is p e = absurd cc
fits_well (item ∷ more) rest items name is p e = record { same = is.same; stops = is.stops; behind = is.behind item more refl }

is_kept : (items : List Item) (name : List ℕ) (p : List Item × List ℕ) → kept (walk items name) ≡ Some p → IsKept items name p.0 p.1
is_kept items name p e =
    elim (cases_option (walk items name)) [
      | inl none ↦ absurd (let e' : None ≡ given p = rw none at e in cc)
      | inr some ↦
          let e' = rw some.1 at e in
          subst (λ (q : List Item × List ℕ). IsKept items name q.0 q.1) (well_ended some.0.0 some.0.1 p e')
          (fits_well some.0.0 some.0.1 items name (walk-some items name some.0 some.1) p e')
    ]

true_or : (a b c : Bool) → a ≡ c → ((a || b) ≡ true → c ≡ true) → (a || b) ≡ c
true_or true b c e h = e
true_or false true c e h = sym (h refl)
true_or false false c e h = e

first_kept : (items : List Item) (name : List ℕ) (left : List Item) (rest : List ℕ) → IsKept items name left rest → IsFirst items name left rest
unfolding passes_behind_some
first_kept items [] left rest is = record { same = is.same; stops = is.stops }
first_kept items (byte ∷ name) left rest is = record {
  same = true_or (fits items (byte ∷ name)) (passes_behind_some (fits items) name) (fits left rest) is.same is.behind;
  stops = is.stops;
}

pub first_walk-some : (items : List Item) (name : List ℕ) (p : List Item × List ℕ) → first_walk items name ≡ Some p → IsFirst items name p.0 p.1
unfolding first_walk passes_behind_some
first_walk-some items [] p e = first_kept items [] p.0 p.1 (is_kept items [] p e)
first_walk-some items (byte ∷ name) p e =
    elim (cases_option (kept (walk items (byte ∷ name)))) [
      | inl none ↦
          let later = first_walk-some items name p (rw none at e) in
          record {
            same = ap (λ (b : Bool). b || passes_behind_some (fits items) name) (not_kept items (byte ∷ name) none) ∙ later.same;
            stops = later.stops;
          }
      | inr some ↦
          subst (λ (q : List Item × List ℕ). IsFirst items (byte ∷ name) q.0 q.1) (some_is some.0 p (rw some.1 at e))
          (first_kept items (byte ∷ name) some.0.0 some.0.1 (is_kept items (byte ∷ name) some.0 some.1))
    ]

pub first_walk-none : (items : List Item) (name : List ℕ) → first_walk items name ≡ None → passes_behind_some (fits items) name ≡ false
unfolding first_walk passes_behind_some
first_walk-none items [] e = not_kept items [] e
first_walk-none items (byte ∷ name) e =
    elim (cases_option (kept (walk items (byte ∷ name)))) [
      | inl none ↦ rw (not_kept items (byte ∷ name) none) (first_walk-none items name (rw none at e))
      | inr some ↦ absurd (let e' : given some.0 ≡ None = rw some.1 at e in cc)
    ]
