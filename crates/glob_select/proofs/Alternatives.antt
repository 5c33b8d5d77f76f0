-- Alternatives, and the pattern that they make, are read as they are spelled.
use Rattle.std.proofs.Common.{◌≡◌, ◌≢◌, ℕ, ◌<◌, ◌≤◌, Bool, true, false, eqb, ◌||◌, List, [], ◌∷◌, ◌++◌, length, Some, None, refl, sym, ap, subst, ◌∙◌, inl, inr, arith}
use Rattle.std.specs.Prelude.{is_some}
use Rattle.std.specs.List.{list_all}
use Rattle.std.proofs.lemmas.Bool.{cases_Bool, eqb-true, and_parts, or_left}
use Rattle.std.proofs.lemmas.Bool.Decides.{nat_tests}
use Rattle.std.proofs.lemmas.List.{length-append}
use Rattle.text_scan.specs.Fronts.{front_of, rest_of, StopsAt}
use Rattle.text_scan.specs.Lists.{ReadsAll}
use Rattle.text_scan.proofs.Steps.{cases_option}
use Rattle.text_scan.proofs.Fronts.{front-rest, front_passes, rest-append, length-rest}
use Rattle.text_scan.proofs.Lists.{ReadsAll-length}
use Rattle.glob_select.specs.Bytes.{is_space, AreSpaces, after_spaces}
use Rattle.glob_select.specs.Items.{Item}
use Rattle.glob_select.specs.Items.Item.{Exactly, Mark, Star, AnyByte, OneOf}
use Rattle.glob_select.specs.Matching.{is_empty, fits, matches}
use Rattle.glob_select.specs.Spelling.{IsNameByte, SpellsItem, SpellsAlternative, SpellsLed, SpellsPattern}
use Rattle.glob_select.specs.Reading.{item_at, items_of, after_items, first_items, left_over, run, led_at, after_led, is_last, alternatives_of}
use Rattle.glob_select.proofs.Runs.{given, Shrinks, run-some, run-none, run_takes, run_again}
use Rattle.glob_select.proofs.Items.{behind_takes, behind_again, items_take, items_again, item_shorter, items-some, items-none}

alternative_takes : (text rest : List ℕ) → is_some (item_at (after_spaces text)) ≡ true → left_over text ≡ rest → SpellsAlternative (first_items text) text rest
unfolding after_spaces left_over
alternative_takes text rest starts left =
    elim (cases_option (item_at (rest_of is_space text))) [
      | inl none ↦ absurd (let e : false ≡ true = rw none at starts in cc)
      | inr some ↦ record {
        before = front_of is_space text;
        after = front_of is_space (after_items (rest_of is_space text));
        middle = rest_of is_space text;
        before_spaces = front_passes is_space text;
        after_spaces = front_passes is_space (after_items (rest_of is_space text));
        opens = sym (front-rest is_space text);
        spelled = subst (λ (t : List ℕ). ReadsAll SpellsItem (items_of (rest_of is_space text)) (rest_of is_space text) t)
            (sym (front-rest is_space (after_items (rest_of is_space text))) ∙ ap (λ (t : List ℕ). front_of is_space (after_items (rest_of is_space text)) ++ t) left)
            (items_take (rest_of is_space text));
        some = λ empty. let e : some.0.0 ∷ items_of some.0.1 ≡ [] = sym (items-some (rest_of is_space text) some.0 some.1) ∙ empty in cc;
      }
    ]

named_no_space : (byte : ℕ) → IsNameByte byte → eqb byte 32 ≡ false
named_no_space byte h = grind (arith, nat_tests, h)

item_no_space : (item : Item) (text rest : List ℕ) → SpellsItem item text rest → StopsAt is_space text
item_no_space (Exactly byte) text rest spelled = subst (StopsAt is_space) (sym spelled.1) (named_no_space byte spelled.0)
item_no_space Mark text rest spelled = subst (StopsAt is_space) (sym spelled) refl
item_no_space Star text rest spelled = subst (StopsAt is_space) (sym spelled) refl
item_no_space AnyByte text rest spelled = subst (StopsAt is_space) (sym spelled) refl
item_no_space (OneOf members) text rest spelled = subst (StopsAt is_space) (sym spelled.opens) refl

items_no_space : (items : List Item) (text rest : List ℕ) → items ≢ [] → ReadsAll SpellsItem items text rest → StopsAt is_space text
items_no_space [] text rest some all = absurd (some refl)
items_no_space (item ∷ items) text rest some all = item_no_space item text all.0 all.1

space_no_item : (rest : List ℕ) → item_at (32 ∷ rest) ≡ None
unfolding item_at
space_no_item rest = refl

no_item : (after rest : List ℕ) → AreSpaces after → item_at rest ≡ None → item_at (after ++ rest) ≡ None
no_item [] rest spaces none = none
no_item (byte ∷ after) rest spaces none =
    let parts = and_parts (is_space byte) (list_all is_space after) spaces in
    ap (λ (b : ℕ). item_at (b ∷ (after ++ rest))) (eqb-true byte 32 parts.0) ∙ space_no_item (after ++ rest)

-- what is read of an alternative
record IsRead (items : List Item) (text rest : List ℕ) : Type 0 where
  pub starts : is_some (item_at (after_spaces text)) ≡ true
  pub items_are : first_items text ≡ items
  pub left : left_over text ≡ rest

is_there : (items : List Item) (text : List ℕ) → items_of text ≡ items → items ≢ [] → is_some (item_at text) ≡ true
is_there items text are some =
    elim (cases_option (item_at text)) [
      | inl none ↦ absurd (some (sym are ∙ items-none text none))
      | inr first ↦ rw first.1 refl
    ]

alternative_again : (items : List Item) (text rest : List ℕ) → SpellsAlternative items text rest → StopsAt is_space rest → item_at rest ≡ None → IsRead items text rest
unfolding after_spaces left_over
alternative_again items text rest spelled stops none =
    let clean : rest_of is_space text ≡ spelled.middle =
    ap (rest_of is_space) spelled.opens
    ∙ rest-append is_space spelled.before spelled.middle spelled.before_spaces (items_no_space items spelled.middle (spelled.after ++ rest) spelled.some spelled.spelled) in
    let both = items_again items spelled.middle (spelled.after ++ rest) spelled.spelled (no_item spelled.after rest spelled.after_spaces none) in
    record {
      starts = ap (λ (t : List ℕ). is_some (item_at t)) clean ∙ is_there items spelled.middle both.0 spelled.some;
      items_are = ap items_of clean ∙ both.0;
      left = ap (λ (t : List ℕ). rest_of is_space (after_items t)) clean ∙ ap (rest_of is_space) both.1 ∙ rest-append is_space spelled.after rest spelled.after_spaces stops;
    }

comma_no_item : (rest : List ℕ) → item_at (44 ∷ rest) ≡ None
unfolding item_at
comma_no_item rest = refl

nothing_no_item : item_at [] ≡ None
unfolding item_at
nothing_no_item = refl

pub led_takes : (text : List ℕ) (p : List Item × List ℕ) → led_at text ≡ Some p → SpellsLed p.0 text p.1
unfolding led_at
led_takes text p e =
    elim (cases_Bool (is_some (item_at (after_spaces text)))) [
      | inl starts ↦
          let parts = behind_takes 44 (first_items text) (left_over text) p (rw starts at e) in
          subst (λ (items : List Item). SpellsLed items text p.1) parts.0 (alternative_takes text (44 ∷ p.1) starts parts.1)
      | inr other ↦ absurd (let e' : None ≡ given p = rw other at e in cc)
    ]

item_no_longer : (item : Item) (text rest : List ℕ) → SpellsItem item text rest → length rest ≤ length text
item_no_longer item text rest spelled = omega (arith, item_shorter item text rest spelled)

led_shorter : (items : List Item) (text rest : List ℕ) → SpellsLed items text rest → length rest < length text
led_shorter items text rest spelled =
    omega (
      arith,
      ap length spelled.opens,
      length-append spelled.before spelled.middle,
      length-append spelled.after (44 ∷ rest),
      ReadsAll-length SpellsItem item_no_longer items spelled.middle (spelled.after ++ (44 ∷ rest)) spelled.spelled,
    )

pub led_shrinks : Shrinks led_at
led_shrinks text p e = led_shorter p.0 text p.1 (led_takes text p e)

led_again : (items : List Item) (text rest : List ℕ) → SpellsLed items text rest → led_at text ≡ Some (items, rest)
unfolding led_at
led_again items text rest spelled =
    let is = alternative_again items text (44 ∷ rest) spelled refl (comma_no_item rest) in
    rw (is.starts, is.left) (behind_again 44 (first_items text) rest ∙ ap (λ (i : List Item). given (i, rest)) is.items_are)

last_not_led : (items : List Item) (text : List ℕ) → SpellsAlternative items text [] → led_at text ≡ None
unfolding led_at
last_not_led items text spelled =
    let is = alternative_again items text [] spelled tt nothing_no_item in
    rw (is.starts, is.left) refl

empty_is : (text : List ℕ) → is_empty text ≡ true → text ≡ []
empty_is [] e = refl
empty_is (byte ∷ text) e = absurd cc

-- where what follows the alternatives with commas is one alternative, the text spells a pattern
pub pattern_takes : (text : List ℕ) → is_last (after_led text) ≡ true → SpellsPattern (alternatives_of text) text
unfolding is_last after_led alternatives_of
pattern_takes text last =
    let parts = and_parts (is_some (item_at (after_spaces (run led_at text).1))) (is_empty (left_over (run led_at text).1)) last in
    record {
      led = (run led_at text).0;
      last = first_items (run led_at text).1;
      rest = (run led_at text).1;
      whole = refl;
      leading = run_takes led_at SpellsLed led_takes text;
      closing = alternative_takes (run led_at text).1 [] parts.0 (empty_is _ parts.1);
    }

after_run : (text : List ℕ) (p : List (List Item) × List ℕ) → run led_at text ≡ p → after_led text ≡ p.1
unfolding after_led
after_run text p e = ap (λ (r : List (List Item) × List ℕ). r.1) e

pub after_led-some : (text : List ℕ) (p : List Item × List ℕ) → led_at text ≡ Some p → after_led text ≡ after_led p.1
unfolding after_led
after_led-some text p e = ap (λ (r : List (List Item) × List ℕ). r.1) (run-some led_at led_shrinks text p e)

pub after_led-none : (text : List ℕ) → led_at text ≡ None → after_led text ≡ text
after_led-none text e = after_run text ([], text) (run-none led_at led_shrinks text e)

last_read : (items : List Item) (text : List ℕ) → IsRead items text [] → is_last text ≡ true
unfolding is_last
last_read items text is = rw (is.starts, is.left) refl

-- a text that spells a pattern is read as that
pub pattern_again : (alternatives : List (List Item)) (text : List ℕ) → SpellsPattern alternatives text
    → (is_last (after_led text) ≡ true) × (alternatives ≡ alternatives_of text)
unfolding alternatives_of
pattern_again alternatives text spelled =
    let all = run_again led_at SpellsLed (λ _. Unit {0}) led_shrinks (λ x t r _. tt) (λ x t r one _. led_again x t r one)
    spelled.led text spelled.rest spelled.leading tt (last_not_led spelled.last spelled.rest spelled.closing) in
    let after = after_run text (spelled.led, spelled.rest) all in
    let is = alternative_again spelled.last spelled.rest [] spelled.closing tt nothing_no_item in (
      ap is_last after ∙ last_read spelled.last spelled.rest is,
      spelled.whole ∙ ap (λ (i : List Item). spelled.led ++ (i ∷ [])) (sym is.items_are)
          ∙ sym (ap (λ (r : List (List Item) × List ℕ). r.0 ++ (first_items (after_led text) ∷ [])) all ∙ ap (λ (t : List ℕ). spelled.led ++ (first_items t ∷ [])) after),
    )

pub refused : (text : List ℕ) → is_last (after_led text) ≡ false → (alternatives : List (List Item)) → SpellsPattern alternatives text → ⊥
refused text other alternatives spelled = let e : true ≡ false = sym (pattern_again alternatives text spelled).0 ∙ other in cc

-- the alternatives by the first one
pub alternatives-some : (text : List ℕ) (p : List Item × List ℕ) → led_at text ≡ Some p → alternatives_of text ≡ p.0 ∷ alternatives_of p.1
unfolding alternatives_of
alternatives-some text p e =
    ap (λ (r : List (List Item) × List ℕ). r.0 ++ (first_items (after_led text) ∷ [])) (run-some led_at led_shrinks text p e)
    ∙ ap (λ (t : List ℕ). (p.0 ∷ (run led_at p.1).0) ++ (first_items t ∷ [])) (after_led-some text p e)

pub alternatives-none : (text : List ℕ) → led_at text ≡ None → alternatives_of text ≡ first_items text ∷ []
unfolding alternatives_of
alternatives-none text e =
    ap (λ (r : List (List Item) × List ℕ). r.0 ++ (first_items (after_led text) ∷ [])) (run-none led_at led_shrinks text e)
    ∙ ap (λ (t : List ℕ). first_items t ∷ []) (after_led-none text e)

pub left_no_longer : (text : List ℕ) → length (left_over text) ≤ length text
unfolding left_over after_spaces
left_no_longer text =
    omega (
      arith,
      length-rest is_space text,
      length-rest is_space (after_items (rest_of is_space text)),
      ReadsAll-length SpellsItem item_no_longer (items_of (rest_of is_space text)) (rest_of is_space text) (after_items (rest_of is_space text)) (items_take (rest_of is_space text)),
    )

-- whether an alternative matches, step by step
pub matches_found : (name text : List ℕ) (p : List Item × List ℕ) (total : Bool) → led_at text ≡ Some p → fits p.0 name ≡ true → matches (alternatives_of text) name ≡ total → true ≡ total
matches_found name text p total e h so_far =
    sym (or_left (fits p.0 name) (matches (alternatives_of p.1) name) h) ∙ sym (ap (λ (all : List (List Item)). matches all name) (alternatives-some text p e)) ∙ so_far

pub matches_goes_on : (name text : List ℕ) (p : List Item × List ℕ) (total : Bool) → led_at text ≡ Some p → fits p.0 name ≡ false → matches (alternatives_of text) name ≡ total → matches (alternatives_of p.1) name ≡ total
matches_goes_on name text p total e h so_far =
    sym (ap (λ (all : List (List Item)). matches all name) (alternatives-some text p e) ∙ ap (λ (b : Bool). b || matches (alternatives_of p.1) name) h) ∙ so_far

pub matches_ends : (name text : List ℕ) (total : Bool) → led_at text ≡ None → matches (alternatives_of text) name ≡ total → fits (first_items text) name ≡ total
matches_ends name text total e so_far =
    sym (alone (fits (first_items text) name)) ∙ sym (ap (λ (all : List (List Item)). matches all name) (alternatives-none text e)) ∙ so_far
  where
    alone : (b : Bool) → (b || false) ≡ b
    alone true = refl
    alone false = refl
