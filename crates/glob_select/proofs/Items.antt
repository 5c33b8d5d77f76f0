-- The items of an alternative are read as they are spelled.
use Rattle.std.proofs.Common.{◌≡◌, ◌≢◌, ℕ, ◌<◌, ◌≤◌, true, false, eqb, List, [], ◌∷◌, length, Option, Some, None, refl, sym, ap, subst, ◌∙◌, inl, inr, arith}
use Rattle.std.specs.Prelude.{option_map, IfSome}
use Rattle.std.specs.Borrow.{Bor}
use Rattle.glob_select.specs.declared.token.Token.{Token}
use Rattle.glob_select.specs.Tokens.{item_of}
use Rattle.std.proofs.lemmas.Bool.{cases_Bool, eqb-true, eq-eqb}
use Rattle.std.proofs.lemmas.Bool.Decides.{nat_tests}
use Rattle.text_scan.specs.Fronts.{stripped_of}
use Rattle.text_scan.specs.Lists.{ReadsAll}
use Rattle.text_scan.proofs.Steps.{cases_option, some_is}
use Rattle.text_scan.proofs.FixedText.{stripped-append, stripped-Some, stripped-None}
use Rattle.text_scan.proofs.Lists.{ReadsAll-length}
use Rattle.glob_select.specs.declared.member.Member.{Member}
use Rattle.glob_select.specs.Bytes.{is_name_byte}
use Rattle.glob_select.specs.Items.{Item}
use Rattle.glob_select.specs.Items.Item.{Exactly, Mark, Star, AnyByte, OneOf}
use Rattle.glob_select.specs.Spelling.{IsNameByte, mark_inside, SpellsMember, SpellsClass, SpellsItem}
use Rattle.glob_select.specs.Reading.{behind, member_at, members_of, after_members, class_at, bracket_at, item_at, items_of, after_items}
use Rattle.glob_select.proofs.Runs.{given, Shrinks, run-some, run-none, run_takes, run_again}
use Rattle.glob_select.proofs.Members.{member_shorter, members_take, members_again, members-some, members-none}

pub behind_takes : {X : Type 0} (close : ℕ) (x : X) (text : List ℕ) (p : X × List ℕ) → behind close x text ≡ Some p → (x ≡ p.0) × (text ≡ close ∷ p.1)
behind_takes close x [] p e = absurd cc
behind_takes {X} close x (byte ∷ rest) p e =
    elim (cases_Bool (eqb byte close)) [
      | inl here ↦
          let same : (x, rest) ≡ p = some_is _ _ (rw here at e) in
          (ap (λ (q : X × List ℕ). q.0) same, ap (λ (b : ℕ). b ∷ rest) (eqb-true byte close here) ∙ ap (λ (q : X × List ℕ). close ∷ q.1) same)
      | inr other ↦ absurd (let e' : None ≡ given p = rw other at e in cc)
    ]

pub behind_again : {X : Type 0} (close : ℕ) (x : X) (rest : List ℕ) → behind close x (close ∷ rest) ≡ Some (x, rest)
behind_again close x rest = rw (eq-eqb close close refl) refl

class_takes : (text : List ℕ) (p : Item × List ℕ) → stripped_of mark_inside text ≡ None → class_at text ≡ Some p → SpellsItem p.0 (91 ∷ text) p.1
unfolding class_at
class_takes text p no_mark e =
    elim (cases_option (member_at text)) [
      | inl none ↦ absurd (let e' : None ≡ given p = rw none at e in cc)
      | inr some ↦
          let parts = behind_takes 93 (OneOf (members_of text)) (after_members text) p (rw some.1 at e) in
          let class : SpellsClass (members_of text) (91 ∷ text) p.1 = record {
            inside = text;
            opens = refl;
            spelled = subst (λ (rest : List ℕ). ReadsAll SpellsMember (members_of text) text rest) parts.1 (members_take text);
            some = λ empty. let e1 : some.0.0 ∷ members_of some.0.1 ≡ [] = sym (members-some text some.0 some.1) ∙ empty in cc;
            no_mark = λ other is. let e2 : given other ≡ None = sym (ap (stripped_of mark_inside) is ∙ stripped-append mark_inside other) ∙ no_mark in cc;
          } in
          subst (λ (item : Item). SpellsItem item (91 ∷ text) p.1) parts.0 class
    ]

bracket_takes : (text : List ℕ) (p : Item × List ℕ) → bracket_at text ≡ Some p → SpellsItem p.0 (91 ∷ text) p.1
unfolding bracket_at
bracket_takes text p e =
    elim (cases_option (stripped_of mark_inside text)) [
      | inl none ↦ class_takes text p none (rw none at e)
      | inr some ↦
          let same : (Mark, some.0) ≡ p = some_is _ _ (rw some.1 at e) in
          subst (λ (q : Item × List ℕ). SpellsItem q.0 (91 ∷ text) q.1) same (ap (λ (t : List ℕ). 91 ∷ t) (stripped-Some mark_inside text some.0 some.1))
    ]

pub item_takes : (text : List ℕ) (p : Item × List ℕ) → item_at text ≡ Some p → SpellsItem p.0 text p.1
unfolding item_at
item_takes [] p e = absurd cc
item_takes (first ∷ rest) p e =
    elim (cases_Bool (eqb first 42)) [
      | inl star ↦
          let same : (Star, rest) ≡ p = some_is _ _ (rw star at e) in
          subst (λ (q : Item × List ℕ). SpellsItem q.0 (first ∷ rest) q.1) same (begins 42 star)
      | inr no_star ↦ elim (cases_Bool (eqb first 63)) [
        | inl any ↦
            let same : (AnyByte, rest) ≡ p = some_is _ _ (rw (no_star, any) at e) in
            subst (λ (q : Item × List ℕ). SpellsItem q.0 (first ∷ rest) q.1) same (begins 63 any)
        | inr no_any ↦ elim (cases_Bool (eqb first 91)) [
          | inl bracket ↦
              subst (λ (t : List ℕ). SpellsItem p.0 t p.1) (sym (begins 91 bracket)) (bracket_takes rest p (rw (no_star, no_any, bracket) at e))
          | inr no_bracket ↦ elim (cases_Bool (is_name_byte first)) [
            | inl named ↦
                let same : (Exactly first, rest) ≡ p = some_is _ _ (rw (no_star, no_any, no_bracket, named) at e) in
                subst (λ (q : Item × List ℕ). SpellsItem q.0 (first ∷ rest) q.1) same (named, refl)
            | inr other ↦ absurd (let e' : None ≡ given p = rw (no_star, no_any, no_bracket, other) at e in cc)
          ]
        ]
      ]
    ]
  where
    begins : (byte : ℕ) → eqb first byte ≡ true → first ∷ rest ≡ byte ∷ rest
    begins byte is = ap (λ (b : ℕ). b ∷ rest) (eqb-true first byte is)

pub item_shorter : (item : Item) (text rest : List ℕ) → SpellsItem item text rest → length rest < length text
item_shorter (Exactly byte) text rest spelled = omega (arith, ap length spelled.1)
item_shorter Mark text rest spelled = omega (arith, ap length spelled)
item_shorter Star text rest spelled = omega (arith, ap length spelled)
item_shorter AnyByte text rest spelled = omega (arith, ap length spelled)
item_shorter (OneOf members) text rest spelled =
    omega (arith, ap length spelled.opens, ReadsAll-length SpellsMember member_no_longer members spelled.inside (93 ∷ rest) spelled.spelled)
  where
    member_no_longer : (member : Member) (text rest : List ℕ) → SpellsMember member text rest → length rest ≤ length text
    member_no_longer member text rest one = omega (arith, member_shorter member text rest one)

pub item_shrinks : Shrinks item_at
item_shrinks text p e = item_shorter p.0 text p.1 (item_takes text p e)

named_no_star : (byte : ℕ) → IsNameByte byte → eqb byte 42 ≡ false
named_no_star byte h = grind (arith, nat_tests, h)

named_no_any : (byte : ℕ) → IsNameByte byte → eqb byte 63 ≡ false
named_no_any byte h = grind (arith, nat_tests, h)

named_no_bracket : (byte : ℕ) → IsNameByte byte → eqb byte 91 ≡ false
named_no_bracket byte h = grind (arith, nat_tests, h)

class_again : (members : List Member) (inside rest : List ℕ) → ReadsAll SpellsMember members inside (93 ∷ rest) → members ≢ [] → class_at inside ≡ Some (OneOf members, rest)
unfolding class_at
class_again members inside rest spelled some =
    let both = members_again members inside rest spelled in
    elim (cases_option (member_at inside)) [
      | inl none ↦ absurd (some (sym both.0 ∙ members-none inside none))
      | inr first ↦ rw (first.1, both.0, both.1) refl
    ]

pub item_again : (item : Item) (text rest : List ℕ) → SpellsItem item text rest → item_at text ≡ Some (item, rest)
unfolding item_at bracket_at
item_again (Exactly byte) text rest spelled =
    rw (spelled.1, named_no_star byte spelled.0, named_no_any byte spelled.0, named_no_bracket byte spelled.0, spelled.0) refl
item_again Mark text rest spelled = rw (spelled, stripped-append mark_inside rest) refl
item_again Star text rest spelled = rw spelled refl
item_again AnyByte text rest spelled = rw spelled refl
item_again (OneOf members) text rest spelled =
    rw (spelled.opens, stripped-None mark_inside spelled.inside spelled.no_mark, class_again members spelled.inside rest spelled.spelled spelled.some) refl

pub items_take : (text : List ℕ) → ReadsAll SpellsItem (items_of text) text (after_items text)
unfolding items_of after_items
items_take text = run_takes item_at SpellsItem item_takes text

pub items_again : (items : List Item) (text rest : List ℕ) → ReadsAll SpellsItem items text rest → item_at rest ≡ None
    → (items_of text ≡ items) × (after_items text ≡ rest)
unfolding items_of after_items
items_again items text rest all stop =
    let e = run_again item_at SpellsItem (λ _. Unit {0}) item_shrinks (λ x t r _. tt) (λ x t r one _. item_again x t r one) items text rest all tt stop in
    (ap (λ (r : List Item × List ℕ). r.0) e, ap (λ (r : List Item × List ℕ). r.1) e)

pub after_items-some : (text : List ℕ) (p : Item × List ℕ) → item_at text ≡ Some p → after_items text ≡ after_items p.1
unfolding after_items
after_items-some text p e = ap (λ (r : List Item × List ℕ). r.1) (run-some item_at item_shrinks text p e)

pub after_items-none : (text : List ℕ) → item_at text ≡ None → after_items text ≡ text
unfolding after_items
after_items-none text e = ap (λ (r : List Item × List ℕ). r.1) (run-none item_at item_shrinks text e)

pub items-some : (text : List ℕ) (p : Item × List ℕ) → item_at text ≡ Some p → items_of text ≡ p.0 ∷ items_of p.1
unfolding items_of
items-some text p e = ap (λ (r : List Item × List ℕ). r.0) (run-some item_at item_shrinks text p e)

pub items-none : (text : List ℕ) → item_at text ≡ None → items_of text ≡ []
unfolding items_of
items-none text e = ap (λ (r : List Item × List ℕ). r.0) (run-none item_at item_shrinks text e)

pub class_no_longer : (text : List ℕ) (p : Item × List ℕ) → stripped_of mark_inside text ≡ None → class_at text ≡ Some p → length p.1 ≤ length text
class_no_longer text p no_mark e = omega (arith, item_shorter p.0 (91 ∷ text) p.1 (class_takes text p no_mark e))

pub class_shorter : (text : List ℕ) (o : Option (Token × Bor (List ℕ))) → stripped_of mark_inside text ≡ None → option_map (λ p. (item_of p.0, p.1.now)) o ≡ class_at text → IfSome o (λ p. length p.1.now ≤ length text)
class_shorter text None no_mark e = tt
class_shorter text (Some p) no_mark e = class_no_longer text (item_of p.0, p.1.now) no_mark (sym e)
