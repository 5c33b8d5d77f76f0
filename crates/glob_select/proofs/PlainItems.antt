-- Items one after the other, their open ones counted and their text.
use Rattle.std.proofs.Common.{◌≡◌, ℕ, ◌+◌, Bool, true, false, eqb, List, [], ◌∷◌, ◌++◌, Some, None, cond, refl, sym, ap, ◌∙◌, arith, append_assoc, append-nil}
use Rattle.std.specs.List.{count_by, flat_map}
use Rattle.std.proofs.lemmas.List.Sums.{sum_by-cons}
use Rattle.glob_select.specs.Bytes.{after_spaces}
use Rattle.glob_select.specs.Items.{Item}
use Rattle.glob_select.specs.Naming.{is_open, plain_text, plain_where, without_open}
use Rattle.glob_select.specs.Reading.{alternatives_of, first_items, item_at, items_of, led_at, after_led, run}
use Rattle.glob_select.proofs.Items.{items-some, items-none}
use Rattle.glob_select.proofs.Alternatives.{alternatives-some, alternatives-none}

-- how many items at the front of a text are open
abbrev pub opened : List ℕ → ℕ
opened text = count_by is_open (items_of text)

-- the text of those that aren't
abbrev pub plain : List ℕ → List ℕ
plain text = flat_map plain_text (items_of text)

counted : (item : Item) (items : List Item) → count_by is_open (item ∷ items) ≡ cond (is_open item) 1 0 + count_by is_open items
counted item items = sum_by-cons (λ y. cond (is_open y) 1 0) item items

module _ (text : List ℕ) (p : Item × List ℕ) (is : item_at text ≡ Some p) where
  pub opened-more : is_open p.0 ≡ true → opened text ≡ 1 + opened p.1
  opened-more holds = ap (count_by is_open) (items-some text p is) ∙ counted p.0 (items_of p.1) ∙ ap (λ b. cond b 1 0 + opened p.1) holds

  pub opened-same : is_open p.0 ≡ false → opened text ≡ opened p.1
  opened-same closed = ap (count_by is_open) (items-some text p is) ∙ counted p.0 (items_of p.1) ∙ ap (λ b. cond b 1 0 + opened p.1) closed ∙ omega arith

  pub plain-some : plain text ≡ plain_text p.0 ++ plain p.1
  plain-some = ap (flat_map plain_text) (items-some text p is)

pub opened-none : (text : List ℕ) → item_at text ≡ None → opened text ≡ 0
opened-none text none = ap (count_by is_open) (items-none text none)

pub plain-none : (text : List ℕ) → item_at text ≡ None → plain text ≡ []
plain-none text none = ap (flat_map plain_text) (items-none text none)

pub plain-more : (text : List ℕ) (p : Item × List ℕ) (made now all : List ℕ) → item_at text ≡ Some p → now ≡ made ++ plain_text p.0 → made ++ plain text ≡ all → now ++ plain p.1 ≡ all
plain-more text p made now all is more whole =
    ap (λ (bytes : List ℕ). bytes ++ plain p.1) more ∙ append_assoc made (plain_text p.0) (plain p.1) ∙ ap (λ (bytes : List ℕ). made ++ bytes) (sym (plain-some text p is)) ∙ whole

pub plain-done : (text made all : List ℕ) → item_at text ≡ None → made ++ plain text ≡ all → made ≡ all
plain-done text made all none whole = sym (append-nil made) ∙ ap (λ (bytes : List ℕ). made ++ bytes) (sym (plain-none text none)) ∙ whole

several : (items : List Item) (led : List (List Item)) (last : List Item) → None ≡ without_open (items ∷ (led ++ (last ∷ [])))
several items [] last = refl
several items (other ∷ led) last = refl

pub open_several : (text : List ℕ) (p : List Item × List ℕ) → led_at text ≡ Some p → None ≡ without_open (alternatives_of text)
unfolding alternatives_of
open_several text p is = several p.0 (run led_at p.1).0 (first_items (after_led p.1)) ∙ ap without_open (sym (alternatives-some text p is))

pub open_alone : (text : List ℕ) → led_at text ≡ None → plain_where (eqb (count_by is_open (first_items text)) 1) (first_items text) ≡ without_open (alternatives_of text)
open_alone text none = ap without_open (sym (alternatives-none text none))

pub open_at : (text items : List ℕ) (found said : Bool) → led_at text ≡ None → items ≡ after_spaces text → found ≡ eqb (opened items) 1 → found ≡ said → plain_where said (items_of items) ≡ without_open (alternatives_of text)
open_at text items found said none is one same =
    ap (λ b. plain_where b (items_of items)) (sym same ∙ one) ∙ ap (λ (from : List ℕ). plain_where (eqb (opened from) 1) (items_of from)) is ∙ open_alone text none
