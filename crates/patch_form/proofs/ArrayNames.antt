-- The name of an array: a name with `%s` in it, or one made of a pattern.
use Rattle.std.proofs.Common.{◌≡◌, ℕ, Bool, true, false, eqb, List, [], ◌∷◌, ◌++◌, Option, Some, None, refl, sym, ap, subst, ◌∙◌, arith}
use Rattle.std.specs.Prelude.{MatchBool, ◌||◌, is_some}
use Rattle.std.specs.List.{count_by, flat_map}
use Rattle.std.proofs.lemmas.Bool.Decides.{nat_tests}
use Rattle.text_scan.specs.Fronts.{stripped_of}
use Rattle.text_scan.proofs.FixedText.{stripped-append, stripped-Some}
use Rattle.glob_select.specs.Items.{Item}
use Rattle.glob_select.specs.Naming.{is_open, plain_text, plain_where, without_open}
use Rattle.glob_select.specs.Reading.{alternatives_of}
use Rattle.glob_select.specs.Refusals.{IsPattern}
use Rattle.glob_select.specs.Spelling.{SpellsPattern}
use Rattle.glob_select.proofs.Alternatives.{pattern_again}
use Rattle.pac_base.specs.Names.{IsName, list_mark, array_mark}
use Rattle.patch_form.specs.Forms.{IsMarked, NamesArray, array_name, first_alternative}
use Rattle.patch_form.specs.Naming.{IsArrayNameOf, IsNameOf, has_mark}

mark_takes : (text : List ℕ) → has_mark text ≡ true → IsMarked text
unfolding has_mark
mark_takes [] is = absurd cc
mark_takes (byte ∷ text) is = by (stripped_of list_mark (byte ∷ text)) refl is (mark_takes text)
  where
    by : (found : Option (List ℕ)) → stripped_of list_mark (byte ∷ text) ≡ found → (is_some found || has_mark text) ≡ true → (has_mark text ≡ true → IsMarked text) → IsMarked (byte ∷ text)
    by None none is more = let rest = more is in record { before = byte ∷ rest.before; after = rest.after; whole = ap (λ (t : List ℕ). byte ∷ t) rest.whole }
    by (Some rest) some is more = record { before = []; after = rest; whole = stripped-Some list_mark (byte ∷ text) rest some }

or_true : (b : Bool) → (b || true) ≡ true
or_true true = refl
or_true false = refl

mark_again : (before after : List ℕ) → has_mark (before ++ (list_mark ++ after)) ≡ true
unfolding has_mark
mark_again [] after = rw (stripped-append list_mark after) refl
mark_again (byte ∷ before) after = rw (mark_again before after) (or_true (is_some (stripped_of list_mark (byte ∷ (before ++ (list_mark ++ after))))))

pub mark_decides : (text : List ℕ) (said : Bool) → said ≡ has_mark text → MatchBool said (IsMarked text) (¬ (IsMarked text))
mark_decides text true is = mark_takes text (sym is)
mark_decides text false is = λ marked. clash (sym is) (ap has_mark marked.whole ∙ mark_again marked.before marked.after)
  where
    clash : has_mark text ≡ false → has_mark text ≡ true → ⊥
    clash one other = let e : true ≡ false = sym other ∙ one in absurd cc

-- ---- a pattern that names an array

named_by : (text : List ℕ) (alternatives : List (List Item)) (named : NamesArray text) → alternatives ≡ alternatives_of text → alternatives ≡ named.items ∷ []
named_by text alternatives named is = is ∙ sym (pattern_again (named.items ∷ []) text named.spelled).1

plain_named : (items : List Item) → count_by is_open items ≡ 1 → without_open (items ∷ []) ≡ Some (flat_map plain_text items)
plain_named items one = rw one refl

pub no_array : (text : List ℕ) (alternatives : List (List Item)) → alternatives ≡ alternatives_of text → None ≡ without_open alternatives → ¬ (NamesArray text)
no_array text alternatives is none = λ named. clash (flat_map plain_text named.items) (none ∙ ap without_open (named_by text alternatives named is) ∙ plain_named named.items named.one)
  where
    clash : (plain : List ℕ) → None ≡ Some plain → ⊥
    clash plain e = absurd cc

pub array_named : (text : List ℕ) (alternatives : List (List Item)) (plain whole : List ℕ) (name : Option (List ℕ)) → alternatives ≡ alternatives_of text → Some plain ≡ without_open alternatives → whole ≡ plain ++ array_mark → IsPattern text → IsNameOf whole name → IsArrayNameOf text name
array_named text [] plain whole name is some made pattern named = absurd cc
array_named text (items ∷ (other ∷ others)) plain whole name is some made pattern named = absurd cc
array_named text (items ∷ []) plain whole name is some made pattern named = by (eqb (count_by is_open items) 1) refl some
  where
    same : flat_map plain_text items ≡ plain → whole ≡ array_name items
    same e = made ∙ ap (λ (bytes : List ℕ). bytes ++ array_mark) (sym e)

    give : whole ≡ array_name items → count_by is_open items ≡ 1 → (n : Option (List ℕ)) → IsNameOf whole n → IsArrayNameOf text n
    give all one None not_name = λ array.
        let like : items ∷ [] ≡ array.items ∷ [] = named_by text (items ∷ []) array is in
        not_name (subst IsName (sym (all ∙ ap (λ (a : List (List Item)). array_name (first_alternative a)) like)) array.named)
    give all one (Some n) is_name = (
      is_name.0 ∙ all ∙ ap (λ (a : List (List Item)). array_name (first_alternative a)) is,
      record {
        items = items;
        spelled = subst (λ (a : List (List Item)). SpellsPattern a text) ((pattern_again pattern.0 text pattern.1).1 ∙ sym is) pattern.1;
        one = one;
        named = subst IsName all is_name.1;
      },
    )

    some_same : (p q : List ℕ) → Some p ≡ Some q → q ≡ p
    some_same p q e = cc

    by : (b : Bool) → eqb (count_by is_open items) 1 ≡ b → Some plain ≡ plain_where b items → IsArrayNameOf text name
    by true one e =
        let counted : count_by is_open items ≡ 1 = grind (arith, nat_tests, one) in
        give (same (some_same plain (flat_map plain_text items) e)) counted name named
    by false one e = absurd cc

-- what an answer that may be missing says
pub some_named : (text : List ℕ) (name : Option (List ℕ)) → IsArrayNameOf text name → MatchBool (is_some name) (NamesArray text) (¬ (NamesArray text))
some_named text None is = is
some_named text (Some name) is = is.1
