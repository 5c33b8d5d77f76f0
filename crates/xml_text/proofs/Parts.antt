-- Parts are read, and read again; no text is two lists of parts.
use Rattle.std.proofs.Common.{◌≡◌, ℕ, List, [], ◌∷◌, Option, Some, None, refl, sym, ap, subst, ◌∙◌}
use Rattle.std.specs.Prelude.{codes}
use Rattle.text_scan.specs.Fronts.{front_of, rest_of, stripped_of}
use Rattle.text_scan.proofs.FixedText.{stripped-append, stripped-Some}
use Rattle.text_scan.proofs.Steps.{bind_some, some_is}
use Rattle.xml_text.specs.declared.kind.Kind.{Kind}
use Rattle.xml_text.specs.declared.kind.Kind.TheVariants.{StartTag, EndTag, Words, Character, Comment}
use Rattle.xml_text.specs.declared.run.Run.TheVariants.{Text}
use Rattle.xml_text.specs.Bytes.{is_in}
use Rattle.xml_text.specs.Parts.{XmlPart, starts, ends, says, refers, comments, IsComment, IsPart, AreParts}
use Rattle.xml_text.specs.Reading.{start_at, end_at, comment_at, reference_at, after_mark, kind_of, part_of_kind, part_at}
use Rattle.xml_text.proofs.Marks.{mark_takes, mark_again}
use Rattle.xml_text.proofs.References.{reference_takes, reference_again}
use Rattle.xml_text.proofs.Tags.{start_takes, start_again, end_takes, end_again}
use Rattle.xml_text.proofs.FirstBytes.{start_kind, end_kind, comment_kind, reference_kind, text_kind, text_takes, text_front, text_rest}

comment_takes : (text rest : List ℕ) → comment_at text ≡ Some rest → IsComment text rest
unfolding comment_at
comment_takes text rest e =
    let opened = bind_some (stripped_of (codes "<!--") text) (after_mark (codes "-->")) rest e in
    record { inside = opened.0; opens = stripped-Some (codes "<!--") text opened.0 opened.1; closes = mark_takes (codes "-->") opened.0 rest opened.2 }

comment_again : (text rest : List ℕ) → IsComment text rest → comment_at text ≡ Some rest
unfolding comment_at
comment_again text rest is = rw (ap (stripped_of (codes "<!--")) is.opens ∙ stripped-append (codes "<!--") is.inside) (mark_again (codes "-->") is.inside rest is.closes)

abbrev given : XmlPart → List ℕ → Option (XmlPart × List ℕ)
given part rest = Some (part, rest)

same_part : (text : List ℕ) (one other : XmlPart) (after rest : List ℕ) → given one after ≡ given other rest → IsPart one text after → IsPart other text rest
same_part text one other after rest e is = subst (λ (p : XmlPart × List ℕ). IsPart p.0 text p.1) (some_is (one, after) (other, rest) e) is

by_kind : (kind : Kind) (text : List ℕ) (part : XmlPart) (rest : List ℕ) → kind_of text ≡ Some kind → part_of_kind kind text ≡ Some (part, rest) → IsPart part text rest
by_kind StartTag text part rest k e =
    let tag = bind_some (start_at text) (λ tag. Some (starts tag.0, tag.1)) (part, rest) e in
    same_part text (starts tag.0.0) part tag.0.1 rest tag.2 (start_takes text tag.0.0 tag.0.1 tag.1)
by_kind EndTag text part rest k e =
    let name = bind_some (end_at text) (λ name. Some (ends name.0, name.1)) (part, rest) e in
    same_part text (ends name.0.0) part name.0.1 rest name.2 (end_takes text name.0.0 name.0.1 name.1)
by_kind Words text part rest k e = same_part text (says (front_of (is_in Text) text)) part (rest_of (is_in Text) text) rest e (text_takes text k)
by_kind Character text part rest k e =
    let scalar = bind_some (reference_at text) (λ scalar. Some (refers scalar.0, scalar.1)) (part, rest) e in
    same_part text (refers scalar.0.0) part scalar.0.1 rest scalar.2 (reference_takes text scalar.0.0 scalar.0.1 scalar.1)
by_kind Comment text part rest k e =
    let after = bind_some (comment_at text) (λ after. Some (comments, after)) (part, rest) e in
    same_part text comments part after.0 rest after.2 (comment_takes text after.0 after.1)

pub part_takes : (text : List ℕ) (part : XmlPart) (rest : List ℕ) → part_at text ≡ Some (part, rest) → IsPart part text rest
unfolding part_at
part_takes text part rest e =
    let kind = bind_some (kind_of text) (λ kind. part_of_kind kind text) (part, rest) e in
    by_kind kind.0 text part rest kind.1 kind.2

pub part_again : (part : XmlPart) (text rest : List ℕ) → IsPart part text rest → part_at text ≡ Some (part, rest)
unfolding part_at
part_again (starts tag) text rest is = rw (start_kind tag text rest is, start_again tag text rest is) refl
part_again (ends name) text rest is = rw (end_kind name text rest is, end_again name text rest is) refl
part_again (says said) text rest is = rw (text_kind said text rest is, text_front said text rest is, text_rest said text rest is) refl
part_again (refers scalar) text rest is = rw (reference_kind scalar text rest is, reference_again scalar text rest is) refl
part_again comments text rest is = rw (comment_kind text rest is, comment_again text rest is) refl

-- an empty text begins with no part
none_at_end : part_at [] ≡ None
unfolding part_at kind_of
none_at_end = refl

not_at_end : (part : XmlPart) (text rest : List ℕ) → text ≡ [] → IsPart part text rest → ⊥
not_at_end part text rest same is = absurd (let e : None ≡ given part rest = sym none_at_end ∙ ap part_at (sym same) ∙ part_again part text rest is in cc)

pub one_list : (some others : List XmlPart) (text : List ℕ) → AreParts some text → AreParts others text → some ≡ others
one_list [] [] text is also = refl
one_list [] (y ∷ ys) text is also = absurd (not_at_end y text also.0 is also.1)
one_list (x ∷ xs) [] text is also = absurd (not_at_end x text is.0 also is.1)
one_list (x ∷ xs) (y ∷ ys) text is also =
    let same = some_is (x, is.0) (y, also.0) (sym (part_again x text is.0 is.1) ∙ part_again y text also.0 also.1) in
    let behind : AreParts ys is.0 = subst (λ (t : List ℕ). AreParts ys t) (sym (ap (λ (p : XmlPart × List ℕ). p.1) same)) also.2 in
    ap (λ (p : XmlPart × List ℕ). p.0 ∷ xs) same ∙ ap (λ (parts : List XmlPart). y ∷ parts) (one_list xs ys is.0 is.2 behind)
