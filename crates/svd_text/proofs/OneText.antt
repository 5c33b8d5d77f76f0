-- No bytes spell two texts.
use Rattle.std.proofs.Common.{◌≡◌, ℕ, Bool, true, false, List, [], Option, Some, None, refl, sym, ap, subst, ◌∙◌}
use Rattle.text_scan.proofs.Steps.{some_is}
use Rattle.xml_text.specs.Parts.{XmlTag, XmlPart, starts, ends, says as says_part, refers as refers_part, comments as comments_part, IsEndTag}
use Rattle.xml_text.specs.Reading.{kind_of, part_at}
use Rattle.xml_text.proofs.Answering.{one_opening}
use Rattle.xml_text.proofs.Parts.{part_again}
use Rattle.svd_text.specs.ElementText.{Outline, Contents, nothing, says, refers, comments, holds, Closes, Stand, Text, Spells}

abbrev Read : Type 0
Read = Option (XmlPart × List ℕ)

abbrev part_in : Read → Option XmlPart
part_in None = None
part_in (Some read) = Some read.0

-- the part that contents begin with, and the text behind it
abbrev front : Contents → Read
front nothing = None
front (says said behind others) = Some (says_part said, behind)
front (refers scalar behind others) = Some (refers_part scalar, behind)
front (comments behind others) = Some (comments_part, behind)
front (holds outline inside others) = Some (starts outline.tag, outline.inside)

abbrev inner_part : XmlPart → List ℕ → Read
inner_part (ends name) behind = None
inner_part part behind = Some (part, behind)

-- a part that isn't an end tag
abbrev inner : Read → Read
inner None = None
inner (Some read) = inner_part read.0 read.1

-- an end tag or no part begins the text
abbrev Ends : List ℕ → Type 0
Ends text = inner (part_at text) ≡ None

front_is : (contents : Contents) (text rest : List ℕ) → Stand contents text rest → Ends rest → inner (part_at text) ≡ front contents
front_is nothing text rest stand ended = ap (λ (t : List ℕ). inner (part_at t)) stand ∙ ended
front_is (says said behind others) text rest stand ended = ap inner (part_again (says_part said) text behind stand.0)
front_is (refers scalar behind others) text rest stand ended = ap inner (part_again (refers_part scalar) text behind stand.0)
front_is (comments behind others) text rest stand ended = ap inner (part_again comments_part text behind stand.0)
front_is (holds outline inside others) text rest stand ended =
    ap (λ (t : List ℕ). inner (part_at t)) stand.0 ∙ ap inner (part_again (starts outline.tag) outline.from outline.inside stand.1)

end_ends : (name closing behind : List ℕ) → IsEndTag name closing behind → Ends closing
end_ends name closing behind is = ap inner (part_again (ends name) closing behind is)

one_behind : (name other closing behind rest : List ℕ) → IsEndTag name closing behind → IsEndTag other closing rest → behind ≡ rest
one_behind name other closing behind rest is also =
    ap (λ (p : XmlPart × List ℕ). p.1) (some_is (ends name, behind) (ends other, rest) (sym (part_again (ends name) closing behind is) ∙ part_again (ends other) closing rest also))

tags_same : (one other : XmlTag) → starts one ≡ starts other → one ≡ other
tags_same one other e = cc

said_same : (one other : List ℕ) → says_part one ≡ says_part other → one ≡ other
said_same one other e = cc

scalars_same : (one other : ℕ) → refers_part one ≡ refers_part other → one ≡ other
scalars_same one other e = cc

abbrev read_of : XmlPart → List ℕ → Read
read_of part behind = Some (part, behind)

part_same : (one other : XmlPart) (behind rest : List ℕ) → read_of one behind ≡ read_of other rest → (one ≡ other) × (behind ≡ rest)
part_same one other behind rest e =
    let same = some_is (one, behind) (other, rest) e in
    (ap (λ (p : XmlPart × List ℕ). p.0) same, ap (λ (p : XmlPart × List ℕ). p.1) same)

abbrev Same : Contents → Contents → List ℕ → List ℕ → Type 0
Same one other rest after = (one ≡ other) × (rest ≡ after)

-- whether it ends with an end tag, or closes itself
closes_same : (closes_itself : Bool) (one other : Outline) (inside within : Contents) → one.inside ≡ other.inside → Closes closes_itself one inside → Closes closes_itself other within
    → (Ends one.closing → Ends other.closing → Same inside within one.closing other.closing)
    → (inside ≡ within) × (one.closing ≡ other.closing) × (one.behind ≡ other.behind)
closes_same true one other inside within same closes also more = (closes.0 ∙ sym also.0, closes.1 ∙ same ∙ sym also.1, closes.2 ∙ same ∙ sym also.2)
closes_same false one other inside within same closes also more =
    let inner_same = more (end_ends one.tag.name one.closing one.behind closes) (end_ends other.tag.name other.closing other.behind also) in
    let also' : IsEndTag other.tag.name one.closing other.behind = subst (λ (t : List ℕ). IsEndTag other.tag.name t other.behind) (sym inner_same.1) also in
    (inner_same.0, inner_same.1, one_behind one.tag.name other.tag.name one.closing one.behind other.behind closes also')

one_contents : (one other : Contents) (text rest after : List ℕ) → Stand one text rest → Stand other text after → Ends rest → Ends after → Same one other rest after
one_contents nothing nothing text rest after stand also ended last = (refl, sym stand ∙ also)
one_contents (says said behind others) (says words past more) text rest after stand also ended last =
    let same = part_same (says_part said) (says_part words) behind past (sym (front_is (says said behind others) text rest stand ended) ∙ front_is (says words past more) text after also last) in
    let later = one_contents others more behind rest after stand.1 (subst (λ (t : List ℕ). Stand more t after) (sym same.1) also.1) ended last in
    let words_same = said_same said words same.0 in
    (λ i. says (words_same i) (same.1 i) (later.0 i), later.1)
one_contents (refers scalar behind others) (refers character past more) text rest after stand also ended last =
    let same = part_same (refers_part scalar) (refers_part character) behind past (sym (front_is (refers scalar behind others) text rest stand ended) ∙ front_is (refers character past more) text after also last) in
    let later = one_contents others more behind rest after stand.1 (subst (λ (t : List ℕ). Stand more t after) (sym same.1) also.1) ended last in
    let scalar_same = scalars_same scalar character same.0 in
    (λ i. refers (scalar_same i) (same.1 i) (later.0 i), later.1)
one_contents (comments behind others) (comments past more) text rest after stand also ended last =
    let same = part_same comments_part comments_part behind past (sym (front_is (comments behind others) text rest stand ended) ∙ front_is (comments past more) text after also last) in
    let later = one_contents others more behind rest after stand.1 (subst (λ (t : List ℕ). Stand more t after) (sym same.1) also.1) ended last in
    (λ i. comments (same.1 i) (later.0 i), later.1)
one_contents (holds outline inside others) (holds shape within more) text rest after stand also ended last =
    let same = part_same (starts outline.tag) (starts shape.tag) outline.inside shape.inside (sym (front_is (holds outline inside others) text rest stand ended) ∙ front_is (holds shape within more) text after also last) in
    let tag = tags_same outline.tag shape.tag same.0 in
    let from = sym stand.0 ∙ also.0 in
    let closed = closes_same outline.tag.closes_itself outline shape inside within same.1 stand.3 (subst (λ (t : XmlTag). Closes t.closes_itself shape within) (sym tag) also.3)
    (λ one_ends other_ends. one_contents inside within outline.inside outline.closing shape.closing stand.2 (subst (λ (t : List ℕ). Stand within t shape.closing) (sym same.1) also.2) one_ends other_ends) in
    let later = one_contents others more outline.behind rest after stand.4 (subst (λ (t : List ℕ). Stand more t after) (sym closed.2) also.4) ended last in
    (λ i. holds (record { tag = tag i; from = from i; inside = same.1 i; closing = closed.1 i; behind = closed.2 i }) (closed.0 i) (later.0 i), later.1)
one_contents one other text rest after stand also ended last =
    absurd (let e = ap part_in (sym (front_is one text rest stand ended) ∙ front_is other text after also last) in cc)

end_of_text : Ends []
unfolding part_at kind_of
end_of_text = refl

pub one_text : (bytes : List ℕ) (one other : Text) → Spells bytes one → Spells bytes other → one ≡ other
one_text bytes one other is also =
    let total = is.total ∙ sym also.total in
    let stand : Stand other.contents is.body [] = subst (λ (t : List ℕ). Stand other.contents t []) (one_opening bytes also.body is.body also.opens is.opens) also.whole in
    let same = (one_contents one.contents other.contents is.body [] [] is.whole stand end_of_text end_of_text).0 in
    λ i. record { total = total i; contents = same i }
