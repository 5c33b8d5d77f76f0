-- Tags are read, and read again.
use Rattle.std.proofs.Common.{◌≡◌, ℕ, Bool, true, false, cond, List, [], ◌∷◌, ◌++◌, map, Option, Some, None, refl, sym, ap, subst, ◌∙◌, inl, inr}
use Rattle.std.specs.Prelude.{codes}
use Rattle.text_scan.specs.declared.class.Class.TheVariants.{Blank}
use Rattle.text_scan.specs.Classes.{has}
use Rattle.text_scan.specs.Fronts.{StopsAt, rest_of, stripped_of}
use Rattle.text_scan.specs.Follows.{Follows, after_block}
use Rattle.text_scan.specs.Lists.{ReadsAll}
use Rattle.text_scan.specs.Steps.{◌>>=◌}
use Rattle.text_scan.proofs.Fronts.{rest-append}
use Rattle.text_scan.proofs.FixedText.{stripped-append, stripped-Some}
use Rattle.text_scan.proofs.Steps.{cases_option, bind_some, guard_some, some_is}
use Rattle.text_scan.proofs.Follows.{IsSolid, block_takes, block_again}
use Rattle.text_scan.proofs.Lists.{items_take, items_again}
use Rattle.xml_text.specs.declared.run.Run.TheVariants.{Name}
use Rattle.xml_text.specs.Bytes.{is_in}
use Rattle.xml_text.specs.declared.attribute.Attribute.{Attribute}
use Rattle.xml_text.specs.Views.{attribute_of, attribute_name}
use Rattle.xml_text.specs.Names.{begins_name, is_name}
use Rattle.xml_text.specs.Parts.{XmlAttribute, XmlTag, IsAttribute, closer_of, IsStartTag, IsEndTag}
use Rattle.xml_text.specs.Reading.{name_at, begins_attribute, attribute_at, attributes_at, differ, closer_or, closer_at, opened_at, start_at, end_at}
use Rattle.xml_text.proofs.Blocks.{block_stops}
use Rattle.xml_text.proofs.Names.{blank_not_in, name_takes, name_again}
use Rattle.xml_text.proofs.Distinct.{differ_takes, differ_again_all}
use Rattle.xml_text.proofs.OneAttribute.{attribute_takes, attribute_again, attribute_begins, attribute_stops, attribute_shrinks}

attribute_names : (attributes : List Attribute) → map (λ (attribute : XmlAttribute). attribute.name) (map attribute_of attributes) ≡ map attribute_name attributes
attribute_names [] = refl
attribute_names (x ∷ xs) = ap (λ (names : List (List ℕ)). attribute_name x ∷ names) (attribute_names xs)

closer_solid : (itself : Bool) → IsSolid (closer_of itself)
unfolding closer_of has
closer_solid false rest = refl
closer_solid true rest = refl

closer_ends : (itself : Bool) (rest : List ℕ) → StopsAt (is_in Name) (closer_of itself ++ rest)
unfolding closer_of is_in
closer_ends false rest = refl
closer_ends true rest = refl

closer_no_name : (itself : Bool) (rest : List ℕ) → begins_name (closer_of itself ++ rest) ≡ false
unfolding closer_of begins_name
closer_no_name false rest = refl
closer_no_name true rest = refl

slash_not_closed : (rest : List ℕ) → stripped_of (codes ">") (closer_of true ++ rest) ≡ None
unfolding closer_of stripped_of
slash_not_closed rest = refl

closer_takes : (text : List ℕ) (itself : Bool) (rest : List ℕ) → closer_at text ≡ Some (itself, rest) → Follows (closer_of itself) text rest
unfolding closer_at closer_of
closer_takes text itself rest e =
    elim (cases_option (after_block (codes ">") text)) [
      | inr some ↦
          let e' : closer_or (Some some.0) text ≡ Some (itself, rest) = rw some.1 at e in
          subst (λ (p : Bool × List ℕ). Follows (closer_of p.0) text p.1) (some_is (false, some.0) (itself, rest) e') (block_takes (codes ">") text some.0 some.1)
      | inl none ↦
          let e' : closer_or None text ≡ Some (itself, rest) = rw none at e in
          let slash = bind_some (after_block (codes "/>") text) (λ rest. Some (true, rest)) (itself, rest) e' in
          subst (λ (p : Bool × List ℕ). Follows (closer_of p.0) text p.1) (some_is (true, slash.0) (itself, rest) slash.2) (block_takes (codes "/>") text slash.0 slash.1)
    ]

closer_again : (itself : Bool) (text rest : List ℕ) → Follows (closer_of itself) text rest → closer_at text ≡ Some (itself, rest)
unfolding closer_at closer_of after_block
closer_again false text rest follows = ap (λ (o : Option (List ℕ)). closer_or o text) (block_again (codes ">") text rest (closer_solid false) follows)
closer_again true text rest follows =
    let none : after_block (codes ">") text ≡ None =
    ap (λ (t : List ℕ). stripped_of (codes ">") (rest_of (has Blank) t)) follows.whole
    ∙ ap (stripped_of (codes ">")) (rest-append (has Blank) follows.gap (closer_of true ++ rest) follows.white (closer_solid true rest))
    ∙ slash_not_closed rest in
    ap (λ (o : Option (List ℕ)). closer_or o text) none
    ∙ ap (λ (o : Option (List ℕ)). o >>= λ after. Some (true, after)) (block_again (codes "/>") text rest (closer_solid true) follows)

no_attribute : (itself : Bool) (text rest : List ℕ) → Follows (closer_of itself) text rest → begins_attribute text ≡ false
unfolding begins_attribute
no_attribute itself text rest follows =
    ap (λ (t : List ℕ). begins_name (rest_of (has Blank) t)) follows.whole
    ∙ ap begins_name (rest-append (has Blank) follows.gap (closer_of itself ++ rest) follows.white (closer_solid itself rest))
    ∙ closer_no_name itself rest

-- a tag's name ends where its attributes begin
name_stops : (attributes : List XmlAttribute) (text listed : List ℕ) → ReadsAll IsAttribute attributes text listed → StopsAt (is_in Name) listed → StopsAt (is_in Name) text
name_stops [] text listed same ends = subst (StopsAt (is_in Name)) (sym same) ends
name_stops (attribute ∷ attributes) text listed all ends = attribute_stops attribute text all.0 all.1

abbrev made : List ℕ → List XmlAttribute → Bool → XmlTag
made name attributes itself = record { name = name; attributes = attributes; closes_itself = itself }

abbrev apart : List XmlAttribute → Bool
apart attributes = differ (map (λ attribute. attribute.name) attributes)

opened_takes : (text name named : List ℕ) → opened_at text ≡ Some (name, named) → (text ≡ codes "<" ++ (name ++ named)) × (is_name name ≡ true)
unfolding opened_at
opened_takes text name named e =
    let opened = bind_some (stripped_of (codes "<") text) name_at (name, named) e in
    let found = name_takes opened.0 name named opened.2 in
    (stripped-Some (codes "<") text opened.0 opened.1 ∙ ap (λ (t : List ℕ). codes "<" ++ t) found.0, found.1)

opened_again : (name named : List ℕ) → is_name name ≡ true → StopsAt (is_in Name) named → opened_at (codes "<" ++ (name ++ named)) ≡ Some (name, named)
unfolding opened_at
opened_again name named form stops = rw (stripped-append (codes "<") (name ++ named)) (name_again name named form stops)

-- a tag whose name, attributes and closer were read
pub start_read : (text name named : List ℕ) (attributes : List Attribute) (listed : List ℕ) (itself : Bool) (rest : List ℕ) (differs : Bool) → opened_at text ≡ Some (name, named)
    → attributes_at named ≡ Some (map attribute_of attributes, listed) → closer_at listed ≡ Some (itself, rest) → differs ≡ differ (map attribute_name attributes)
    → start_at text ≡ cond differs (Some (made name (map attribute_of attributes) itself, rest)) None
unfolding start_at
start_read text name named attributes listed itself rest differs opened list closed same =
    rw (opened, list, closed) (ap (λ (b : Bool). cond b (Some (made name (map attribute_of attributes) itself, rest)) None) (ap differ (attribute_names attributes) ∙ sym same))

pub start_takes : (text : List ℕ) (tag : XmlTag) (rest : List ℕ) → start_at text ≡ Some (tag, rest) → IsStartTag tag text rest
unfolding start_at
start_takes text tag rest e =
    let name = bind_some (opened_at text)
    (λ name. attributes_at name.1 >>= λ attributes. closer_at attributes.1 >>= λ closer. cond (apart attributes.0) (Some (made name.0 attributes.0 closer.0, closer.1)) None) (tag, rest) e in
    let listed = bind_some (attributes_at name.0.1)
    (λ attributes. closer_at attributes.1 >>= λ closer. cond (apart attributes.0) (Some (made name.0.0 attributes.0 closer.0, closer.1)) None) (tag, rest) name.2 in
    let closed = bind_some (closer_at listed.0.1)
    (λ closer. cond (apart listed.0.0) (Some (made name.0.0 listed.0.0 closer.0, closer.1)) None) (tag, rest) listed.2 in
    let is_made = made name.0.0 listed.0.0 closed.0.0 in
    let differing = guard_some (apart listed.0.0) (is_made, closed.0.1) (tag, rest) closed.2 in
    let opened = opened_takes text name.0.0 name.0.1 name.1 in
    let read : IsStartTag is_made text closed.0.1 = record {
      named = name.0.1;
      listed = listed.0.1;
      opens = opened.0;
      lists = items_take begins_attribute attribute_at IsAttribute attribute_takes name.0.1 listed.0.0 listed.0.1 listed.1;
      closes = closer_takes listed.0.1 closed.0.0 closed.0.1 closed.1;
      name_form = opened.1;
      distinct = differ_takes (map (λ attribute. attribute.name) listed.0.0) differing.0;
    } in
    subst (λ (p : XmlTag × List ℕ). IsStartTag p.0 text p.1) differing.1 read

pub start_again : (tag : XmlTag) (text rest : List ℕ) → IsStartTag tag text rest → start_at text ≡ Some (tag, rest)
unfolding start_at
start_again tag text rest is =
    let ends = block_stops (is_in Name) (closer_of tag.closes_itself) is.listed rest blank_not_in (closer_ends tag.closes_itself rest) is.closes in
    rw (
      ap opened_at is.opens ∙ opened_again tag.name is.named is.name_form (name_stops tag.attributes is.named is.listed is.lists ends),
      items_again begins_attribute attribute_at IsAttribute attribute_shrinks attribute_begins attribute_again tag.attributes is.named is.listed is.lists (no_attribute tag.closes_itself is.listed rest is.closes),
      closer_again tag.closes_itself is.listed rest is.closes,
      differ_again_all (map (λ attribute. attribute.name) tag.attributes) is.distinct,
    ) refl

angle_solid : IsSolid (codes ">")
unfolding has
angle_solid rest = refl

angle_ends : (rest : List ℕ) → StopsAt (is_in Name) (codes ">" ++ rest)
unfolding is_in
angle_ends rest = refl

pub end_takes : (text name rest : List ℕ) → end_at text ≡ Some (name, rest) → IsEndTag name text rest
unfolding end_at
end_takes text name rest e =
    let opened = bind_some (stripped_of (codes "</") text) (λ inside. name_at inside >>= λ name. after_block (codes ">") name.1 >>= λ after. Some (name.0, after)) (name, rest) e in
    let found = bind_some (name_at opened.0) (λ name. after_block (codes ">") name.1 >>= λ after. Some (name.0, after)) (name, rest) opened.2 in
    let closed = bind_some (after_block (codes ">") found.0.1) (λ after. Some (found.0.0, after)) (name, rest) found.2 in
    let named = name_takes opened.0 found.0.0 found.0.1 found.1 in
    let read : IsEndTag found.0.0 text closed.0 = record {
      named = found.0.1;
      opens = stripped-Some (codes "</") text opened.0 opened.1 ∙ ap (λ (t : List ℕ). codes "</" ++ t) named.0;
      closes = block_takes (codes ">") found.0.1 closed.0 closed.1;
      name_form = named.1;
    } in
    subst (λ (p : List ℕ × List ℕ). IsEndTag p.0 text p.1) (some_is (found.0.0, closed.0) (name, rest) closed.2) read

pub end_again : (name text rest : List ℕ) → IsEndTag name text rest → end_at text ≡ Some (name, rest)
unfolding end_at
end_again name text rest is =
    rw (
      ap (stripped_of (codes "</")) is.opens ∙ stripped-append (codes "</") (name ++ is.named),
      name_again name is.named is.name_form (block_stops (is_in Name) (codes ">") is.named rest blank_not_in (angle_ends rest) is.closes),
      block_again (codes ">") is.named rest angle_solid is.closes,
    ) refl
