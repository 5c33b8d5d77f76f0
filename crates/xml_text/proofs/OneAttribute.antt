-- Attributes are read, and read again.
use Rattle.std.proofs.Common.{◌≡◌, ◌≢◌, ℕ, ◌<◌, true, eqb, List, [], ◌∷◌, ◌++◌, length, Some, None, refl, sym, ap, subst, ◌∙◌, inl, inr, arith}
use Rattle.std.specs.Prelude.{codes}
use Rattle.std.specs.List.{list_all}
use Rattle.std.proofs.lemmas.Bool.{cases_Bool, eqb-true, and_parts}
use Rattle.std.proofs.lemmas.List.{length-append}
use Rattle.text_scan.specs.declared.class.Class.TheVariants.{Blank}
use Rattle.text_scan.specs.Classes.{has}
use Rattle.text_scan.specs.Fronts.{Passes, StopsAt, front_of, rest_of, stripped_of}
use Rattle.text_scan.specs.Follows.{Follows, after_block}
use Rattle.text_scan.specs.Steps.{◌>>=◌}
use Rattle.text_scan.proofs.Fronts.{front-rest, front_passes, front-append, rest-append}
use Rattle.text_scan.proofs.FixedText.{stripped-append, stripped-Some}
use Rattle.text_scan.proofs.Steps.{bind_some, some_is}
use Rattle.text_scan.proofs.Follows.{IsSolid, block_takes, block_again, Follows-length}
use Rattle.text_scan.proofs.Lists.{Shrinks}
use Rattle.xml_text.specs.declared.quote.Quote.{Quote}
use Rattle.xml_text.specs.declared.quote.Quote.TheVariants.{Double, Single}
use Rattle.xml_text.specs.declared.run.Run.TheVariants.{Name, Value}
use Rattle.xml_text.specs.Bytes.{mark_of, is_in}
use Rattle.xml_text.specs.Names.{begins_name}
use Rattle.xml_text.specs.Parts.{XmlAttribute, IsAttribute}
use Rattle.xml_text.specs.Reading.{gap_at, quote_at, value_at, name_at, begins_attribute, attribute_at}
use Rattle.xml_text.proofs.Blocks.{block_stops, gap_takes, gap_again}
use Rattle.xml_text.proofs.Names.{blank_not_in, name_takes, name_again, begins_before, blanks_stop}

quote_takes : (text : List ℕ) (quote : Quote) (inside : List ℕ) → quote_at text ≡ Some (quote, inside) → text ≡ mark_of quote ++ inside
unfolding quote_at mark_of
quote_takes [] quote inside e = absurd cc
quote_takes (first ∷ others) quote inside e =
    elim (cases_Bool (eqb first 34)) [
      | inl double ↦
          let e' : Some (Double, others) ≡ Some (quote, inside) = rw double at e in
          subst (λ (p : Quote × List ℕ). first ∷ others ≡ mark_of p.0 ++ p.1) (some_is (Double, others) (quote, inside) e') (ap (λ (b : ℕ). b ∷ others) (eqb-true first 34 double))
      | inr no_double ↦ elim (cases_Bool (eqb first 39)) [
        | inl single ↦
            let e' : Some (Single, others) ≡ Some (quote, inside) = rw (no_double, single) at e in
            subst (λ (p : Quote × List ℕ). first ∷ others ≡ mark_of p.0 ++ p.1) (some_is (Single, others) (quote, inside) e') (ap (λ (b : ℕ). b ∷ others) (eqb-true first 39 single))
        | inr no_single ↦ absurd (let e' : None ≡ Some (quote, inside) = rw (no_double, no_single) at e in cc)
      ]
    ]

quote_again : (quote : Quote) (inside : List ℕ) → quote_at (mark_of quote ++ inside) ≡ Some (quote, inside)
unfolding quote_at mark_of
quote_again Double inside = refl
quote_again Single inside = refl

quote_solid : (quote : Quote) → IsSolid (mark_of quote)
unfolding mark_of has
quote_solid Double rest = refl
quote_solid Single rest = refl

quote_ends : (quote : Quote) (rest : List ℕ) → StopsAt (is_in (Value quote)) (mark_of quote ++ rest)
unfolding mark_of is_in
quote_ends Double rest = refl
quote_ends Single rest = refl

-- a value in its quotes, behind white space
record IsValue (value : List ℕ) (left : ℕ) (text rest : List ℕ) : Type 0 where
  quote : Quote
  inside : List ℕ
  opens : Follows (mark_of quote) text inside
  closes : inside ≡ value ++ (mark_of quote ++ rest)
  form : Passes (is_in (Value quote)) value
  placed : left ≡ length inside

value_takes : (text value : List ℕ) (left : ℕ) (rest : List ℕ) → value_at text ≡ Some (value, left, rest) → IsValue value left text rest
unfolding value_at
value_takes text value left rest e =
    let opened = bind_some (quote_at (rest_of (has Blank) text))
    (λ opened. stripped_of (mark_of opened.0) (rest_of (is_in (Value opened.0)) opened.1) >>= λ after. Some (front_of (is_in (Value opened.0)) opened.1, length opened.1, after)) (value, left, rest) e in
    let quote = opened.0.0 in
    let inside = opened.0.1 in
    let front = front_of (is_in (Value quote)) inside in
    let closed = bind_some (stripped_of (mark_of quote) (rest_of (is_in (Value quote)) inside)) (λ after. Some (front, length inside, after)) (value, left, rest) opened.2 in
    let read : IsValue front (length inside) text closed.0 = record {
      quote = quote;
      inside = inside;
      opens = record {
        gap = front_of (has Blank) text;
        white = front_passes (has Blank) text;
        whole = sym (front-rest (has Blank) text) ∙ ap (λ (t : List ℕ). front_of (has Blank) text ++ t) (quote_takes (rest_of (has Blank) text) quote inside opened.1);
      };
      closes = sym (front-rest (is_in (Value quote)) inside) ∙ ap (λ (t : List ℕ). front ++ t) (stripped-Some (mark_of quote) (rest_of (is_in (Value quote)) inside) closed.0 closed.1);
      form = front_passes (is_in (Value quote)) inside;
      placed = refl;
    } in
    subst (λ (p : List ℕ × ℕ × List ℕ). IsValue p.0 p.1 text p.2) (some_is (front, length inside, closed.0) (value, left, rest) closed.2) read

value_again : (text value : List ℕ) (left : ℕ) (rest : List ℕ) → IsValue value left text rest → value_at text ≡ Some (value, left, rest)
unfolding value_at
value_again text value left rest is =
    let test = is_in (Value is.quote) in
    let opened : quote_at (rest_of (has Blank) text) ≡ Some (is.quote, is.inside) =
    ap (λ (t : List ℕ). quote_at (rest_of (has Blank) t)) is.opens.whole
    ∙ ap quote_at (rest-append (has Blank) is.opens.gap (mark_of is.quote ++ is.inside) is.opens.white (quote_solid is.quote is.inside))
    ∙ quote_again is.quote is.inside in
    let front = ap (front_of test) is.closes ∙ front-append test value (mark_of is.quote ++ rest) is.form (quote_ends is.quote rest) in
    let behind = ap (rest_of test) is.closes ∙ rest-append test value (mark_of is.quote ++ rest) is.form (quote_ends is.quote rest) in
    rw (opened, behind, stripped-append (mark_of is.quote) rest, front, is.placed) refl

equals_solid : IsSolid (codes "=")
unfolding has
equals_solid rest = refl

equals_ends : (rest : List ℕ) → StopsAt (is_in Name) (codes "=" ++ rest)
unfolding is_in
equals_ends rest = refl

abbrev made : List ℕ → List ℕ → ℕ → XmlAttribute
made name value left = record { name = name; value = value; left = left }

pub attribute_takes : (text : List ℕ) (attribute : XmlAttribute) (rest : List ℕ) → attribute_at text ≡ Some (attribute, rest) → IsAttribute attribute text rest
unfolding attribute_at
attribute_takes text attribute rest e =
    let behind = bind_some (gap_at text) (λ behind. name_at behind >>= λ name. after_block (codes "=") name.1 >>= λ valued. value_at valued >>= λ value. Some (made name.0 value.0 value.1, value.2)) (attribute, rest) e in
    let name = bind_some (name_at behind.0) (λ name. after_block (codes "=") name.1 >>= λ valued. value_at valued >>= λ value. Some (made name.0 value.0 value.1, value.2)) (attribute, rest) behind.2 in
    let valued = bind_some (after_block (codes "=") name.0.1) (λ valued. value_at valued >>= λ value. Some (made name.0.0 value.0 value.1, value.2)) (attribute, rest) name.2 in
    let value = bind_some (value_at valued.0) (λ value. Some (made name.0.0 value.0 value.1, value.2)) (attribute, rest) valued.2 in
    let gap = gap_takes text behind.0 behind.1 in
    let named = name_takes behind.0 name.0.0 name.0.1 name.1 in
    let held = value_takes valued.0 value.0.0 value.0.1 value.0.2 value.1 in
    let read : IsAttribute (made name.0.0 value.0.0 value.0.1) text value.0.2 = record {
      gap = gap.0;
      named = name.0.1;
      valued = valued.0;
      inside = held.inside;
      quote = held.quote;
      apart = gap.1.some;
      white = gap.1.white;
      names = gap.1.whole ∙ ap (λ (t : List ℕ). gap.0 ++ t) named.0;
      equals = block_takes (codes "=") name.0.1 valued.0 valued.1;
      opens = held.opens;
      closes = held.closes;
      name_form = named.1;
      value_form = held.form;
      placed = held.placed;
    } in
    subst (λ (p : XmlAttribute × List ℕ). IsAttribute p.0 text p.1) (some_is (made name.0.0 value.0.0 value.0.1, value.0.2) (attribute, rest) value.2) read

pub attribute_again : (attribute : XmlAttribute) (text rest : List ℕ) → IsAttribute attribute text rest → attribute_at text ≡ Some (attribute, rest)
unfolding attribute_at
attribute_again attribute text rest is =
    rw (
      gap_again is.gap text (attribute.name ++ is.named) (record { some = is.apart; white = is.white; whole = is.names }) (blanks_stop attribute.name is.named is.name_form),
      name_again attribute.name is.named is.name_form (block_stops (is_in Name) (codes "=") is.named is.valued blank_not_in (equals_ends is.valued) is.equals),
      block_again (codes "=") is.named is.valued equals_solid is.equals,
      value_again is.valued attribute.value attribute.left rest (record { quote = is.quote; inside = is.inside; opens = is.opens; closes = is.closes; form = is.value_form; placed = is.placed }),
    ) refl

pub attribute_begins : (attribute : XmlAttribute) (text rest : List ℕ) → IsAttribute attribute text rest → begins_attribute text ≡ true
unfolding begins_attribute
attribute_begins attribute text rest is =
    ap (λ (t : List ℕ). begins_name (rest_of (has Blank) t)) is.names
    ∙ ap begins_name (rest-append (has Blank) is.gap (attribute.name ++ is.named) is.white (blanks_stop attribute.name is.named is.name_form))
    ∙ begins_before attribute.name is.named is.name_form

-- a name ends before an attribute
pub attribute_stops : (attribute : XmlAttribute) (text rest : List ℕ) → IsAttribute attribute text rest → StopsAt (is_in Name) text
attribute_stops attribute text rest is = subst (StopsAt (is_in Name)) (sym is.names) (at_gap is.gap is.apart is.white)
  where
    at_gap : (gap : List ℕ) → gap ≢ [] → Passes (has Blank) gap → StopsAt (is_in Name) (gap ++ (attribute.name ++ is.named))
    at_gap [] some white = absurd (some refl)
    at_gap (byte ∷ gap) some white = blank_not_in byte (and_parts (has Blank byte) (list_all (has Blank) gap) white).0

pub attribute-length : (attribute : XmlAttribute) (text rest : List ℕ) → IsAttribute attribute text rest → length rest < length text
attribute-length attribute text rest is =
    omega (
      arith,
      ap length is.names,
      length-append is.gap (attribute.name ++ is.named),
      length-append attribute.name is.named,
      Follows-length (codes "=") is.named is.valued is.equals,
      Follows-length (mark_of is.quote) is.valued is.inside is.opens,
      ap length is.closes,
      length-append attribute.value (mark_of is.quote ++ rest),
      length-append (mark_of is.quote) rest,
    )

pub attribute_shrinks : Shrinks attribute_at
attribute_shrinks text x e = attribute-length x.0 text x.1 (attribute_takes text x.0 x.1 e)
