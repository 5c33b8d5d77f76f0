-- Values behind spaces are read as they are spelled.
use Rattle.std.proofs.Common.{◌≡◌, ℕ, true, List, [], ◌∷◌, ◌++◌, Some, refl, sym, ap, subst, ◌∙◌, inl, inr, append-nil}
use Rattle.std.specs.Prelude.{codes, None}
use Rattle.text_scan.specs.Fronts.{front_of, rest_of, stripped_of, StopsAt}
use Rattle.text_scan.proofs.FixedText.{stripped-None, stripped-Some}
use Rattle.text_scan.proofs.Fronts.{front-rest, front_passes, rest_stops, rest-append}
use Rattle.text_scan.proofs.Lists.{given}
use Rattle.text_scan.proofs.Steps.{bind_some, cases_option, some_is}
use Rattle.yaml_block.specs.declared.scalar.Place.TheVariants.{Line}
use Rattle.yaml_block.specs.declared.value.Value.{Value}
use Rattle.yaml_block.specs.declared.value.Value.TheVariants.{Scalar, Sequence, Mapping}
use Rattle.yaml_block.specs.Scalars.{scalar_at, stops}
use Rattle.yaml_block.specs.Spaces.{ends, is_space}
use Rattle.yaml_block.specs.Values.{mapping_at, of_mapping, of_scalar, of_sequence, sequence_at, value_at}
use Rattle.patch_text.specs.Parts.{AreSpaces, IsEnd}
use Rattle.patch_text.specs.Scalars.{IsScalar}
use Rattle.patch_text.specs.Contents.{IsLastValue, IsValue}
use Rattle.patch_text.proofs.Ends.{end_behind, ends_again, ends_take}
use Rattle.patch_text.proofs.Flow.{list_again, list_takes, mapping_again, mapping_takes}
use Rattle.patch_text.proofs.Plain.{comment_stops, nothing_stops}
use Rattle.patch_text.proofs.Scalars.{Begins, begins_clear, scalar_again, scalar_begins, scalar_not_at, scalar_takes}

-- the value, and behind it nothing that counts
record IsValueRead (value : Value) (text : List ℕ) : Type 0 where
  rest : List ℕ
  value_there : IsValue value text rest
  end_there : IsEnd rest

list_read : (text inside : List ℕ) (value : Value) (rest : List ℕ) → text ≡ codes "[" ++ inside → of_sequence (sequence_at inside) ≡ Some (value, rest) → IsEnd rest → IsValueRead value text
list_read text inside value rest opens e end =
    let one = bind_some (sequence_at inside) (λ x. given (Sequence x.0, x.1)) (value, rest) e in
    let same = some_is (Sequence one.0.0, one.0.1) (value, rest) one.2 in
    let there : IsValue (Sequence one.0.0) text one.0.1 = (inside, opens, list_takes inside one.0.0 one.0.1 one.1) in
    record { rest = rest; value_there = subst (λ (p : Value × List ℕ). IsValue p.0 text p.1) same there; end_there = end }

mapping_read : (text inside : List ℕ) (value : Value) (rest : List ℕ) → text ≡ codes "{" ++ inside → of_mapping (mapping_at inside) ≡ Some (value, rest) → IsEnd rest → IsValueRead value text
mapping_read text inside value rest opens e end =
    let one = bind_some (mapping_at inside) (λ x. given (Mapping x.0, x.1)) (value, rest) e in
    let same = some_is (Mapping one.0.0, one.0.1) (value, rest) one.2 in
    let there : IsValue (Mapping one.0.0) text one.0.1 = (inside, opens, mapping_takes inside one.0.0 one.0.1 one.1) in
    record { rest = rest; value_there = subst (λ (p : Value × List ℕ). IsValue p.0 text p.1) same there; end_there = end }

scalar_read : (text : List ℕ) (value : Value) (rest : List ℕ) → StopsAt is_space text → of_scalar (scalar_at Line text) ≡ Some (value, rest) → IsEnd rest → IsValueRead value text
scalar_read text value rest clear e end =
    let one = bind_some (scalar_at Line text) (λ x. given (Scalar x.0, x.1)) (value, rest) e in
    let same = some_is (Scalar one.0.0, one.0.1) (value, rest) one.2 in
    let read = scalar_takes Line text one.0.0 one.0.1 clear one.1 in
    let end' : IsEnd one.0.1 = subst (λ (p : Value × List ℕ). IsEnd p.1) (sym same) end in
    let there : IsValueRead (Scalar one.0.0) text = record { rest = read.behind ++ one.0.1; value_there = read.scalar_there; end_there = end_behind read.behind one.0.1 read.spaces end' } in
    subst (λ (p : Value × List ℕ). IsValueRead p.0 text) same there

value_takes : (text : List ℕ) (value : Value) (rest : List ℕ) → StopsAt is_space text → value_at text ≡ Some (value, rest) → IsEnd rest → IsValueRead value text
unfolding value_at
value_takes text value rest clear e end =
    elim (cases_option (stripped_of (codes "[") text)) [
      | inr bracket ↦
          let e' : of_sequence (sequence_at bracket.0) ≡ Some (value, rest) = rw bracket.1 at e in
          list_read text bracket.0 value rest (stripped-Some (codes "[") text bracket.0 bracket.1) e' end
      | inl none ↦ elim (cases_option (stripped_of (codes "{") text)) [
        | inr brace ↦
            let e' : of_mapping (mapping_at brace.0) ≡ Some (value, rest) = rw (none, brace.1) at e in
            mapping_read text brace.0 value rest (stripped-Some (codes "{") text brace.0 brace.1) e' end
        | inl other ↦
            let e' : of_scalar (scalar_at Line text) ≡ Some (value, rest) = rw (none, other) at e in
            scalar_read text value rest clear e' end
      ]
    ]

-- ---- the other way

-- what counts for nothing, as spaces and what stops a scalar
record IsStopped (text : List ℕ) : Type 0 where
  behind : List ℕ
  rest : List ℕ
  spaces : AreSpaces behind
  whole : text ≡ behind ++ rest
  stop : stops Line rest ≡ true
  end_there : IsEnd rest

stopped : (text : List ℕ) → IsEnd text → IsStopped text
stopped text is =
    elim is [
      | inl spaces ↦ record { behind = text; rest = []; spaces = spaces; whole = sym (append-nil text); stop = nothing_stops Line; end_there = inl refl }
      | inr at ↦ record {
        behind = at.0;
        rest = at.1;
        spaces = at.2;
        whole = at.4;
        stop = ap (stops Line) at.3.1 ∙ comment_stops Line at.3.0;
        end_there = inr ([], at.1, refl, at.3, refl);
      }
    ]

abbrev IsReadOff : Value → List ℕ → Type 0
IsReadOff value text = (rest : List ℕ) × (value_at text ≡ Some (value, rest)) × (ends rest ≡ true)

scalar_there : (text : List ℕ) → stripped_of (codes "[") text ≡ None → stripped_of (codes "{") text ≡ None → value_at text ≡ of_scalar (scalar_at Line text)
unfolding value_at
scalar_there text bracket brace = rw (bracket, brace) refl

list_at : (inside : List ℕ) → value_at (91 ∷ inside) ≡ of_sequence (sequence_at inside)
unfolding value_at stripped_of
list_at inside = refl

mapping_there : (inside : List ℕ) → value_at (123 ∷ inside) ≡ of_mapping (mapping_at inside)
unfolding value_at stripped_of
mapping_there inside = refl

value_again : (value : Value) (text rest : List ℕ) → IsValue value text rest → IsEnd rest → IsReadOff value text
value_again (Scalar scalar) text rest is end =
    let at = stopped rest end in
    let read = scalar_again Line scalar text at.behind at.rest (subst (IsScalar Line scalar text) at.whole is) at.spaces at.stop in
    let bracket = stripped-None (codes "[") text (λ after e. scalar_not_at Line scalar text rest after 91 is refl refl refl e) in
    let brace = stripped-None (codes "{") text (λ after e. scalar_not_at Line scalar text rest after 123 is refl refl refl e) in
    (read.0 ++ at.rest, scalar_there text bracket brace ∙ ap of_scalar read.2, ends_again (read.0 ++ at.rest) (end_behind read.0 at.rest read.1 at.end_there))
value_again (Sequence scalars) text rest is end =
    (rest, ap value_at is.1 ∙ list_at is.0 ∙ ap of_sequence (list_again is.0 scalars rest is.2), ends_again rest end)
value_again (Mapping pairs) text rest is end =
    (rest, ap value_at is.1 ∙ mapping_there is.0 ∙ ap of_mapping (mapping_again is.0 pairs rest is.2), ends_again rest end)

pub value_begins : (value : Value) (text rest : List ℕ) → IsValue value text rest → Begins text
value_begins (Scalar scalar) text rest is = scalar_begins Line scalar text rest is
value_begins (Sequence scalars) text rest is = record { byte = 91; more = is.0; whole = is.1; no_space = refl; no_hash = refl }
value_begins (Mapping pairs) text rest is = record { byte = 123; more = is.0; whole = is.1; no_space = refl; no_hash = refl }

-- ---- behind spaces

pub last_takes : (text : List ℕ) (value : Value) (rest : List ℕ) → value_at (rest_of is_space text) ≡ Some (value, rest) → ends rest ≡ true → IsLastValue value text
last_takes text value rest e end =
    let read = value_takes (rest_of is_space text) value rest (rest_stops is_space text) e (ends_take rest end) in
    record {
      gap = front_of is_space text;
      inside = rest_of is_space text;
      rest = read.rest;
      spaces = front_passes is_space text;
      opens = sym (front-rest is_space text);
      value_there = read.value_there;
      end_there = read.end_there;
    }

pub last_clear : (text : List ℕ) (value : Value) (v : IsLastValue value text) → rest_of is_space text ≡ v.inside
last_clear text value v = ap (rest_of is_space) v.opens ∙ rest-append is_space v.gap v.inside v.spaces (begins_clear v.inside (value_begins value v.inside v.rest v.value_there))

pub last_again : (text : List ℕ) (value : Value) → IsLastValue value text → (rest : List ℕ) × (value_at (rest_of is_space text) ≡ Some (value, rest)) × (ends rest ≡ true)
last_again text value v =
    let read = value_again value v.inside v.rest v.value_there v.end_there in
    (read.0, ap value_at (last_clear text value v) ∙ read.1, read.2)
