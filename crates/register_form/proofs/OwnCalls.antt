-- The calls of values on the type of one field.
use Rattle.std.proofs.Common.{ℕ, ◌≡◌, Bool, true, false, cond, not, ◌&&◌, ◌⊎◌, inl, inr, List, [], ◌∷◌, ◌++◌, map, flat_map, bytes_eq, refl, sym, ap, ap₂, ◌∙◌, arith, append-nil}
use Rattle.std.specs.List.{list_any}
use Rattle.std.proofs.lemmas.Bool.{or_parts, not-true}
use Rattle.std.proofs.lemmas.Bool.Decides.{nat_tests}
use Rattle.std.proofs.lemmas.Grind.{flat_map-append}
use Rattle.std.proofs.lemmas.Slice.Eq.{bytes_eq-Decides}
use Rattle.pac_base.specs.declared.width.Width.{Width}
use Rattle.pac_base.specs.declared.width.Width.TheVariants.{W8, W16, W32, W64}
use Rattle.frag_tree.specs.declared.register.NumberCall.{NumberCall}
use Rattle.frag_tree.specs.declared.register.Values.{Values}
use Rattle.frag_tree.specs.Registers.{kind_word}
use Rattle.frag_sem.specs.Modules.{are_distinct}
use Rattle.frag_sem.specs.ProxyTypes.{ProxyType, bit_reader, bit_writer, field_reader, field_writer, same_kind, same_type, same_width, values_type}
use Rattle.frag_sem.proofs.Lists.{both_true, turned}
use Rattle.register_form.specs.declared.register.Field.{Field}
use Rattle.register_form.specs.Fields.{block_if, is_bit, read_values, values_of, write_values}
use Rattle.register_form.specs.Forms.{markers_of, values_among}
use Rattle.register_form.proofs.Among.{Among}

-- ---- types

abbrev pub type_marker : ProxyType → List ℕ
type_marker (bit_reader marker) = marker
type_marker (field_reader marker width) = marker
type_marker (bit_writer kind marker) = marker
type_marker (field_writer marker width bits) = marker

and_false : (b c : Bool) → c ≡ false → (b && c) ≡ false
and_false true c h = h
and_false false c h = refl

false_and : (b c : Bool) → b ≡ false → (b && c) ≡ false
false_and true c h = absurd cc
false_and false c h = refl

pub other_type : (T U : ProxyType) → bytes_eq (type_marker T) (type_marker U) ≡ false → same_type T U ≡ false
other_type (bit_reader one) (bit_reader other) h = h
other_type (bit_reader one) (field_reader other also) h = refl
other_type (bit_reader one) (bit_writer also other) h = refl
other_type (bit_reader one) (field_writer other also as_many) h = refl
other_type (field_reader one width) (bit_reader other) h = refl
other_type (field_reader one width) (field_reader other also) h = false_and (bytes_eq one other) (same_width width also) h
other_type (field_reader one width) (bit_writer also other) h = refl
other_type (field_reader one width) (field_writer other also as_many) h = refl
other_type (bit_writer kind one) (bit_reader other) h = refl
other_type (bit_writer kind one) (field_reader other also) h = refl
other_type (bit_writer kind one) (bit_writer also other) h = and_false (same_kind kind also) (bytes_eq one other) h
other_type (bit_writer kind one) (field_writer other also as_many) h = refl
other_type (field_writer one width bits) (bit_reader other) h = refl
other_type (field_writer one width bits) (field_reader other also) h = refl
other_type (field_writer one width bits) (bit_writer also other) h = refl
other_type (field_writer one width bits) (field_writer other also as_many) h = false_and (bytes_eq one other) _ h

same_bytes : (m : List ℕ) → bytes_eq m m ≡ true
same_bytes m = (bytes_eq-Decides m m).1 refl

widths_same : (w : Width) → same_width w w ≡ true
widths_same W8 = refl
widths_same W16 = refl
widths_same W32 = refl
widths_same W64 = refl

-- each type is its own
pub own_type : (T : ProxyType) → same_type T T ≡ true
own_type (bit_reader m) = same_bytes m
own_type (field_reader m width) = rw (same_bytes m) (widths_same width)
own_type (bit_writer kind m) = rw (same_bytes (kind_word kind)) (same_bytes m)
own_type (field_writer m width bits) = rw (same_bytes m) (rw (widths_same width) (grind (arith, nat_tests)))

-- ---- calls on a type

module _ {X : Type 0} (T : ProxyType) (calls : Values → List X) where
  -- what a block has on the type
  abbrev pub on : Values → List X
  on block = cond (same_type T (values_type block)) (calls block) []

  on_if : (allowed : Bool) (of : List NumberCall) (block : Values) → on block ≡ [] → flat_map on (block_if allowed of block) ≡ []
  on_if allowed [] block none = refl
  on_if true (call ∷ of) block none = ap (λ xs. xs ++ []) none
  on_if false (call ∷ of) block none = refl

  apart : (block : Values) → bytes_eq (type_marker T) (type_marker (values_type block)) ≡ false → on block ≡ []
  apart block h = ap (λ b. cond b (calls block) []) (other_type T (values_type block) h)

  read_marker : (b : Bool) (field : Field) → type_marker (values_type (read_values b field)) ≡ field.marker
  read_marker true field = refl
  read_marker false field = refl

  write_marker : (b : Bool) (field : Field) → type_marker (values_type (write_values b field)) ≡ field.marker
  write_marker true field = refl
  write_marker false field = refl

  -- a field with another marker has none
  of_other : (field : Field) → bytes_eq (type_marker T) field.marker ≡ false → flat_map on (values_of field) ≡ []
  of_other field h =
      flat_map-append on (block_if field.readable field.tests (read_values (is_bit field) field)) (block_if field.writable field.sets (write_values (is_bit field) field))
      ∙ ap₂ (λ xs ys. xs ++ ys)
      (on_if field.readable field.tests (read_values (is_bit field) field) (apart (read_values (is_bit field) field) (ap (bytes_eq (type_marker T)) (read_marker (is_bit field) field) ∙ h)))
      (on_if field.writable field.sets (write_values (is_bit field) field) (apart (write_values (is_bit field) field) (ap (bytes_eq (type_marker T)) (write_marker (is_bit field) field) ∙ h)))

  of_others : (fields : List Field) → list_any (bytes_eq (type_marker T)) (markers_of fields) ≡ false → flat_map on (values_among fields) ≡ []
  of_others [] none = refl
  of_others (field ∷ fields) none =
      let both = or_parts (bytes_eq (type_marker T) field.marker) (list_any (bytes_eq (type_marker T)) (markers_of fields)) none in
      flat_map-append on (values_of field) (values_among fields) ∙ ap₂ (λ xs ys. xs ++ ys) (of_other field both.0) (of_others fields both.1)

-- a name that none of a list has, is not that of one of them
not_this : (name : List ℕ) (fields : List Field) (field : Field) → list_any (bytes_eq name) (markers_of fields) ≡ false → Among field fields → bytes_eq name field.marker ≡ false
not_this name [] field none h = absurd h
not_this name (first ∷ fields) field none (inl same) = ap (λ (p : Field). bytes_eq name p.marker) (sym same) ∙ (or_parts (bytes_eq name first.marker) (list_any (bytes_eq name) (markers_of fields)) none).0
not_this name (first ∷ fields) field none (inr later) = not_this name fields field (or_parts (bytes_eq name first.marker) (list_any (bytes_eq name) (markers_of fields)) none).1 later

-- where markers are distinct, the calls on the type of a field are those of the field
own_calls : {X : Type 0} (T : ProxyType) (calls : Values → List X) (field : Field) → type_marker T ≡ field.marker → (fields : List Field) → are_distinct bytes_eq (markers_of fields) ≡ true → Among field fields
    → flat_map (on T calls) (values_among fields) ≡ flat_map (on T calls) (values_of field)
unfolding are_distinct
own_calls T calls field is [] distinct h = absurd h
own_calls T calls field is (first ∷ fields) distinct h = by h (own_calls T calls field is fields both.1)
  where
    both : (not (list_any (bytes_eq first.marker) (markers_of fields)) ≡ true) × (are_distinct bytes_eq (markers_of fields) ≡ true)
    both = both_true (not (list_any (bytes_eq first.marker) (markers_of fields))) (are_distinct bytes_eq (markers_of fields)) distinct

    none : list_any (bytes_eq first.marker) (markers_of fields) ≡ false
    none = not-true (list_any (bytes_eq first.marker) (markers_of fields)) both.0

    by : (first ≡ field) ⊎ Among field fields → (Among field fields → flat_map (on T calls) (values_among fields) ≡ flat_map (on T calls) (values_of field)) → flat_map (on T calls) (values_of first ++ values_among fields) ≡ flat_map (on T calls) (values_of field)
    by (inl same) more =
        flat_map-append (on T calls) (values_of first) (values_among fields)
        ∙ (ap (λ xs. flat_map (on T calls) (values_of first) ++ xs) (of_others T calls fields (ap (λ m. list_any (bytes_eq m) (markers_of fields)) (is ∙ ap (λ (f : Field). f.marker) (sym same)) ∙ none))
        ∙ (append-nil (flat_map (on T calls) (values_of first)) ∙ ap (λ f. flat_map (on T calls) (values_of f)) same))
    by (inr later) more =
        flat_map-append (on T calls) (values_of first) (values_among fields)
        ∙ ap₂ (λ xs ys. xs ++ ys) (of_other T calls first (ap (λ m. bytes_eq m first.marker) is ∙ turned first.marker field.marker (not_this first.marker fields field none later))) (more later)

-- ---- of one field

-- a block that stands where it has calls, has them on its own type
block_calls : {X : Type 0} (T : ProxyType) (calls : Values → List X) (of : List NumberCall) (f : NumberCall → X) (block : Values) → values_type block ≡ T → calls block ≡ map f of → flat_map (on T calls) (block_if true of block) ≡ map f of
block_calls T calls [] f block is has = refl
block_calls T calls (call ∷ of) f block is has =
    append-nil (on T calls block) ∙ (ap (λ U. cond (same_type T U) (calls block) []) is ∙ (ap (λ b. cond b (calls block) []) (own_type T) ∙ has))

-- one of another type has none
block_none : {X : Type 0} (T : ProxyType) (calls : Values → List X) (allowed : Bool) (of : List NumberCall) (block : Values) → same_type T (values_type block) ≡ false → flat_map (on T calls) (block_if allowed of block) ≡ []
block_none T calls allowed [] block other = refl
block_none T calls true (call ∷ of) block other = ap (λ b. cond b (calls block) [] ++ []) other
block_none T calls false (call ∷ of) block other = refl

-- the calls that read a field, among those of all fields
pub read_calls : {X : Type 0} (T : ProxyType) (calls : Values → List X) (f : NumberCall → X) (field : Field) (b : Bool) → is_bit field ≡ b → field.readable ≡ true
    → type_marker T ≡ field.marker → values_type (read_values b field) ≡ T → calls (read_values b field) ≡ map f field.tests → same_type T (values_type (write_values b field)) ≡ false
    → (fields : List Field) → are_distinct bytes_eq (markers_of fields) ≡ true → Among field fields
    → flat_map (on T calls) (values_among fields) ≡ map f field.tests
read_calls T calls f field b is readable marked type has other fields distinct among =
    own_calls T calls field marked fields distinct among
    ∙ (flat_map-append (on T calls) (block_if field.readable field.tests (read_values (is_bit field) field)) (block_if field.writable field.sets (write_values (is_bit field) field))
    ∙ (ap₂ (λ xs ys. xs ++ ys)
    (ap₂ (λ r c. flat_map (on T calls) (block_if r field.tests (read_values c field))) readable is ∙ block_calls T calls field.tests f (read_values b field) type has)
    (ap (λ c. flat_map (on T calls) (block_if field.writable field.sets (write_values c field))) is ∙ block_none T calls field.writable field.sets (write_values b field) other)
    ∙ append-nil (map f field.tests)))

-- those that write it
pub written_calls : {X : Type 0} (T : ProxyType) (calls : Values → List X) (f : NumberCall → X) (field : Field) (b : Bool) → is_bit field ≡ b → field.writable ≡ true
    → type_marker T ≡ field.marker → values_type (write_values b field) ≡ T → calls (write_values b field) ≡ map f field.sets → same_type T (values_type (read_values b field)) ≡ false
    → (fields : List Field) → are_distinct bytes_eq (markers_of fields) ≡ true → Among field fields
    → flat_map (on T calls) (values_among fields) ≡ map f field.sets
written_calls T calls f field b is writable marked type has other fields distinct among =
    own_calls T calls field marked fields distinct among
    ∙ (flat_map-append (on T calls) (block_if field.readable field.tests (read_values (is_bit field) field)) (block_if field.writable field.sets (write_values (is_bit field) field))
    ∙ ap₂ (λ xs ys. xs ++ ys)
    (ap (λ c. flat_map (on T calls) (block_if field.readable field.tests (read_values c field))) is ∙ block_none T calls field.readable field.tests (read_values b field) other)
    (ap₂ (λ r c. flat_map (on T calls) (block_if r field.sets (write_values c field))) writable is ∙ block_calls T calls field.sets f (write_values b field) type has))
