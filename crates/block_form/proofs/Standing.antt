-- Where the children of a block stand, by the layout of its struct.
use Rattle.std.proofs.Common.{◌≡◌, ℕ, ◌+◌, ◌-◌, ◌*◌, ◌%◌, ◌≤◌, Bool, true, false, cond, ◌||◌, ◌==◌, List, [], ◌∷◌, ◌++◌, find, Option, Some, None, option_map, option_and_then, unwrap_or, refl, sym, ap, ap₂, ◌∙◌, arith, bytes_eq, if◌then◌else◌, nat_lt}
use Rattle.std.specs.Int.{next_multiple_of}
use Rattle.std.specs.Option.{is_some}
use Rattle.std.specs.List.{AllByRecursion}
use Rattle.std.proofs.lemmas.Bool.{false≢true}
use Rattle.std.proofs.lemmas.Bool.Decides.{nat_tests}
use Rattle.std.proofs.Math.Nat.{mod-one}
use Rattle.frag_tree.specs.declared.block.StructField.{StructField}
use Rattle.frag_tree.specs.Trees.{BlockTree}
use Rattle.frag_sem.specs.CallPlaces.{admits, count_of, field_named, offset_of, type_count}
use Rattle.frag_sem.specs.Layout.{Extent, Extents, end_behind, extent_or_none, extents, place_behind, place_of, placed_behind, type_extent}
use Rattle.frag_sem.specs.Modules.{beside}
use Rattle.frag_sem.proofs.Placing.{next_same}
use Rattle.block_form.specs.declared.child.Array.{Array}
use Rattle.block_form.specs.declared.child.Child.{Child}
use Rattle.block_form.specs.Children.{array_fits, bytes_held, child_end, child_extent, child_place, element_of, field_of, held, place_in}
use Rattle.block_form.specs.Fields.{fields_from}
use Rattle.block_form.specs.Forms.{access_of, body_of, fields_of, is_named, taken_of}
use Rattle.block_form.specs.Gaps.{IsNoGap, NoGaps, gap_field}
use Rattle.block_form.specs.Laws.{AccessorsLead, AreKnown, LeadsTo}
use Rattle.block_form.proofs.Names.{Owns, all_found, apart, find_own, owns}
use Rattle.block_form.proofs.Taking.{AreFields, all_steps, are_fields, equal, taken_have}

-- ---- one child in its place

pub extent_held : (known : Extents) (child : Child) → beside (element_of child) known ≡ Some (child_extent child) → type_extent known (field_of child).holds ≡ record { size = bytes_held child.size child.array; align = child.align }
extent_held known child is = by child.array
  where
    by : (array : Option Array) → type_extent known (held (element_of child) array) ≡ record { size = bytes_held child.size array; align = child.align }
    by None = ap extent_or_none is
    by (Some array) = ap (λ found. record { size = array.count * (extent_or_none found).size; align = (extent_or_none found).align }) is

field_place : (known : Extents) (child : Child) → beside (element_of child) known ≡ Some (child_extent child) → child.offset % child.align ≡ 0 → place_behind known child.offset (field_of child) ≡ child.offset
field_place known child is fits = ap (λ extent. next_multiple_of child.offset extent.align) (extent_held known child is) ∙ next_same child.offset child.align fits

pub field_end : (known : Extents) (child : Child) → beside (element_of child) known ≡ Some (child_extent child) → child.offset % child.align ≡ 0 → end_behind known child.offset (field_of child) ≡ child_end child
field_end known child is fits = ap₂ (λ (m n : ℕ). m + n) (field_place known child is fits) (ap (λ extent. extent.size) (extent_held known child is))

pub gap_end : (known : Extents) (end gaps offset : ℕ) → end ≤ offset → end_behind known end (gap_field gaps (offset - end)) ≡ offset
gap_end known end gaps offset le = ap (λ (n : ℕ). n + (offset - end)) (next_same end 1 (mod-one end)) ∙ omega arith

pub no_gap : (end offset : ℕ) → end ≤ offset → nat_lt end offset ≡ false → end ≡ offset
no_gap end offset le past = grind (arith, nat_tests)

-- ---- the fields, found by name

-- by a name that no gap has, a field is found where a child is, at its offset
found : (known : Extents) (name : List ℕ) (end gaps : ℕ) (taken : List Child) → AreKnown known taken → IsNoGap name → AreFields end taken
    → find (λ entry. bytes_eq name entry.0.name) (placed_behind known end (fields_from end gaps taken)) ≡ option_map (λ child. (field_of child, child.offset)) (find (λ child. bytes_eq name child.name) taken)
unfolding placed_behind fields_from AreFields
found known name end gaps [] is apart are = refl
found known name end gaps (child ∷ others) is apart are = by (nat_lt end child.offset) refl (λ n. found known name (child_end child) n others is.1 apart are.1)
  where
    first : (b : Bool) (rest : Option (StructField × ℕ)) (more : Option Child) → rest ≡ option_map (λ child. (field_of child, child.offset)) more
        → cond b (Some (field_of child, child.offset)) rest ≡ option_map (λ child. (field_of child, child.offset)) (cond b (Some child) more)
    first true rest more h = refl
    first false rest more h = h

    here : (start : ℕ) (rest : List StructField) → start ≡ child.offset
        → find (λ entry. bytes_eq name entry.0.name) (placed_behind known (child_end child) rest) ≡ option_map (λ child. (field_of child, child.offset)) (find (λ child. bytes_eq name child.name) others)
        → find (λ entry. bytes_eq name entry.0.name) (placed_behind known start (field_of child ∷ rest)) ≡ option_map (λ child. (field_of child, child.offset)) (find (λ child. bytes_eq name child.name) (child ∷ others))
    here start rest at more =
        ap (λ (n : ℕ). find (λ entry. bytes_eq name entry.0.name) (placed_behind known n (field_of child ∷ rest))) at
        ∙ ((λ i. cond (bytes_eq name child.name) (Some (field_of child, field_place known child is.0 are.0.aligned i)) (find (λ entry. bytes_eq name entry.0.name) (placed_behind known (field_end known child is.0 are.0.aligned i) rest)))
        ∙ first (bytes_eq name child.name) (find (λ entry. bytes_eq name entry.0.name) (placed_behind known (child_end child) rest)) (find (λ child. bytes_eq name child.name) others) more)

    by : (b : Bool) → nat_lt end child.offset ≡ b
        → ((n : ℕ) → find (λ entry. bytes_eq name entry.0.name) (placed_behind known (child_end child) (fields_from (child_end child) n others)) ≡ option_map (λ child. (field_of child, child.offset)) (find (λ child. bytes_eq name child.name) others))
        → find (λ entry. bytes_eq name entry.0.name) (placed_behind known end ((if b then gap_field gaps (child.offset - end) ∷ [] else []) ++ (field_of child ∷ fields_from (child_end child) (if b then gaps + 1 else gaps) others)))
        ≡ option_map (λ child. (field_of child, child.offset)) (find (λ child. bytes_eq name child.name) (child ∷ others))
    by true below more =
        rw (apart gaps) (here (end_behind known end (gap_field gaps (child.offset - end))) (fields_from (child_end child) (gaps + 1) others) (gap_end known end gaps child.offset are.0.reaches) (more (gaps + 1)))
    by false past more = here end (fields_from (child_end child) gaps others) (no_gap end child.offset are.0.reaches past) (more gaps)

-- the same without the places
pub field_found : (name : List ℕ) (end gaps : ℕ) (taken : List Child) → IsNoGap name → find (λ field. bytes_eq name field.name) (fields_from end gaps taken) ≡ option_map field_of (find (λ child. bytes_eq name child.name) taken)
unfolding fields_from
field_found name end gaps [] apart = refl
field_found name end gaps (child ∷ others) apart = by (nat_lt end child.offset) (λ n. field_found name (child_end child) n others apart)
  where
    first : (b : Bool) (rest : Option StructField) (more : Option Child) → rest ≡ option_map field_of more → cond b (Some (field_of child)) rest ≡ option_map field_of (cond b (Some child) more)
    first true rest more h = refl
    first false rest more h = h

    by : (b : Bool) → ((n : ℕ) → find (λ field. bytes_eq name field.name) (fields_from (child_end child) n others) ≡ option_map field_of (find (λ child. bytes_eq name child.name) others))
        → find (λ field. bytes_eq name field.name) ((if b then gap_field gaps (child.offset - end) ∷ [] else []) ++ (field_of child ∷ fields_from (child_end child) (if b then gaps + 1 else gaps) others))
        ≡ option_map field_of (find (λ child. bytes_eq name child.name) (child ∷ others))
    by true more =
        rw (apart gaps) (first (bytes_eq name child.name) (find (λ field. bytes_eq name field.name) (fields_from (child_end child) (gaps + 1) others)) (find (λ child. bytes_eq name child.name) others) (more (gaps + 1)))
    by false more = first (bytes_eq name child.name) (find (λ field. bytes_eq name field.name) (fields_from (child_end child) gaps others)) (find (λ child. bytes_eq name child.name) others) (more gaps)

-- ---- each accessor leads to its child

-- an array in a struct has its members where they are stated
member_place : (stride size k count : ℕ) → ((stride == size) || (count == 1)) ≡ true → nat_lt k count ≡ true → k * size ≡ k * stride
member_place stride size k count h below = by (stride == size) refl h
  where
    first : (k count : ℕ) → nat_lt k count ≡ true → count ≡ 1 → k ≡ 0
    first k count less one = grind (arith, nat_tests)

    zero_times : 0 * size ≡ 0 * stride
    zero_times = omega arith

    by : (b : Bool) → (stride == size) ≡ b → (b || (count == 1)) ≡ true → k * size ≡ k * stride
    by true e h = ap (λ (n : ℕ). k * n) (sym (equal stride size e))
    by false e h = let none : k ≡ 0 = first k count below (equal count 1 h) in ap (λ (n : ℕ). n * size) none ∙ (zero_times ∙ sym (ap (λ (n : ℕ). n * stride) none))

-- what the block tells of one child
record Told (unit : BlockTree) (child : Child) (taken : Bool) : Type 0 where
  known : beside (element_of child) (extents unit.inside) ≡ Some (child_extent child)
  place : place_of unit child.name ≡ option_map (λ (other : Child). other.offset) (cond taken (Some child) None)
  field : field_named child.name unit.head.fields ≡ option_map field_of (cond taken (Some child) None)
  steps : taken ≡ true → array_fits child.size child.array ≡ true

counts : (unit : BlockTree) (child : Child) (taken : Bool) → Told unit child taken → count_of unit (access_of taken child) ≡ option_map (λ (array : Array). array.count) child.array
counts unit child true told = by child.array refl
  where
    by : (array : Option Array) → child.array ≡ array
        → count_of unit (record { name = child.name; is_indexed = is_some array; element = element_of child; body = body_of true child.name child.offset array }) ≡ option_map (λ (array : Array). array.count) array
    by None e = refl
    by (Some array) e = ap (option_and_then (λ found. type_count found.holds)) told.field ∙ ap (λ o. type_count (held (element_of child) o)) e
counts unit child false told = by child.array
  where
    by : (array : Option Array) → count_of unit (record { name = child.name; is_indexed = is_some array; element = element_of child; body = body_of false child.name child.offset array }) ≡ option_map (λ (array : Array). array.count) array
    by None = refl
    by (Some array) = refl

leads : (unit : BlockTree) (child : Child) (taken : Bool) → Told unit child taken → (index : Option ℕ) → admits (option_map (λ (array : Array). array.count) child.array) index ≡ true → offset_of unit (access_of taken child) index ≡ child_place child index
leads unit child true told index h = by child.array index h (told.steps refl)
  where
    by : (array : Option Array) (index : Option ℕ) → admits (option_map (λ (array : Array). array.count) array) index ≡ true → array_fits child.size array ≡ true
        → offset_of unit (record { name = child.name; is_indexed = is_some array; element = element_of child; body = body_of true child.name child.offset array }) index ≡ place_in child.offset array index
    by None index h fits = ap (λ o. unwrap_or o 0) told.place
    by (Some array) None h fits = absurd (false≢true h)
    by (Some array) (Some k) h fits =
        ap₂ (λ (o : Option ℕ) (p : Option Extent). unwrap_or o 0 + k * (extent_or_none p).size) told.place told.known
        ∙ ap (λ (n : ℕ). child.offset + n) (member_place array.stride child.size k array.count fits h)
leads unit child false told index h = by child.array
  where
    by : (array : Option Array) → offset_of unit (record { name = child.name; is_indexed = is_some array; element = element_of child; body = body_of false child.name child.offset array }) index ≡ place_in child.offset array index
    by None = refl
    by (Some array) = refl

-- one of the children, with what all have
tells : (unit : BlockTree) (children : List Child) → AreKnown (extents unit.inside) children → unit.head.fields ≡ fields_of children
    → (child : Child) → beside (element_of child) (extents unit.inside) ≡ Some (child_extent child) → IsNoGap child.name → Owns child children → Told unit child (is_named child.name (taken_of children))
tells unit children known fields child is apart own =
    let owned = taken_have (λ other. bytes_eq child.name other.name ≡ true → other ≡ child) children own in
    let own_found = find_own child (taken_of children) owned in
    record {
      known = is;
      place =
          ap (λ fields. option_map (λ (entry : StructField × ℕ). entry.1) (find (λ entry. bytes_eq child.name entry.0.name) (placed_behind (extents unit.inside) 0 fields))) fields
          ∙ (ap (option_map (λ (entry : StructField × ℕ). entry.1)) (found (extents unit.inside) child.name 0 0 (taken_of children) (taken_have (λ child. beside (element_of child) (extents unit.inside) ≡ Some (child_extent child)) children known) apart (are_fields 0 _) ∙ ap (option_map (λ (other : Child). (field_of other, other.offset))) own_found)
          ∙ twice (cond (is_named child.name (taken_of children)) (Some child) None));
      field = ap (field_named child.name) fields ∙ (field_found child.name 0 0 (taken_of children) apart ∙ ap (option_map field_of) own_found);
      steps = λ there. all_found (λ other. array_fits other.size other.array ≡ true) child (taken_of children) owned there (all_steps 0 (taken_of children) (are_fields 0 _));
    }
  where
    twice : (o : Option Child) → option_map (λ (entry : StructField × ℕ). entry.1) (option_map (λ (other : Child). (field_of other, other.offset)) o) ≡ option_map (λ (other : Child). other.offset) o
    twice None = refl
    twice (Some other) = refl

pub accessors_lead : AccessorsLead
accessors_lead unit children distinct no_gaps known fields = each children known no_gaps (owns children (apart children distinct))
  where
    each : (some : List Child) → AreKnown (extents unit.inside) some → NoGaps some → AllByRecursion (λ child. Owns child children) some
        → AllByRecursion (λ child. LeadsTo unit child (access_of (is_named child.name (taken_of children)) child)) some
    each [] is gaps own = tt
    each (child ∷ others) is gaps own =
        let told = tells unit children known fields child is.0 gaps.0 own.0 in
        (record { count = counts unit child (is_named child.name (taken_of children)) told; place = leads unit child (is_named child.name (taken_of children)) told }, each others is.1 gaps.1 own.1)
