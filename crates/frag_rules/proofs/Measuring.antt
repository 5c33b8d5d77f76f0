-- What the code measures of a block is what the layout and the greatest ends say, cut.
use Rattle.std.proofs.Common.{◌≡◌, ℕ, ◌+◌, ◌-◌, ◌*◌, ◌/◌, ◌≤◌, max, Bool, true, false, nat_le, nat_lt, List, [], ◌∷◌, fold, find, Option, Some, None, option_map, option_and_then, refl, sym, ap, ap₂, ◌∙◌, if◌then◌else◌, arith}
use Rattle.std.specs.Prelude.{unwrap_or}
use Rattle.std.specs.Borrow.{Bor}
use Rattle.std.specs.Int.{next_multiple_of}
use Rattle.std.specs.Option.{option_or}
use Rattle.std.specs.Map.{lookup}
use Rattle.std.specs.Str.{bytes_eq}
use Rattle.std.proofs.lemmas.Bool.Decides.{nat_tests}
use Rattle.std.proofs.lemmas.Option.{none-some, same_Some}
use Rattle.pac_base.specs.declared.width.Width.{Width}
use Rattle.pac_base.specs.declared.width.Width.TheVariants.{W8, W16, W32, W64}
use Rattle.pac_base.specs.Widths.{bits_of}
use Rattle.frag_sem.specs.AddressEnds.{End, access_end, accessors_end, block_end, cut, ends, greater, last_index, module_end, end_fits, slot_fits}
use Rattle.frag_sem.specs.CallPlaces.{admits, body_count, body_offset, count_of, field_named, offset_of}
use Rattle.frag_sem.specs.Layout.{Extent, Extents, align_of, block_extent, element_extent, element_size, end_behind, end_of, extent_of, extent_or_none, extents, place_behind, place_of, placed_behind, register_extent, type_extent}
use Rattle.frag_sem.specs.Modules.{beside, module_of, top_block}
use Rattle.frag_sem.proofs.Chains.{comes_to, each_beside, ends_beside}
use Rattle.frag_tree.specs.declared.access.Access.{Access}
use Rattle.frag_tree.specs.declared.access.Body.{Body}
use Rattle.frag_tree.specs.declared.access.Body.TheVariants as body
use Rattle.frag_tree.specs.declared.block.Element.{Element}
use Rattle.frag_tree.specs.declared.block.FieldType.{FieldType}
use Rattle.frag_tree.specs.declared.block.FieldType.TheVariants as holds
use Rattle.frag_tree.specs.declared.block.StructField.{StructField}
use Rattle.frag_tree.specs.declared.krate.Slot.{Slot}
use Rattle.frag_tree.specs.Trees.{BlockTree, CrateTree, ModuleTree, Modules, one_block, one_register}
use Rattle.frag_rules.specs.declared.layout.Layout.{Layout}
use Rattle.frag_rules.specs.declared.inside.Inside.{Inside}
use Rattle.frag_rules.specs.declared.measure.Measure.{Measure}
use Rattle.frag_rules.specs.Insides.{found_inside}
use Rattle.frag_rules.specs.Measures.{HasLaid, Knows, LaidOut, place_found, access_cut, accessors_cut, align_cut, count_found, cut_extent, end_at, end_behind_last, end_cut, end_found, last_from, last_of, measure_seen, measured, module_extent, block_measured, place_at, place_cut, room_found, type_found}
use Rattle.frag_rules.proofs.Rooms.{cut-fits, cut-behind, cut-round, cut-sum, cut-times, cut-twice}

-- ---- rooms

room-of : (o : Option Measure) (p : Option ModuleTree) → option_map measure_seen o ≡ option_map measured p → room_found o ≡ cut_extent (extent_or_none (option_map module_extent p))
room-of None None same = refl
room-of None (Some tree) same = absurd (none-some (measured tree) same)
room-of (Some measure) None same = absurd (none-some (measure_seen measure) (sym same))
room-of (Some measure) (Some tree) same = ap (λ m. m.room) (same_Some (measure_seen measure) (measured tree) same)

extent-beside : (wanted : Element) (modules : Modules) → beside wanted (extents modules) ≡ option_map module_extent (module_of wanted modules)
unfolding extents
extent-beside wanted modules = each_beside register_extent block_extent wanted modules ∙ by (module_of wanted modules)
  where
    by : (o : Option ModuleTree) → option_map (comes_to register_extent block_extent) o ≡ option_map module_extent o
    by None = refl
    by (Some (one_register unit)) = refl
    by (Some (one_block unit)) = refl

pub room-is : (inside : Inside Measure) (modules : Modules) → Knows inside modules → (element : Element) → room_found (found_inside inside element) ≡ cut_extent (element_extent (extents modules) element)
room-is inside modules knows element =
    room-of (found_inside inside element) (module_of element modules) (knows element) ∙ ap (λ o. cut_extent (extent_or_none o)) (sym (extent-beside element modules))

-- what types take
abbrev pub Takes : (FieldType → Extent) → Extents → Type 0
Takes takes known = (type : FieldType) → takes type ≡ cut_extent (type_extent known type)

pub type-is : (inside : Inside Measure) (modules : Modules) → Knows inside modules → Takes (type_found (found_inside inside)) (extents modules)
type-is inside modules knows (holds.One element) = room-is inside modules knows element
type-is inside modules knows (holds.Array element count) =
    ap (λ room. record { size = cut (count * room.size); align = room.align }) (room-is inside modules knows element)
    ∙ ap (λ n. record { size = n; align = (element_extent (extents modules) element).align }) (cut-times count (element_extent (extents modules) element).size)
type-is inside modules knows (holds.Gap bytes) = refl

-- ---- fields

place-is : (takes : FieldType → Extent) (known : Extents) → Takes takes known → (end : ℕ) (field : StructField) → place_at takes (cut end) field ≡ cut (place_behind known end field)
place-is takes known same end field =
    ap₂ (λ n a. cut (next_multiple_of n a)) (cut-twice end) (ap (λ e. e.align) (same field.holds)) ∙ cut-round end (type_extent known field.holds).align

end-is : (takes : FieldType → Extent) (known : Extents) → Takes takes known → (end : ℕ) (field : StructField) → end_at takes (cut end) field ≡ cut (end_behind known end field)
end-is takes known same end field =
    ap₂ (λ p s. cut (p + s)) (place-is takes known same end field) (ap (λ e. e.size) (same field.holds)) ∙ cut-sum (place_behind known end field) (type_extent known field.holds).size

pub ends-are : (takes : FieldType → Extent) (known : Extents) → Takes takes known → (end : ℕ) (fields : List StructField) → end_cut takes (cut end) fields ≡ cut (fold (end_behind known) end fields)
unfolding end_cut
ends-are takes known same end [] = refl
ends-are takes known same end (field ∷ others) = ap (λ n. end_cut takes n others) (end-is takes known same end field) ∙ ends-are takes known same (end_behind known end field) others

pub aligns-are : (takes : FieldType → Extent) (known : Extents) → Takes takes known → (fields : List StructField) → align_cut takes fields ≡ align_of known fields
unfolding align_cut align_of
aligns-are takes known same [] = refl
aligns-are takes known same (field ∷ others) = ap₂ max (ap (λ e. e.align) (same field.holds)) (aligns-are takes known same others)

pub places-are : (takes : FieldType → Extent) (known : Extents) → Takes takes known → (end : ℕ) (fields : List StructField) (name : List ℕ)
    → place_cut takes (cut end) fields name ≡ option_map cut (option_map (λ (found : StructField × ℕ). found.1) (find (λ (entry : StructField × ℕ). bytes_eq name entry.0.name) (placed_behind known end fields)))
unfolding place_cut placed_behind
places-are takes known same end [] name = refl
places-are takes known same end (field ∷ others) name =
    ap₂ (λ p n. if bytes_eq name field.name then Some p else place_cut takes n others name) (place-is takes known same end field) (end-is takes known same end field)
    ∙ (ap (λ o. if bytes_eq name field.name then Some (cut (place_behind known end field)) else o) (places-are takes known same (end_behind known end field) others name)
    ∙ by (bytes_eq name field.name) (find (λ (entry : StructField × ℕ). bytes_eq name entry.0.name) (placed_behind known (end_behind known end field) others)))
  where
    by : (b : Bool) (o : Option (StructField × ℕ))
        → (if b then Some (cut (place_behind known end field)) else option_map cut (option_map (λ (found : StructField × ℕ). found.1) o)) ≡ option_map cut (option_map (λ (found : StructField × ℕ). found.1) (if b then Some (field, place_behind known end field) else o))
    by true o = refl
    by false o = refl

-- ---- accessors

end-of : (o : Option Measure) (p : Option ModuleTree) → option_map measure_seen o ≡ option_map measured p → end_found o ≡ option_map cut (option_and_then (λ end. end) (option_map module_end p))
end-of None None same = refl
end-of None (Some tree) same = absurd (none-some (measured tree) same)
end-of (Some measure) None same = absurd (none-some (measure_seen measure) (sym same))
end-of (Some measure) (Some tree) same = ap (λ m. m.end) (same_Some (measure_seen measure) (measured tree) same)

pub some-or : (o : Option ℕ) → unwrap_or (option_map cut o) 0 ≡ cut (unwrap_or o 0)
some-or None = refl
some-or (Some n) = refl

members : (n : ℕ) → nat_le 1 n ≡ nat_lt (n - 1) n
members n = grind (arith, nat_tests)

nothing-more : (n size : ℕ) → cut (cut n) ≡ cut (n + 0 * size)
nothing-more n size = omega arith

steps-are : (first index step : ℕ) → cut (cut first + cut (index * cut step)) ≡ cut (first + index * step)
steps-are first index step = ap (λ n. cut (cut first + n)) (cut-times index step) ∙ cut-sum first (index * step)

-- how far the last member stands behind the start of the block
abbrev pub last_place : BlockTree → Access → Option ℕ
last_place unit access = if admits (count_of unit access) (last_index (count_of unit access)) then Some (cut (offset_of unit access (last_index (count_of unit access)))) else None

last-is : (unit : BlockTree) (access : Access) (look_field : List ℕ → Option StructField) (look_place : List ℕ → Option ℕ) (size : ℕ) (at : Body)
    → ((name : List ℕ) → look_field name ≡ field_named name unit.head.fields) → ((name : List ℕ) → look_place name ≡ option_map cut (place_of unit name)) → size ≡ cut (element_size unit access.element)
    → last_of look_field look_place size at ≡ (if admits (body_count unit.head.fields at) (last_index (body_count unit.head.fields at)) then Some (cut (body_offset unit access at (unwrap_or (last_index (body_count unit.head.fields at)) 0))) else None)
last-is unit access look_field look_place size (body.Field field) fields places is =
    ap Some (ap (λ o. cut (unwrap_or o 0)) (places field) ∙ (ap cut (some-or (place_of unit field)) ∙ cut-twice (unwrap_or (place_of unit field) 0)))
last-is unit access look_field look_place size (body.Member field) fields places is =
    ap₂ (λ p c. last_from p size c) (ap (λ o. unwrap_or o 0) (places field) ∙ some-or (place_of unit field)) (ap count_found (fields field))
    ∙ (ap (λ s. last_from (cut (unwrap_or (place_of unit field) 0)) s (count_found (field_named field unit.head.fields))) is ∙ by (count_found (field_named field unit.head.fields)))
  where
    by : (c : Option ℕ) → last_from (cut (unwrap_or (place_of unit field) 0)) (cut (element_size unit access.element)) c
        ≡ (if admits c (last_index c) then Some (cut (unwrap_or (place_of unit field) 0 + unwrap_or (last_index c) 0 * element_size unit access.element)) else None)
    by None = ap Some (nothing-more (unwrap_or (place_of unit field) 0) (element_size unit access.element))
    by (Some n) = ap₂ (λ b m. if b then Some m else None) (members n) (steps-are (unwrap_or (place_of unit field) 0) (n - 1) (element_size unit access.element))
last-is unit access look_field look_place size (body.At offset) fields places is = refl
last-is unit access look_field look_place size (body.AtIndex offset stride count) fields places is =
    ap₂ (λ b m. if b then Some m else None) (members count) (cut-behind offset ((count - 1) * stride))

access-is : (unit : BlockTree) (inside : Inside Measure) → Knows inside unit.inside → (look_field : List ℕ → Option StructField) (look_place : List ℕ → Option ℕ)
    → ((name : List ℕ) → look_field name ≡ field_named name unit.head.fields) → ((name : List ℕ) → look_place name ≡ option_map cut (place_of unit name)) → (access : Access)
    → access_cut look_field look_place (found_inside inside) access ≡ option_map cut (access_end unit (ends unit.inside) access)
access-is unit inside knows look_field look_place fields places access =
    ap₂ end_behind_last
    (last-is unit access look_field look_place (room_found (found_inside inside access.element)).size access.body fields places (ap (λ e. e.size) (room-is inside unit.inside knows access.element)))
    (end-of (found_inside inside access.element) (module_of access.element unit.inside) (knows access.element) ∙ ap (λ o. option_map cut (option_and_then (λ end. end) o)) (sym (ends_beside access.element unit.inside)))
    ∙ by (admits (count_of unit access) (last_index (count_of unit access))) (offset_of unit access (last_index (count_of unit access))) (option_and_then (λ end. end) (beside access.element (ends unit.inside)))
  where
    by : (b : Bool) (n : ℕ) (end : End) → end_behind_last (if b then Some (cut n) else None) (option_map cut end) ≡ option_map cut (if b then option_map (λ m. n + m) end else None)
    by false n end = refl
    by true n None = refl
    by true n (Some m) = ap Some (cut-sum n m)

greater-cut : (one other : End) → greater (option_map cut one) (option_map cut other) ≡ option_map cut (greater one other)
greater-cut None other = refl
greater-cut (Some one) None = refl
greater-cut (Some one) (Some other) = let both : max (cut one) (cut other) ≡ cut (max one other) = omega arith in ap Some both

pub accessors-are : (unit : BlockTree) (inside : Inside Measure) → Knows inside unit.inside → (look_field : List ℕ → Option StructField) (look_place : List ℕ → Option ℕ)
    → ((name : List ℕ) → look_field name ≡ field_named name unit.head.fields) → ((name : List ℕ) → look_place name ≡ option_map cut (place_of unit name)) → (accessors : List Access)
    → accessors_cut look_field look_place (found_inside inside) accessors ≡ option_map cut (accessors_end unit (ends unit.inside) accessors)
unfolding accessors_cut
accessors-are unit inside knows look_field look_place fields places [] = refl
accessors-are unit inside knows look_field look_place fields places (first ∷ others) =
    ap₂ greater (access-is unit inside knows look_field look_place fields places first) (accessors-are unit inside knows look_field look_place fields places others)
    ∙ greater-cut (access_end unit (ends unit.inside) first) (accessors_end unit (ends unit.inside) others)

-- ---- loops

greater-grouped : (one two three : End) → greater (greater one two) three ≡ greater one (greater two three)
greater-grouped None two three = refl
greater-grouped (Some one) None three = refl
greater-grouped (Some one) (Some two) None = refl
greater-grouped (Some one) (Some two) (Some three) = let same : max (max one two) three ≡ max one (max two three) = omega arith in ap Some same

pub later-more : (of_access : Access → End) (rest : List Access → End) (old new : End) (all others : List Access) (first : Access) → all ≡ first ∷ others → rest (first ∷ others) ≡ greater (of_access first) (rest others) → new ≡ greater old (of_access first)
    → greater new (rest others) ≡ greater old (rest all)
later-more of_access rest old new all others first is grows more =
    ap (λ e. greater e (rest others)) more ∙ (greater-grouped old (of_access first) (rest others) ∙ (ap (greater old) (sym grows) ∙ ap (λ xs. greater old (rest xs)) (sym is)))

pub greater-none : (end : End) → end ≡ greater end None
greater-none None = refl
greater-none (Some n) = refl

pub max-grouped : (a b c : ℕ) → max (max a b) c ≡ max a (max b c)
max-grouped a b c = omega arith

-- ---- a layout, field by field

pub record LaidSoFar (takes : FieldType → Extent) (fields left : List StructField) (layout : Layout) : Type 0 where
  pub end : end_cut takes layout.end left ≡ end_cut takes 0 fields
  pub align : max (bits_of layout.align / 8) (align_cut takes left) ≡ align_cut takes fields
  pub places : (name : List ℕ) → option_or (lookup (bytes_eq name) layout.places) (place_cut takes layout.end left name) ≡ place_cut takes 0 fields name

at-least : (takes : FieldType → Extent) (fields : List StructField) → 1 ≤ align_cut takes fields
unfolding align_cut
at-least takes [] = omega arith
at-least takes (field ∷ others) = let more : 1 ≤ align_cut takes others = at-least takes others in omega (arith, more)

pub laid-begin : (takes : FieldType → Extent) (fields : List StructField) (layout : Layout) → layout.end ≡ 0 → layout.align ≡ W8 → layout.places ≡ [] → LaidSoFar takes fields fields layout
laid-begin takes fields layout end align places =
    let least : 1 ≤ align_cut takes fields = at-least takes fields in
    let whole : max 1 (align_cut takes fields) ≡ align_cut takes fields = omega (arith, least) in
    record {
      end = ap (λ n. end_cut takes n fields) end;
      align = ap (λ w. max (bits_of w / 8) (align_cut takes fields)) align ∙ whole;
      places = λ name. ap₂ (λ held n. option_or (lookup (bytes_eq name) held) (place_cut takes n fields name)) places end;
    }

pub laid-more : (takes : FieldType → Extent) (fields left others : List StructField) (first : StructField) (old new : Layout) → left ≡ first ∷ others
    → new.end ≡ end_at takes old.end first → bits_of new.align / 8 ≡ max (bits_of old.align / 8) (takes first.holds).align
    → ((name : List ℕ) → lookup (bytes_eq name) new.places ≡ option_or (lookup (bytes_eq name) old.places) (if bytes_eq name first.name then Some (place_at takes old.end first) else None))
    → LaidSoFar takes fields left old → LaidSoFar takes fields others new
unfolding end_cut align_cut place_cut
laid-more takes fields left others first old new is end align places before = record {
  end = ap (λ n. end_cut takes n others) end ∙ (ap (end_cut takes old.end) (sym is) ∙ before.end);
  align = ap (λ n. max n (align_cut takes others)) align ∙ (max-grouped (bits_of old.align / 8) (takes first.holds).align (align_cut takes others) ∙ (ap (λ xs. max (bits_of old.align / 8) (align_cut takes xs)) (sym is) ∙ before.align));
  places = λ name.
      ap₂ (λ o n. option_or o (place_cut takes n others name)) (places name) end
      ∙ (by (lookup (bytes_eq name) old.places) (bytes_eq name first.name) (place_at takes old.end first) (place_cut takes (end_at takes old.end first) others name)
      ∙ (ap (λ xs. option_or (lookup (bytes_eq name) old.places) (place_cut takes old.end xs name)) (sym is) ∙ before.places name));
}
  where
    by : (o : Option ℕ) (b : Bool) (n : ℕ) (p : Option ℕ) → option_or (option_or o (if b then Some n else None)) p ≡ option_or o (if b then Some n else p)
    by (Some m) b n p = refl
    by None true n p = refl
    by None false n p = refl

wide : (w : Width) → max (bits_of w / 8) 1 ≡ bits_of w / 8
wide W8 = refl
wide W16 = refl
wide W32 = refl
wide W64 = refl

or-none : (o : Option ℕ) → o ≡ option_or o None
or-none None = refl
or-none (Some n) = refl

pub laid-done : (takes : FieldType → Extent) (fields left : List StructField) (layout : Layout) → left ≡ [] → LaidSoFar takes fields left layout → LaidOut takes fields layout
unfolding end_cut align_cut place_cut
laid-done takes fields left layout is before = record {
  end = ap (end_cut takes layout.end) (sym is) ∙ before.end;
  align = sym (wide layout.align) ∙ (ap (λ xs. max (bits_of layout.align / 8) (align_cut takes xs)) (sym is) ∙ before.align);
  places = λ name. or-none (lookup (bytes_eq name) layout.places) ∙ (ap (λ xs. option_or (lookup (bytes_eq name) layout.places) (place_cut takes layout.end xs name)) (sym is) ∙ before.places name);
}

-- ---- a block

pub own-measured : (unit : BlockTree) (inside : Inside Measure) (layout : Layout) (look_field : List ℕ → Option StructField) (size : ℕ) (end : End)
    → LaidOut (type_found (found_inside inside)) unit.head.fields layout → size ≡ cut (next_multiple_of (cut layout.end) (bits_of layout.align / 8))
    → ((name : List ℕ) → look_field name ≡ field_named name unit.head.fields) → end ≡ accessors_cut look_field (place_found layout) (found_inside inside) unit.head.accessors
    → Knows inside unit.inside → record { room = record { size = size; align = bits_of layout.align / 8 }; end = end } ≡ measured (one_block unit)
own-measured unit inside layout look_field size end laid size_is fields end_is knows =
    let takes : Takes (type_found (found_inside inside)) (extents unit.inside) = type-is inside unit.inside knows in
    let known : Extents = extents unit.inside in
    let align : bits_of layout.align / 8 ≡ align_of known unit.head.fields = laid.align ∙ aligns-are (type_found (found_inside inside)) known takes unit.head.fields in
    let ended : layout.end ≡ cut (end_of known unit.head.fields) = laid.end ∙ ends-are (type_found (found_inside inside)) known takes 0 unit.head.fields in
    let sized : size ≡ cut (extent_of unit).size =
    size_is ∙ (ap₂ (λ n a. cut (next_multiple_of n a)) (ap cut ended ∙ cut-twice (end_of known unit.head.fields)) align ∙ cut-round (end_of known unit.head.fields) (align_of known unit.head.fields)) in
    let ends_there : end ≡ option_map cut (block_end unit) =
    end_is ∙ accessors-are unit inside knows look_field (place_found layout) fields (λ name. laid.places name ∙ places-are (type_found (found_inside inside)) known takes 0 unit.head.fields name) unit.head.accessors in
    λ i. record { room = record { size = sized i; align = align i }; end = ends_there i }

-- the place of a field in a struct that is laid out
pub place-known : (unit : BlockTree) (inside : Inside Measure) (fields : List (List ℕ × Bor StructField)) (layout : Layout) → HasLaid unit inside fields layout
    → (name : List ℕ) → place_found layout name ≡ option_map cut (place_of unit name)
place-known unit inside fields layout has name =
    has.laid.places name ∙ places-are (type_found (found_inside inside)) (extents unit.inside) (type-is inside unit.inside has.knows) 0 unit.head.fields name

-- ---- slots

end-of-top : (o : Option Measure) (p : Option BlockTree) → option_map measure_seen o ≡ option_map block_measured p → end_found o ≡ option_map cut (option_and_then block_end p)
end-of-top None None same = refl
end-of-top None (Some unit) same = absurd (none-some (block_measured unit) same)
end-of-top (Some measure) None same = absurd (none-some (measure_seen measure) (sym same))
end-of-top (Some measure) (Some unit) same = ap (λ m. m.end) (same_Some (measure_seen measure) (block_measured unit) same)

pub slot-is : (krate : CrateTree) (tops : List (List ℕ × Measure)) → ((name : List ℕ) → option_map measure_seen (lookup (bytes_eq name) tops) ≡ option_map block_measured (top_block name krate.blocks))
    → (slot : Slot) → end_fits slot.address (end_found (lookup (bytes_eq slot.block) tops)) ≡ slot_fits krate slot
slot-is krate tops knows slot =
    ap (end_fits slot.address) (end-of-top (lookup (bytes_eq slot.block) tops) (top_block slot.block krate.blocks) (knows slot.block)) ∙ cut-fits slot.address (option_and_then block_end (top_block slot.block krate.blocks))
