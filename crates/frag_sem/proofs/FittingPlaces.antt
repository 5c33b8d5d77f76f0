-- A place that types is one of the relation.
use Rattle.std.proofs.Common.{ℕ, ◌≡◌, ◌+◌, ◌*◌, Err, Bool, true, false, ◌&&◌, not, cond, List, [], ◌∷◌, find, Option, Some, None, Ok, ok_or, option_map, option_and_then, bytes_eq, refl, sym, ap, subst, ◌∙◌}
use Rattle.std.specs.Prelude.{if◌then◌else◌}
use Rattle.std.specs.List.{list_all}
use Rattle.std.proofs.lemmas.Bool.{false≢true, ltb-true}
use Rattle.std.proofs.lemmas.Option.{none-some}
use Rattle.std.proofs.lemmas.Slice.Eq.{bytes_eq-Decides}
use Rattle.frag_tree.specs.declared.access.Access.{Access}
use Rattle.frag_tree.specs.declared.access.Body.{Body}
use Rattle.frag_tree.specs.declared.access.Body.TheVariants as body
use Rattle.frag_tree.specs.declared.block.Element.{Element}
use Rattle.frag_tree.specs.declared.block.Element.TheVariants as element
use Rattle.frag_tree.specs.declared.block.FieldType.{FieldType}
use Rattle.frag_tree.specs.declared.block.FieldType.TheVariants as holds
use Rattle.frag_tree.specs.declared.block.StructField.{StructField}
use Rattle.frag_tree.specs.declared.krate.Slot.{Slot}
use Rattle.frag_tree.specs.declared.register.RegisterModule.{RegisterModule}
use Rattle.frag_tree.specs.declared.statement.Call.{Call}
use Rattle.frag_tree.specs.declared.statement.Place.{Place}
use Rattle.frag_tree.specs.Trees.{BlockTree, CrateTree, Modules, ModuleTree, one_register, one_block}
use Rattle.frag_sem.specs.CallPlaces.{access_named, body_count, count_of, field_named, slot_named, type_count}
use Rattle.frag_sem.specs.CrateTyping.{CrateFits, bodies_fit, body_types, holds_such, is_array, is_module, is_one, names_module, paths_lead}
use Rattle.frag_sem.specs.Layout.{Extent, Extents, block_extent, end_behind, extents, place_behind, place_of, placed_behind, register_extent}
use Rattle.frag_sem.specs.Modules.{all_blocks, beside, blocks_in, module_of, same_element, top_block}
use Rattle.frag_sem.specs.PlaceIs.{BodyIs, FieldAt, LeadsTo, PlaceIs, is_laid_out}
use Rattle.frag_sem.specs.PlaceTyping.{Inner, call_leads, inner_of, register_with, steps_lead}
use Rattle.frag_sem.specs.ScriptTyping.{◌>>=◌, index_types, no_such_call, no_such_name, wrong_type}
use Rattle.frag_sem.specs.Surfaces.{RegisterCalls}
use Rattle.frag_sem.specs.TextSurface.{register_calls}
use Rattle.frag_sem.proofs.Chains.{each_beside}
use Rattle.frag_sem.proofs.Leading.{blocks_at, blocks_gather, inside_has}
use Rattle.frag_sem.proofs.Lists.{all_and, all_weaker, both_true, found_has, found_parts}
use Rattle.frag_sem.proofs.Typings.{admits_typed, both_ok, not_ok, same_ok}

-- ---- fields of a struct

-- a field that is there has its place
placed_named : (known : Extents) (end : ℕ) (name : List ℕ) (fields : List StructField) → option_map (λ (entry : StructField × ℕ). entry.0) (find (λ entry. bytes_eq name entry.0.name) (placed_behind known end fields)) ≡ field_named name fields
unfolding placed_behind
placed_named known end name [] = refl
placed_named known end name (field ∷ fields) = by (bytes_eq name field.name) (placed_named known (end_behind known end field) name fields)
  where
    by : (b : Bool) → option_map (λ (entry : StructField × ℕ). entry.0) (find (λ entry. bytes_eq name entry.0.name) (placed_behind known (end_behind known end field) fields)) ≡ field_named name fields → option_map (λ (entry : StructField × ℕ). entry.0) (cond b (Some (field, place_behind known end field)) (find (λ entry. bytes_eq name entry.0.name) (placed_behind known (end_behind known end field) fields))) ≡ cond b (Some field) (field_named name fields)
    by true more = refl
    by false more = more

place_there : (unit : BlockTree) (name : List ℕ) (field : StructField) → field_named name unit.head.fields ≡ Some field → (place : ℕ) × (place_of unit name ≡ Some place)
place_there unit name field named = by (find (λ entry. bytes_eq name entry.0.name) (placed_behind (extents unit.inside) 0 unit.head.fields)) (placed_named (extents unit.inside) 0 name unit.head.fields ∙ named)
  where
    by : (o : Option (StructField × ℕ)) → option_map (λ (entry : StructField × ℕ). entry.0) o ≡ Some field → (place : ℕ) × (option_map (λ (entry : StructField × ℕ). entry.1) o ≡ Some place)
    by None h = absurd (none-some field h)
    by (Some entry) h = (entry.1, refl)

-- an element whose module is there has its extent
abbrev module_extent : ModuleTree → Extent
module_extent (one_register unit) = register_extent unit
module_extent (one_block unit) = block_extent unit.head (extents unit.inside)

extents_beside : (wanted : Element) (modules : Modules) → beside wanted (extents modules) ≡ option_map module_extent (module_of wanted modules)
unfolding extents
extents_beside wanted modules = each_beside register_extent block_extent wanted modules

same_element_tells : (one other : Element) → same_element one other ≡ true → one ≡ other
same_element_tells (element.Register one) (element.Register other) h = ap (λ n. element.Register n) ((bytes_eq-Decides one other).0 h)
same_element_tells (element.Register one) (element.Block other) h = absurd (false≢true h)
same_element_tells (element.Block one) (element.Register other) h = absurd (false≢true h)
same_element_tells (element.Block one) (element.Block other) h = ap (λ n. element.Block n) ((bytes_eq-Decides one other).0 h)

one_tells : (wanted : Element) (type : FieldType) → is_one wanted type ≡ true → type ≡ holds.One wanted
one_tells wanted (holds.One other) h = ap (λ e. holds.One e) (sym (same_element_tells wanted other h))
one_tells wanted (holds.Array other count) h = absurd (false≢true h)
one_tells wanted (holds.Gap bytes) h = absurd (false≢true h)

array_tells : (wanted : Element) (type : FieldType) → is_array wanted type ≡ true → (count : ℕ) × (type ≡ holds.Array wanted count)
array_tells wanted (holds.One other) h = absurd (false≢true h)
array_tells wanted (holds.Array other count) h = (count, ap (λ e. holds.Array e count) (sym (same_element_tells wanted other h)))
array_tells wanted (holds.Gap bytes) h = absurd (false≢true h)

-- a field of the type that is wanted is there
record Such (test : FieldType → Bool) (fields : List StructField) (name : List ℕ) : Type 0 where
  field : StructField
  named : field_named name fields ≡ Some field
  passes : test field.holds ≡ true

such_field : (test : FieldType → Bool) (fields : List StructField) (name : List ℕ) → holds_such test (field_named name fields) ≡ true → Such test fields name
such_field test fields name h = by (field_named name fields) refl h
  where
    by : (o : Option StructField) → field_named name fields ≡ o → holds_such test o ≡ true → Such test fields name
    by None is e = absurd (false≢true e)
    by (Some field) is e = record { field = field; named = is; passes = e }

-- ---- one accessor

-- where an array of so many stands, so does its member of an index that types
member_there : (unit : BlockTree) (wanted : Element) (name : List ℕ) (count place : ℕ) (inner : ModuleTree) → FieldAt unit name (holds.Array wanted count) place → module_of wanted unit.inside ≡ Some inner → (index : Option ℕ) → index_types (Some count) index ≡ Ok tt → (offset : ℕ) × BodyIs unit wanted (body.Member name) index offset
member_there unit wanted name count place inner array is None h = absurd (not_ok wrong_type tt h)
member_there unit wanted name count place inner array is (Some index) h = (
  place + index * (module_extent inner).size,
  record {
    count = count;
    place = place;
    array = array;
    below = ltb-true index count (admits_typed (Some count) (Some index) h);
    extent = module_extent inner;
    extent_is = extents_beside wanted unit.inside ∙ ap (option_map module_extent) is;
    offset_is = refl;
  },
)

body_there : (unit : BlockTree) (access : Access) (found : Body) (inner : ModuleTree) → is_laid_out unit ≡ true → body_types unit.head.fields access found ≡ true → module_of access.element unit.inside ≡ Some inner → (index : Option ℕ) → index_types (body_count unit.head.fields found) index ≡ Ok tt → (offset : ℕ) × BodyIs unit access.element found index offset
body_there unit access (body.Field name) inner laid types is None h =
    let such = such_field (is_one access.element) unit.head.fields name (both_true (not access.is_indexed) (holds_such (is_one access.element) (field_named name unit.head.fields)) types).1 in
    let place = place_there unit name such.field such.named in
    (place.0, record { laid_out = laid; field = such.field; named = such.named; type_is = one_tells access.element such.field.holds such.passes; place_is = place.1 })
body_there unit access (body.Field name) inner laid types is (Some index) h = absurd (not_ok wrong_type tt h)
body_there unit access (body.Member name) inner laid types is index h =
    let such = such_field (is_array access.element) unit.head.fields name (both_true access.is_indexed (holds_such (is_array access.element) (field_named name unit.head.fields)) types).1 in
    let place = place_there unit name such.field such.named in
    let array = array_tells access.element such.field.holds such.passes in
    let count_is : body_count unit.head.fields (body.Member name) ≡ Some array.0 = ap (option_and_then (λ f. type_count f.holds)) such.named ∙ ap type_count array.1 in
    member_there unit access.element name array.0 place.0 inner
    (record { laid_out = laid; field = such.field; named = such.named; type_is = array.1; place_is = place.1 }) is index
    (subst (λ count. index_types count index ≡ Ok tt) count_is h)
body_there unit access (body.At offset) inner laid types is None h = (offset, refl)
body_there unit access (body.At offset) inner laid types is (Some index) h = absurd (not_ok wrong_type tt h)
body_there unit access (body.AtIndex offset stride count) inner laid types is None h = absurd (not_ok wrong_type tt h)
body_there unit access (body.AtIndex offset stride count) inner laid types is (Some index) h = (offset + index * stride, (ltb-true index count (admits_typed (Some count) (Some index) h), refl))

-- ---- blocks

-- the types of all fields are there, and the bodies of all accessors fit
abbrev types_there : BlockTree → Bool
types_there unit = list_all (λ field. names_module unit.inside field.holds) unit.head.fields

abbrev bodies_right : BlockTree → Bool
bodies_right unit = list_all (λ access. body_types unit.head.fields access access.body) unit.head.accessors

abbrev block_fits : BlockTree → Bool
block_fits unit = types_there unit && bodies_right unit

all_fit : (krate : CrateTree) → CrateFits krate → list_all block_fits (all_blocks krate) ≡ true
unfolding bodies_fit paths_lead
all_fit krate fits =
    all_and types_there bodies_right (all_blocks krate)
    (all_weaker _ types_there (λ unit both. (both_true (types_there unit) (list_all (λ access. is_module unit.inside access.element) unit.head.accessors) both).0) (all_blocks krate) fits.module_paths)
    fits.accessor_bodies.1

laid_where : (unit : BlockTree) → list_all block_fits (blocks_at (one_block unit)) ≡ true → is_laid_out unit ≡ true
laid_where unit all = all_weaker block_fits types_there (λ inner both. (both_true (types_there inner) (bodies_right inner) both).0) (unit ∷ blocks_in unit.inside) all

-- ---- chains

abbrev register_in : ModuleTree → Option RegisterModule
register_in (one_register unit) = Some unit
register_in (one_block unit) = None

-- the register at the end of accessors that type, at its address
Reached : RegisterModule → List Call → ModuleTree → ℕ → Type 0
Reached end steps unit start = (address : ℕ) × LeadsTo (record { address = address; register = end }) steps unit start

ended_there : (end : RegisterModule) (unit : ModuleTree) (start : ℕ) → unit ≡ one_register end → Reached end [] unit start
unfolding Reached LeadsTo
ended_there end unit start h = subst (λ tree. (address : ℕ) × LeadsTo (record { address = address; register = end }) [] tree start) (sym h) (start, refl)

steps_there : (end : RegisterModule) (steps : List Call) (unit : ModuleTree) (start : ℕ) → list_all block_fits (blocks_at unit) ≡ true → steps_lead unit steps ≡ Ok (one_register end) → Reached end steps unit start
unfolding Reached LeadsTo steps_lead
steps_there end [] unit start all h = ended_there end unit start (same_ok unit (one_register end) h)
steps_there end (step ∷ steps) (one_register unit) start all h = absurd (not_ok no_such_call (one_register end) h)
steps_there end (step ∷ steps) (one_block unit) start all h = by (access_named step.name unit.head.accessors) refl h (λ inner from fit typed. steps_there end steps inner from fit typed)
  where
    More : Type 0
    More = (inner : ModuleTree) (from : ℕ) → list_all block_fits (blocks_at inner) ≡ true → steps_lead inner steps ≡ Ok (one_register end) → Reached end steps inner from

    Here : Type 0
    Here = (address : ℕ) × LeadsTo (record { address = address; register = end }) (step ∷ steps) (one_block unit) start

    in_tree : (access : Access) (inner : ModuleTree) → access_named step.name unit.head.accessors ≡ Some access → module_of access.element unit.inside ≡ Some inner → (index_types (count_of unit access) step.index >>= λ _. steps_lead inner steps) ≡ Ok (one_register end) → More → Here
    in_tree access inner named is e more =
        let typed = both_ok (index_types (count_of unit access) step.index) (λ _. steps_lead inner steps) (one_register end) e in
        let parts = both_true (block_fits unit) (list_all block_fits (blocks_in unit.inside)) all in
        let types = found_has (λ a. bytes_eq step.name a.name) (λ a. body_types unit.head.fields a a.body) unit.head.accessors access named (both_true (types_there unit) (bodies_right unit) parts.0).1 in
        let found = body_there unit access access.body inner (laid_where unit all) types is step.index typed.1 in
        let onward = more inner (start + found.0) (inside_has blocks_in blocks_at blocks_gather block_fits unit.inside access.element inner is parts.1) typed.2 in
        (onward.0, record { access = access; named = named; offset = found.0; offset_is = found.1; inner = inner; inner_is = is; onward = onward.1 })

    in_access : (access : Access) (o : Option ModuleTree) → access_named step.name unit.head.accessors ≡ Some access → module_of access.element unit.inside ≡ o → (ok_or (option_map (λ tree. record { count = count_of unit access; tree = tree }) o) no_such_call >>= λ (inner : Inner). (index_types inner.count step.index >>= λ _. steps_lead inner.tree steps)) ≡ Ok (one_register end) → More → Here
    in_access access None named is e more = absurd (not_ok no_such_call (one_register end) e)
    in_access access (Some inner) named is e more = in_tree access inner named is e more

    by : (o : Option Access) → access_named step.name unit.head.accessors ≡ o → (ok_or (option_and_then (inner_of unit) o) no_such_call >>= λ (inner : Inner). (index_types inner.count step.index >>= λ _. steps_lead inner.tree steps)) ≡ Ok (one_register end) → More → Here
    by None is e more = absurd (not_ok no_such_call (one_register end) e)
    by (Some access) is e more = in_access access (module_of access.element unit.inside) is refl e more

-- ---- places

-- a place at which a register call types
pub record Standing (krate : CrateTree) (has_call : RegisterCalls → Bool) (place : Place) (calls : RegisterCalls) : Type 0 where
  pub address : ℕ
  pub unit : RegisterModule
  pub place_is : PlaceIs krate place (record { address = address; register = unit })
  pub has : has_call (register_calls unit) ≡ true
  pub calls_are : register_calls unit ≡ calls

register_with_tells : (has_call : RegisterCalls → Bool) (inner : ModuleTree) (unit : RegisterModule) → register_with has_call inner ≡ Ok unit → (inner ≡ one_register unit) × (has_call (register_calls unit) ≡ true)
register_with_tells has_call (one_block inside) unit h = absurd (not_ok no_such_call unit h)
register_with_tells has_call (one_register one) unit h = by (has_call (register_calls one)) refl h
  where
    by : (b : Bool) → has_call (register_calls one) ≡ b → (if b then Ok one else Err no_such_call) ≡ Ok unit → (one_register one ≡ one_register unit) × (has_call (register_calls unit) ≡ true)
    by true is e =
        let same = same_ok one unit e in
        (ap one_register same, ap (λ r. has_call (register_calls r)) (sym same) ∙ is)
    by false is e = absurd (not_ok no_such_call unit e)

-- so at the module of a slot
slot_there : (krate : CrateTree) → CrateFits krate → (has_call : RegisterCalls → Bool) (place : Place) (unit : RegisterModule) → call_leads has_call krate place ≡ Ok unit → Standing krate has_call place (register_calls unit)
unfolding call_leads Reached
slot_there krate fits has_call place unit h = by (slot_named place.slot krate.slots) refl h
  where
    in_block : (slot : Slot) (o : Option BlockTree) → slot_named place.slot krate.slots ≡ Some slot → top_block slot.block krate.blocks ≡ o → (ok_or (option_map one_block o) no_such_name >>= λ tree. (steps_lead tree place.steps >>= register_with has_call)) ≡ Ok unit → Standing krate has_call place (register_calls unit)
    in_block slot None named is e = absurd (not_ok no_such_name unit e)
    in_block slot (Some top) named is e =
        let found = both_ok (steps_lead (one_block top) place.steps) (register_with has_call) unit e in
        let end = register_with_tells has_call found.0 unit found.2 in
        let all = found_parts (λ other. bytes_eq slot.block other.head.name) (λ other. other ∷ blocks_in other.inside) block_fits krate.blocks top is (all_fit krate fits) in
        let there = steps_there unit place.steps (one_block top) slot.address all (found.1 ∙ ap Ok end.0) in
        record {
          address = there.0;
          unit = unit;
          place_is = record { slot = slot; slot_is = named; unit = top; unit_is = is; leads = there.1 };
          has = end.1;
          calls_are = refl;
        }

    by : (o : Option Slot) → slot_named place.slot krate.slots ≡ o → (ok_or (option_and_then (λ slot. option_map one_block (top_block slot.block krate.blocks)) o) no_such_name >>= λ tree. (steps_lead tree place.steps >>= register_with has_call)) ≡ Ok unit → Standing krate has_call place (register_calls unit)
    by None is e = absurd (not_ok no_such_name unit e)
    by (Some slot) is e = in_block slot (top_block slot.block krate.blocks) is refl e

-- A register call that types is one of a register that stands at the place.
pub call_there : (krate : CrateTree) → CrateFits krate → (has_call : RegisterCalls → Bool) (place : Place) (calls : RegisterCalls) → (call_leads has_call krate place >>= λ unit. Ok (register_calls unit)) ≡ Ok calls → Standing krate has_call place calls
call_there krate fits has_call place calls h =
    let found = both_ok (call_leads has_call krate place) (λ unit. Ok (register_calls unit)) calls h in
    subst (Standing krate has_call place) (same_ok (register_calls found.0) calls found.2) (slot_there krate fits has_call place found.0 found.1)
