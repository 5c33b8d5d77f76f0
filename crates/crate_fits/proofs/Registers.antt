-- The register modules of an emitted crate keep the rules of typing.
use Rattle.std.proofs.Common.{◌≡◌, ℕ, ◌+◌, ◌^◌, ◌<◌, ◌≤◌, true, false, not, ◌&&◌, List, [], ◌∷◌, length, map, Option, None, Some, option_map, unwrap_or, refl, sym, ap, ap₂, ◌∙◌, subst, arith}
use Rattle.std.specs.List.{AllByRecursion}
use Rattle.std.proofs.lemmas.Bool.Decides.{nat_tests}
use Rattle.std.proofs.lemmas.List.{length-map}
use Rattle.checked_tree.specs.Registers.{FieldIsNamed as RowIsNamed, RegisterIsChecked, row_of}
use Rattle.checked_tree.specs.Names.{marker_of}
use Rattle.crate_form.specs.Registers.{field_array, field_of, marked, number_call, register_here}
use Rattle.frag_sem.specs.CallPlaces.{admits}
use Rattle.frag_sem.specs.CrateTyping.{is_free}
use Rattle.frag_sem.specs.Modules.{are_distinct_names}
use Rattle.frag_sem.specs.PreludeCalls.{is_prelude_name as is_taken_name}
use Rattle.frag_tree.specs.declared.krate.Version.{Version}
use Rattle.frag_tree.specs.declared.krate.Version.TheVariants.{One, Two}
use Rattle.pac_base.specs.declared.width.Width.{Width}
use Rattle.pac_base.specs.declared.width.Width.TheVariants.{W16, W32, W64, W8}
use Rattle.pac_base.specs.Widths.{bits_of}
use Rattle.reg_table.specs.declared.row.Call.{Call}
use Rattle.reg_table.specs.declared.row.FieldDim.{FieldDim}
use Rattle.reg_table.specs.declared.row.FieldRow.{FieldRow}
use Rattle.reg_table.specs.declared.row.Row.{Row as TableRow}
use Rattle.register_form.specs.declared.register.Field.{Field}
use Rattle.register_form.specs.declared.register.FieldArray.{FieldArray}
use Rattle.register_form.specs.Doings.{AreFree, CallsFit, FieldIsNamed, FieldIsSound, RegisterIsNamed, RegisterIsSound, bit_in, has_members, names_of}
use Rattle.register_form.specs.Forms.{form_of, markers_of}
use Rattle.register_form.specs.Laws.{KeepsRules}
use Rattle.register_form.proofs.Rules.{rules_hold}
use Rattle.rust_names.specs.PreludeNames.{is_prelude_name}
use Rattle.rust_names.proofs.TakenNames.{free_of_both}
use Rattle.svd_model.specs.declared.props.Props.{Props}
use Rattle.svd_model.specs.Keys.{Key}
use Rattle.svd_model.specs.Steps.{Step}
use Rattle.svd_rows.specs.Forest.{Forest, steps}
use Rattle.svd_values.specs.AccessorNames.{accessor_name}
use Rattle.svd_values.specs.Identifiers.{IsCallName}
use Rattle.reg_table.specs.Members.{IsIndexOf, member_behind}
use Rattle.table_sem.specs.RowFacts.{FieldFits}
use Rattle.table_sem.proofs.Rows.{index-admitted, member-narrow}

-- ---- names

-- what is free of the names of the prelude is so in each version
pub free-of : (version : Version) (name : List ℕ) → is_prelude_name name ≡ false → is_free version name ≡ true
unfolding is_prelude_name is_taken_name
free-of One name free = ap not (free_of_both name free)
free-of Two name free = ap not free

calls-named : (calls : List Call) → names_of (map number_call calls) ≡ map (λ call. call.name) calls
calls-named [] = refl
calls-named (call ∷ calls) = ap (λ names. call.name ∷ names) (calls-named calls)

calls-free : (version : Version) (calls : List Call) → AllByRecursion (λ call. IsCallName call.name) calls → AreFree version (names_of (map number_call calls))
calls-free version [] all = refl
calls-free version (call ∷ calls) all = ap₂ (λ a b. a && b) (free-of version call.name all.0.free) (calls-free version calls all.1)

calls-fit : (bits : ℕ) (calls : List Call) → AllByRecursion (λ call. call.value < 2 ^ bits) calls → CallsFit bits (map number_call calls)
calls-fit bits [] all = tt
calls-fit bits (call ∷ calls) all = (all.0, calls-fit bits calls all.1)

-- ---- fields with their markers

markers-kept : (markers : List (List ℕ)) (fields : List FieldRow) → length markers ≡ length fields → markers_of (marked markers fields) ≡ markers
unfolding marked
markers-kept [] fields e = refl
markers-kept (marker ∷ markers) [] e = absurd (omega (arith, e))
markers-kept (marker ∷ markers) (field ∷ fields) e = ap (λ all. marker ∷ all) (markers-kept markers fields (omega (arith, e)))

names-kept : (markers : List (List ℕ)) (fields : List FieldRow) → length markers ≡ length fields → map (λ (field : Field). field.name) (marked markers fields) ≡ map (λ (field : FieldRow). field.name) fields
unfolding marked
names-kept [] [] e = refl
names-kept [] (field ∷ fields) e = absurd (omega (arith, e))
names-kept (marker ∷ markers) [] e = absurd (omega (arith, e))
names-kept (marker ∷ markers) (field ∷ fields) e = ap (λ all. field.name ∷ all) (names-kept markers fields (omega (arith, e)))

all-marked : (P : FieldRow → Type 0) (Q : Field → Type 0) → ((marker : List ℕ) (field : FieldRow) → P field → Q (field_of marker field)) → (markers : List (List ℕ)) (fields : List FieldRow) → AllByRecursion P fields → AllByRecursion Q (marked markers fields)
unfolding marked
all-marked P Q make [] fields all = tt
all-marked P Q make (marker ∷ markers) [] all = tt
all-marked P Q make (marker ∷ markers) (field ∷ fields) all = (make marker field all.0, all-marked P Q make markers fields all.1)

all-both : {X : Type 0} (P Q : X → Type 0) (xs : List X) → AllByRecursion P xs → AllByRecursion Q xs → AllByRecursion (λ x. P x × Q x) xs
all-both P Q [] p q = tt
all-both P Q (x ∷ xs) p q = ((p.0, q.0), all-both P Q xs p.1 q.1)

-- ---- one field

widest : (width : Width) → bits_of width ≤ 64
widest W8 = omega arith
widest W16 = omega arith
widest W32 = omega arith
widest W64 = omega arith

abbrev count_by : Option FieldDim → Option ℕ
count_by dim = option_map (λ (array : FieldArray). array.count) (option_map field_array dim)

-- each member of a field lies within the word
within-by : (offset width bits : ℕ) (dim : Option FieldDim) → ((index : Option ℕ) → IsIndexOf (option_map (λ dim. dim.count) dim) index → offset + member_behind dim index + width ≤ bits) → (index : Option ℕ) → admits (count_by dim) index ≡ true → bit_in offset (option_map field_array dim) index + width ≤ bits
within-by offset width bits None fits index h = let here : offset + 0 + width ≤ bits = fits index (index-admitted None index h) in omega (arith, here)
within-by offset width bits (Some dim) fits index h = fits index (index-admitted (Some dim.count) index h)

some-by : (dim : Option FieldDim) → 1 ≤ unwrap_or (option_map (λ dim. dim.count) dim) 1 → has_members (count_by dim) ≡ true
some-by None some = refl
some-by (Some dim) some = grind (arith, nat_tests, some)

-- ---- a register

module _ (props : Props) (step : Step) (keys : List Key) (children : Forest Step Key) (checked : RegisterIsChecked props keys children) where
  abbrev row : TableRow
  row = row_of props keys children

  same_length : length (map marker_of (steps children)) ≡ length row.fields
  same_length =
      length-map (steps children) marker_of ∙ sym (length-map (steps children) (λ step. accessor_name step.name))
      ∙ ap length (sym checked.told) ∙ length-map row.fields (λ field. field.name)

  field-sound : (marker : List ℕ) (field : FieldRow) → FieldFits row field × RowIsNamed field → FieldIsSound (register_here props step keys children) (field_of marker field)
  field-sound marker field is =
      let within = within-by field.offset field.width (bits_of row.width) field.dim is.0.within in
      let first = member-narrow row field is.0 is.1.some in
      let most = widest row.width in
      record {
        bits = record { some = is.0.some; most = omega (arith, first, most) };
        within = within;
        tests = calls-fit field.width field.is_calls is.0.is_calls;
        sets = calls-fit field.width field.set_calls is.0.set_calls;
        readable = is.0.readable;
        writable = is.0.writable;
      }

  sound : RegisterIsSound (register_here props step keys children)
  sound = record {
    markers = ap are_distinct_names (markers-kept (map marker_of (steps children)) row.fields same_length) ∙ checked.markers;
    fields = all-marked (λ field. FieldFits row field × RowIsNamed field) (FieldIsSound (register_here props step keys children)) field-sound (map marker_of (steps children)) row.fields (all-both (FieldFits row) RowIsNamed row.fields checked.row.fields checked.named);
    reset = checked.row.reset;
    one = checked.row.one;
    zero = checked.row.raised;
    no_masks = λ e. (checked.row.no_one e, checked.row.no_raised e);
  }

  field-named : (version : Version) (marker : List ℕ) (field : FieldRow) → RowIsNamed field → FieldIsNamed version (field_of marker field)
  field-named version marker field is = record {
    some = some-by field.dim is.some;
    free = free-of version field.name is.free;
    tests = ap are_distinct_names (calls-named field.is_calls) ∙ is.tests.distinct;
    free_tests = calls-free version field.is_calls is.tests.named;
    sets = ap are_distinct_names (calls-named field.set_calls) ∙ is.sets.distinct;
    free_sets = calls-free version field.set_calls is.sets.named;
  }

  named : (version : Version) → RegisterIsNamed version (register_here props step keys children)
  named version = record {
    names = ap are_distinct_names (names-kept (map marker_of (steps children)) row.fields same_length ∙ checked.told) ∙ checked.siblings.names;
    fields = all-marked RowIsNamed (FieldIsNamed version) (field-named version) (map marker_of (steps children)) row.fields checked.named;
  }

  pub keeps-rules : (version : Version) → KeepsRules version (form_of (register_here props step keys children))
  keeps-rules version = rules_hold version (register_here props step keys children) sound (named version)
