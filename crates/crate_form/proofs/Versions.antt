-- Whether a description has arrays of fields; and that the two versions agree on what is valid where it has none.
use Rattle.std.proofs.Common.{◌≡◌, ℕ, zero, suc, Bool, true, false, ◌&&◌, ◌||◌, List, [], ◌∷◌, cond, map, filter, Option, Some, None, option_map, unwrap_or, is_some, refl, sym, ap, ap₂, ◌∙◌, subst}
use Rattle.std.specs.List.{list_all, list_any, slice_get}
use Rattle.frag_tree.specs.declared.krate.Version.{Version}
use Rattle.frag_tree.specs.declared.krate.Version.TheVariants.{One, Two}
use Rattle.frag_tree.specs.Trees.{BlockTree, CrateTree, Modules, before, spot_read, spot_written}
use Rattle.frag_tree.specs.Validity.{stands_in, valid_block, valid_constant, valid_head, valid_modules, valid_option, valid_read, valid_reader, valid_register, valid_values, valid_writable, valid_write, valid_writer}
use Rattle.reg_table.specs.Fields.{field_dim, field_part, field_row}
use Rattle.reg_table.specs.declared.row.Row.{Row as TableRow}
use Rattle.reg_table.specs.Registers.{register_row}
use Rattle.reg_table.specs.Walk.{props_inside}
use Rattle.reg_table.proofs.FieldMembers.{field-dim}
use Rattle.reg_table.proofs.Gathering.{row-register}
use Rattle.reg_table.proofs.Parts.{keys-field}
use Rattle.register_form.specs.declared.register.Field.{Field as MadeField}
use Rattle.register_form.specs.declared.register.Register.{Register as MadeRegister}
use Rattle.register_form.specs.Fields.{is_bit, read_form, reader_of, spot_of, write_form, writer_of}
use Rattle.register_form.specs.Forms.{form_of, has_arrays, markers_of as made_markers, masks_of, readers_among, values_among, where_true, writers_among}
use Rattle.rust_names.specs.Identifiers.{is_identifier}
use Rattle.svd_model.specs.declared.device.Cluster.{Cluster, out-Cluster}
use Rattle.svd_model.specs.declared.device.Device.{Device}
use Rattle.svd_model.specs.declared.device.Field.{Field}
use Rattle.svd_model.specs.declared.device.Item.{Item}
use Rattle.svd_model.specs.declared.device.Peripheral.{Peripheral}
use Rattle.svd_model.specs.declared.device.Register.{Register}
use Rattle.svd_model.specs.declared.props.Props.{Props}
use Rattle.svd_model.specs.declared.sibling.Sibling.{Sibling}
use Rattle.svd_model.specs.Keys.{Key}
use Rattle.svd_model.specs.Properties.{access_at, can_read, can_write, holding}
use Rattle.svd_model.specs.Stating.{is_of, stated_dim, stated_increment, value_of}
use Rattle.svd_model.specs.Steps.{Step, register}
use Rattle.svd_model.specs.Trees.{cluster_places, device_rows, device_tree, field_tree, item_under, peripheral_places, peripheral_under, register_places, register_tree, cluster_under, register_under}
use Rattle.svd_rows.specs.Forest.{Forest, Tree, leaf, node, siblings}
use Rattle.svd_rows.specs.LookUps.{keys_of}
use Rattle.svd_rows.specs.Ranks.{stated}
use Rattle.svd_rows.specs.Rows.{Row, rows}
use Rattle.svd_values.specs.AccessorNames.{accessor_name}
use Rattle.svd_values.specs.declared.schema_word.WriteKind.{WriteKind}
use Rattle.crate_form.specs.Children.{children_of}
use Rattle.crate_form.specs.Crates.{blocks_of, crate_of, emitted, takes_indexes, version_by}
use Rattle.crate_form.specs.Elements.{StandsAlone, block_at, entry_marker, register_at}
use Rattle.crate_form.specs.Modules.{head_of, module_by, modules_of}
use Rattle.crate_form.specs.Registers.{field_array, marked, markers_of, register_here}
use Rattle.crate_form.proofs.Forming.{emitted_by_tree}
use Rattle.crate_form.proofs.Named.{markers-entries}
use Rattle.crate_form.proofs.Standing.{fits-register, props-cluster, props-register, tree-cluster}

both-false : (a b : Bool) → (a || b) ≡ false → (a ≡ false) × (b ≡ false)
both-false true b e = absurd cc
both-false false b e = (refl, e)

-- ---- one register, and those below

or-or : (a b : Bool) → (a || b) ≡ ((a || false) || b)
or-or true b = refl
or-or false b = refl

or-none : (a : Bool) → (a || false) ≡ a
or-none true = refl
or-none false = refl

module _ (outer : Props) where
  pub indexes-none : takes_indexes outer (siblings []) ≡ false
  unfolding takes_indexes siblings
  indexes-none = refl

  pub indexes-first : (x : Step × Tree Step Key) (xs : List (Step × Tree Step Key)) → takes_indexes outer (siblings (x ∷ xs)) ≡ (takes_indexes outer (siblings (x ∷ [])) || takes_indexes outer (siblings xs))
  unfolding takes_indexes siblings
  indexes-first x xs = or-or (cond (is_of register x.0) (has_arrays (register_here (props_inside x.1.keys outer) x.0 x.1.keys x.1.below)) (takes_indexes (props_inside x.1.keys outer) x.1.below)) (takes_indexes outer (siblings xs))

  -- where the first has one, they have
  pub indexes-some : (x : Step × Tree Step Key) (xs : List (Step × Tree Step Key)) → takes_indexes outer (siblings (x ∷ [])) ≡ true → takes_indexes outer (siblings (x ∷ xs)) ≡ true
  indexes-some x xs is = indexes-first x xs ∙ ap (λ b. b || takes_indexes outer (siblings xs)) is

  -- where it has none, the others decide
  pub indexes-others : (x : Step × Tree Step Key) (xs : List (Step × Tree Step Key)) → takes_indexes outer (siblings (x ∷ [])) ≡ false → takes_indexes outer (siblings (x ∷ xs)) ≡ takes_indexes outer (siblings xs)
  indexes-others x xs is = indexes-first x xs ∙ ap (λ b. b || takes_indexes outer (siblings xs)) is

-- the fields of a row are arrays where the declared ones state `dim`
is-array : (entry : Sibling × Field) → is_some (option_map field_array (field_dim (value_of stated_dim (keys_of (rows (field_tree entry.1)))) (value_of stated_increment (keys_of (rows (field_tree entry.1)))))) ≡ is_some entry.1.dim.count
is-array entry = kept (value_of stated_dim (keys_of (rows (field_tree entry.1)))) (value_of stated_increment (keys_of (rows (field_tree entry.1)))) ∙ ap is_some (ap (value_of stated_dim) (keys-field entry.0 entry.1) ∙ field-dim entry.1)
  where
    kept : (count increment : Option ℕ) → is_some (option_map field_array (field_dim count increment)) ≡ is_some count
    kept None increment = refl
    kept (Some n) increment = refl

fields-arrays : (readable writable : Bool) (kind : Option WriteKind) (entries : List (Sibling × Field))
    → list_any (λ (field : MadeField). is_some field.array) (marked (map entry_marker entries) (map (λ entry. field_row readable writable kind (field_part entry)) entries)) ≡ list_any (λ (entry : Sibling × Field). is_some entry.1.dim.count) entries
unfolding marked field_row
fields-arrays readable writable kind [] = refl
fields-arrays readable writable kind (entry ∷ entries) = ap₂ (λ a b. a || b) (is-array entry) (fields-arrays readable writable kind entries)

module _ (outer : Props) (key : Sibling) (r : Register) where
  register-arrays : StandsAlone outer (register_under key r) → has_arrays (register_at outer (register_under key r)) ≡ list_any (λ (entry : Sibling × Field). is_some entry.1.dim.count) r.fields.entries
  register-arrays stand =
      ap₂ (λ markers fields. list_any (λ (field : MadeField). is_some field.array) (marked markers fields)) (markers-entries r.fields.entries)
      (ap (λ props. (register_row (record { slot = []; steps = [] }) 0 props (rows (register_tree r))).fields) (props-register outer key r)
      ∙ ap (λ (row : TableRow). row.fields) (row-register r (fits-register outer key r stand).distinct (record { slot = []; steps = [] }) 0 outer))
      ∙ fields-arrays (can_read (access_at r outer)) (can_write (access_at r outer)) r.kind r.fields.entries

  pub indexes-register : StandsAlone outer (register_under key r) → takes_indexes outer (siblings (register_under key r ∷ [])) ≡ list_any (λ (entry : Sibling × Field). is_some entry.1.dim.count) r.fields.entries
  unfolding takes_indexes siblings
  indexes-register stand = or-none (has_arrays (register_at outer (register_under key r))) ∙ register-arrays stand

pub indexes-cluster : (outer : Props) (key : Sibling) (c : Cluster) → takes_indexes outer (siblings (cluster_under key c ∷ [])) ≡ takes_indexes (holding ((out-Cluster c).props ∷ outer ∷ [])) (siblings (map item_under (out-Cluster c).children.items))
unfolding takes_indexes siblings
indexes-cluster outer key c =
    ap (λ (x : Step × Tree Step Key). takes_indexes outer (siblings (x ∷ []))) (tree-cluster outer key c)
    ∙ or-none (takes_indexes (props_inside (stated (cluster_places (out-Cluster c))) outer) (siblings (map item_under (out-Cluster c).children.items)))
    ∙ ap (λ (props : Props). takes_indexes props (siblings (map item_under (out-Cluster c).children.items))) (props-cluster outer key c)

pub indexes-peripheral : (outer : Props) (key : Sibling) (p : Peripheral) → takes_indexes outer (siblings (peripheral_under (key, p) ∷ [])) ≡ takes_indexes (props_inside (stated (peripheral_places p)) outer) (siblings (map item_under p.children.items))
unfolding takes_indexes siblings
indexes-peripheral outer key p = or-none (takes_indexes (props_inside (stated (peripheral_places p)) outer) (siblings (map item_under p.children.items)))

-- ---- a register without them is valid in both versions alike

none-of : {X : Type 0} (o : Option X) → is_some o ≡ false → o ≡ None
none-of None e = refl
none-of (Some x) e = absurd cc

module _ (field : MadeField) (none : field.array ≡ None) where
  read-alike : (b : Bool) → stands_in One (spot_read (read_form b field)) ≡ stands_in Two (spot_read (read_form b field))
  read-alike true = ap (λ array. stands_in One (spot_of field.offset array)) none ∙ sym (ap (λ array. stands_in Two (spot_of field.offset array)) none)
  read-alike false = ap (λ array. stands_in One (spot_of field.offset array)) none ∙ sym (ap (λ array. stands_in Two (spot_of field.offset array)) none)

  write-alike : (b : Bool) → stands_in One (spot_written (write_form b field)) ≡ stands_in Two (spot_written (write_form b field))
  write-alike true = ap (λ array. stands_in One (spot_of field.offset array)) none ∙ sym (ap (λ array. stands_in Two (spot_of field.offset array)) none)
  write-alike false = ap (λ array. stands_in One (spot_of field.offset array)) none ∙ sym (ap (λ array. stands_in Two (spot_of field.offset array)) none)

  reader-alike : valid_reader One (reader_of field) ≡ valid_reader Two (reader_of field)
  reader-alike = ap (λ b. b && (is_identifier field.name && (is_identifier field.marker && valid_read (read_form (is_bit field) field)))) (read-alike (is_bit field))

  writer-alike : valid_writer One (writer_of field) ≡ valid_writer Two (writer_of field)
  writer-alike = ap (λ b. b && (is_identifier field.name && (is_identifier field.marker && valid_write (write_form (is_bit field) field)))) (write-alike (is_bit field))

module _ {A : Type 0} (of : MadeField → A) (allowed : MadeField → Bool) (one two : A → Bool) (alike : (field : MadeField) → field.array ≡ None → one (of field) ≡ two (of field)) where
  one-more : (b : Bool) (field : MadeField) (fields : List MadeField) → one (of field) ≡ two (of field) → list_all one (map of fields) ≡ list_all two (map of fields)
      → list_all one (map of (cond b (field ∷ fields) fields)) ≡ list_all two (map of (cond b (field ∷ fields) fields))
  one-more true field fields first others = ap₂ (λ a b. a && b) first others
  one-more false field fields first others = others

  calls-alike : (fields : List MadeField) → list_any (λ (field : MadeField). is_some field.array) fields ≡ false → list_all one (map of (filter allowed fields)) ≡ list_all two (map of (filter allowed fields))
  calls-alike [] none = refl
  calls-alike (field ∷ fields) none =
      let parts = both-false (is_some field.array) (list_any (λ (field : MadeField). is_some field.array) fields) none in
      one-more (allowed field) field (filter allowed fields) (alike field (none-of field.array parts.0)) (calls-alike fields parts.1)

  part-alike : (b : Bool) (xs : List A) → list_all one xs ≡ list_all two xs → valid_option (list_all one) (where_true b xs) ≡ valid_option (list_all two) (where_true b xs)
  part-alike true xs same = same
  part-alike false xs same = refl

register-alike : (wanted : MadeRegister) → has_arrays wanted ≡ false → valid_register One (form_of wanted) ≡ valid_register Two (form_of wanted)
unfolding valid_register
register-alike wanted none =
    ap₂ (λ a b. is_identifier wanted.name && (valid_option valid_writable (where_true wanted.writable (masks_of wanted)) && (valid_constant (form_of wanted).reset && (list_all is_identifier (made_markers wanted.fields) && (a && (b && list_all valid_values (values_among wanted.fields)))))))
    (part-alike reader_of (λ (field : MadeField). field.readable) (valid_reader One) (valid_reader Two) reader-alike wanted.readable (readers_among wanted.fields) (calls-alike reader_of (λ (field : MadeField). field.readable) (valid_reader One) (valid_reader Two) reader-alike wanted.fields none))
    (part-alike writer_of (λ (field : MadeField). field.writable) (valid_writer One) (valid_writer Two) writer-alike wanted.writable (writers_among wanted.fields) (calls-alike writer_of (λ (field : MadeField). field.writable) (valid_writer One) (valid_writer Two) writer-alike wanted.fields none))

-- ---- so are modules

module _ (props : Props) (step : Step) (keys : List Key) (below : Forest Step Key) (rest : Modules) where
  unit-alike : (b : Bool) → cond b (has_arrays (register_here props step keys below)) (takes_indexes props below) ≡ false
      → (takes_indexes props below ≡ false → valid_modules One (modules_of props below) ≡ valid_modules Two (modules_of props below))
      → valid_modules One rest ≡ valid_modules Two rest
      → valid_modules One (before (module_by b props step keys below (modules_of props below)) rest) ≡ valid_modules Two (before (module_by b props step keys below (modules_of props below)) rest)
  unfolding valid_modules
  unit-alike true none inner others = ap₂ (λ a b. a && b) (register-alike (register_here props step keys below) none) others
  unit-alike false none inner others = ap₂ (λ a b. valid_head (head_of (accessor_name step.name) (children_of props below)) && (a && b)) (inner none) others

modules-alike : (outer : Props) (forest : Forest Step Key) → takes_indexes outer forest ≡ false → valid_modules One (modules_of outer forest) ≡ valid_modules Two (modules_of outer forest)
unfolding takes_indexes modules_of valid_modules
modules-alike outer leaf none = refl
modules-alike outer (node step keys below others) none =
    let parts = both-false (cond (is_of register step) (has_arrays (register_here (props_inside keys outer) step keys below)) (takes_indexes (props_inside keys outer) below)) (takes_indexes outer others) none in
    unit-alike (props_inside keys outer) step keys below (modules_of outer others) (is_of register step) parts.0 (modules-alike (props_inside keys outer) below) (modules-alike outer others parts.1)

-- ---- and blocks

module _ (outer : Props) where
  block-alike : (entry : Sibling × Peripheral) → takes_indexes outer (siblings (peripheral_under entry ∷ [])) ≡ false → valid_block One (block_at outer (peripheral_under entry)) ≡ valid_block Two (block_at outer (peripheral_under entry))
  block-alike entry none =
      let inner = props_inside (stated (peripheral_places entry.1)) outer in
      let below = siblings (map item_under entry.1.children.items) in
      ap (λ b. valid_head (head_of (accessor_name entry.0.name) (children_of inner below)) && b) (modules-alike inner below (sym (indexes-peripheral outer entry.0 entry.1) ∙ none))

  blocks-alike : (entries : List (Sibling × Peripheral)) → takes_indexes outer (siblings (map peripheral_under entries)) ≡ false → list_all (valid_block One) (blocks_of outer (siblings (map peripheral_under entries))) ≡ list_all (valid_block Two) (blocks_of outer (siblings (map peripheral_under entries)))
  unfolding blocks_of siblings
  blocks-alike [] none = refl
  blocks-alike (entry ∷ entries) none =
      let parts = both-false (takes_indexes outer (siblings (peripheral_under entry ∷ []))) (takes_indexes outer (siblings (map peripheral_under entries))) (sym (indexes-first outer (peripheral_under entry) (map peripheral_under entries)) ∙ none) in
      ap₂ (λ a b. a && b) (block-alike entry parts.0) (blocks-alike entries parts.1)

  none-at : (entries : List (Sibling × Peripheral)) (i : ℕ) (entry : Sibling × Peripheral) → slice_get entries i ≡ Some entry → takes_indexes outer (siblings (map peripheral_under entries)) ≡ false → takes_indexes outer (siblings (peripheral_under entry ∷ [])) ≡ false
  none-at [] i entry is none = absurd cc
  none-at (first ∷ entries) zero entry is none =
      let parts = both-false (takes_indexes outer (siblings (peripheral_under first ∷ []))) (takes_indexes outer (siblings (map peripheral_under entries))) (sym (indexes-first outer (peripheral_under first) (map peripheral_under entries)) ∙ none) in
      subst (λ (entry : Sibling × Peripheral). takes_indexes outer (siblings (peripheral_under entry ∷ [])) ≡ false) (ap (λ (found : Option (Sibling × Peripheral)). unwrap_or found first) is) parts.0
  none-at (first ∷ entries) (suc i) entry is none =
      let parts = both-false (takes_indexes outer (siblings (peripheral_under first ∷ []))) (takes_indexes outer (siblings (map peripheral_under entries))) (sym (indexes-first outer (peripheral_under first) (map peripheral_under entries)) ∙ none) in
      none-at entries i entry is parts.1

-- ---- the version of a crate

-- what is valid in the second version is so in the one that is asked for, where both agree without an array
by-version : (takes : Bool) (valid : Version → Bool) → (takes ≡ false → valid One ≡ valid Two) → valid Two ≡ true → valid (version_by takes) ≡ true
by-version true valid alike two = two
by-version false valid alike two = alike refl ∙ two

module _ (device : Device) (all : List (Row Step Key)) (told : device_rows device ≡ all) where
  abbrev takes : Bool
  takes = takes_indexes device.props (siblings (map peripheral_under device.peripherals.entries))

  pub version-told : (emitted all).version ≡ version_by takes
  unfolding crate_of device_tree
  version-told = ap (λ (krate : CrateTree). krate.version) (sym (ap emitted told) ∙ emitted_by_tree device)

  pub blocks-valid : (blocks : List BlockTree) → blocks ≡ blocks_of device.props (siblings (map peripheral_under device.peripherals.entries)) → list_all (valid_block Two) blocks ≡ true → list_all (valid_block (emitted all).version) blocks ≡ true
  blocks-valid blocks are two =
      ap (λ version. list_all (valid_block version) blocks) version-told
      ∙ by-version takes (λ version. list_all (valid_block version) blocks)
      (λ none. ap (list_all (valid_block One)) are ∙ (blocks-alike device.props device.peripherals.entries none ∙ sym (ap (list_all (valid_block Two)) are))) two

  pub block-valid : (i : ℕ) (entry : Sibling × Peripheral) (block : BlockTree) → slice_get device.peripherals.entries i ≡ Some entry → block ≡ block_at device.props (peripheral_under entry) → valid_block Two block ≡ true → valid_block (emitted all).version block ≡ true
  block-valid i entry block at is two =
      ap (λ version. valid_block version block) version-told
      ∙ by-version takes (λ version. valid_block version block)
      (λ none. ap (valid_block One) is ∙ (block-alike device.props entry (none-at device.props device.peripherals.entries i entry at none) ∙ sym (ap (valid_block Two) is))) two
