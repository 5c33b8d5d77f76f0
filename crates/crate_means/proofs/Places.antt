-- What stands at the places of a crate, against the rows of the whole table.
use Rattle.std.proofs.Common.{ℕ, ◌≡◌, ◌+◌, Bool, true, false, cond, ◌&&◌, List, [], ◌∷◌, ◌++◌, map, find, flat_map, Option, Some, None, option_map, option_and_then, bytes_eq, refl, sym, ap, ap₂, subst, ◌∙◌, append_assoc, append-nil}
use Rattle.std.specs.Option.{option_or}
use Rattle.std.proofs.lemmas.List.{map-append}
use Rattle.frag_tree.specs.declared.krate.Slot.{Slot}
use Rattle.frag_tree.specs.declared.statement.Call.{Call}
use Rattle.frag_tree.specs.declared.statement.Place.{Place}
use Rattle.frag_tree.specs.Trees.{CrateTree, one_block}
use Rattle.frag_sem.specs.CallPlaces.{from_slot, leads, register_at, slot_named}
use Rattle.frag_sem.specs.Likeness.{AlikePlaces, BothAlike}
use Rattle.frag_sem.specs.Meaning.{ActsAt}
use Rattle.frag_sem.specs.TextMeaning.{acts_at, text_at, text_meaning, text_presets}
use Rattle.frag_sem.proofs.Likeness.{alike_mean, alike_preset}
use Rattle.frag_sem.proofs.Lists.{found_map}
use Rattle.reg_table.specs.Registers.{register_row, table_of}
use Rattle.reg_table.specs.Walk.{path_inside, peripheral_path, props_inside, rows_in, rows_of_peripherals}
use Rattle.reg_table.specs.declared.row.Row.{Row as TableRow}
use Rattle.reg_table.specs.declared.row.RowPath.{RowPath}
use Rattle.reg_table.proofs.Exchanges.{flat_map-agree, map-flat_map}
use Rattle.reg_table.proofs.Tables.{table-rows}
use Rattle.svd_model.specs.declared.props.Props.{Props}
use Rattle.svd_model.specs.Keys.{Key}
use Rattle.svd_model.specs.Stating.{value_of, stated_dim, indexes_of, is_of, start_of}
use Rattle.svd_model.specs.Steps.{Step, register}
use Rattle.svd_model.specs.Trees.{device_rows, device_tree}
use Rattle.svd_rows.specs.Forest.{Forest, leaf, node}
use Rattle.svd_rows.specs.Rows.{Row, rows}
use Rattle.svd_values.specs.AccessorNames.{accessor_name, slot_name_of}
use Rattle.table_sem.specs.RowActs.{row_acts, row_found}
use Rattle.table_sem.specs.TableMeaning.{is_at, row_at, table_presets, table_run}
use Rattle.table_sem.specs.TableSurface.{no_path}
use Rattle.crate_means.specs.BlockIs.{BlockIs}
use Rattle.crate_means.specs.CrateIs.{CrateOf, EachPeripheral, PeripheralIs}
use Rattle.crate_means.specs.Laws.{PlacesAreAlike, SameMeaning, SamePresets}
use Rattle.crate_means.proofs.Named.{Element, Paired, element_named, first-pair, sought, sought-named}
use Rattle.crate_means.proofs.Seeking.{behind, found-append, found-if, has_steps, member_here, rows_here, seek}
use Rattle.crate_means.proofs.Walk.{walked}

-- ---- the rows of a walk are those seen from its start, below its path

-- a row below this path
abbrev under : RowPath → TableRow → TableRow
under path row = record row { path = record { slot = path.slot; steps = path.steps ++ row.path.steps } }

under-behind : (path : RowPath) (name : List ℕ) (index : Option ℕ) (table : List TableRow) → map (under path) (map (behind (accessor_name name) index) table) ≡ map (under (path_inside path name index)) table
under-behind path name index [] = refl
under-behind path name index (row ∷ table) =
    ap₂ (λ x xs. x ∷ xs) (ap (λ steps. record row { path = record { slot = path.slot; steps = steps } }) (sym (append_assoc path.steps (record { name = accessor_name name; index = index } ∷ []) row.path.steps)))
    (under-behind path name index table)

row-under : (path : RowPath) (address : ℕ) (props : Props) (b : Bool) (own : List (Row Step Key)) → map (under path) (cond b (register_row no_path address props own ∷ []) []) ≡ cond b (register_row path address props own ∷ []) []
unfolding register_row
row-under path address props true own = ap (λ steps. record (register_row path address props own) { path = record { slot = path.slot; steps = steps } } ∷ []) (append-nil path.steps)
row-under path address props false own = refl

rows-under : (path : RowPath) (start : ℕ) (outer : Props) (f : Forest Step Key) → rows_in path start outer f ≡ map (under path) (rows_here start outer f)
unfolding rows_in rows_here
rows-under path start outer leaf = refl
rows-under path start outer (node step keys children others) =
    ap₂ (λ xs ys. xs ++ ys)
    (flat_map-agree _ _ (λ index.
    ap₂ (λ xs ys. xs ++ ys) (sym (row-under (path_inside path step.name index) (start + start_of keys index) (props_inside keys outer) (is_of register step) own)) (rows-under (path_inside path step.name index) (start + start_of keys index) (props_inside keys outer) children)
    ∙ (sym (map-append (under (path_inside path step.name index)) (cond (is_of register step) (register_row no_path (start + start_of keys index) (props_inside keys outer) own ∷ []) []) (rows_here (start + start_of keys index) (props_inside keys outer) children))
    ∙ sym (under-behind path step.name index (member index)))) (indexes_of (value_of stated_dim keys))
    ∙ sym (map-flat_map (under path) (λ index. map (behind (accessor_name step.name) index) (member index)) (indexes_of (value_of stated_dim keys))))
    (rows-under path start outer others)
    ∙ sym (map-append (under path) (flat_map (λ index. map (behind (accessor_name step.name) index) (member index)) (indexes_of (value_of stated_dim keys))) (rows_here start outer others))
  where
    own : List (Row Step Key)
    own = rows (record { keys = keys; below = children })

    member : Option ℕ → List TableRow
    member index = member_here (start + start_of keys index) (props_inside keys outer) (is_of register step) keys children (rows_here (start + start_of keys index) (props_inside keys outer) children)

-- ---- slots

found-under : (path : RowPath) (o : Option TableRow) → option_map row_found (option_map (under path) o) ≡ option_map row_found o
unfolding row_acts
found-under path None = refl
found-under path (Some row) = refl

-- rows below a slot are found where the place has it
in-slot : (place : Place) (name : List ℕ) (table : List TableRow) → option_map row_found (find (is_at place) (map (under (peripheral_path name)) table)) ≡ cond (bytes_eq place.slot (slot_name_of name)) (seek place.steps table) None
in-slot place name table =
    ap (option_map row_found) (found_map (is_at place) (under (peripheral_path name)) table)
    ∙ found-under (peripheral_path name) (find (λ row. bytes_eq place.slot (slot_name_of name) && has_steps place.steps row) table)
    ∙ found-if (bytes_eq place.slot (slot_name_of name)) (has_steps place.steps) table

-- what stands at steps in this peripheral
abbrev in_peripheral : List Call → Props → Element → Option ActsAt
in_peripheral steps outer p = seek steps (rows_here (start_of p.keys None) (props_inside p.keys outer) p.children)

rows-found : (place : Place) (outer : Props) (f : Forest Step Key) → option_map row_found (find (is_at place) (rows_of_peripherals outer f)) ≡ sought slot_name_of place.slot (in_peripheral place.steps outer) f
unfolding rows_of_peripherals
rows-found place outer leaf = refl
rows-found place outer (node step keys children others) =
    found-append (is_at place) (rows_in (peripheral_path step.name) (start_of keys None) (props_inside keys outer) children) (rows_of_peripherals outer others)
    ∙ ap₂ option_or
    (ap (λ table. option_map row_found (find (is_at place) table)) (rows-under (peripheral_path step.name) (start_of keys None) (props_inside keys outer) children)
    ∙ in-slot place step.name (rows_here (start_of keys None) (props_inside keys outer) children))
    (rows-found place outer others)

-- ---- the whole crate

-- a slot is that of a peripheral
abbrev IsSlot : Props → CrateTree → Element → Slot → Type 0
IsSlot outer krate p slot = PeripheralIs krate p.step p.keys (BlockIs (props_inside p.keys outer) p.children) slot

paired : (outer : Props) (krate : CrateTree) (name : List ℕ) (f : Forest Step Key) (slots : List Slot) → EachPeripheral outer f krate slots → Paired (IsSlot outer krate) (element_named slot_name_of name f) (slot_named name slots)
unfolding EachPeripheral
paired outer krate name leaf [] each = tt
paired outer krate name leaf (slot ∷ slots) each = absurd each
paired outer krate name (node step keys children others) [] each = absurd each
paired outer krate name (node step keys children others) (slot ∷ slots) each =
    first-pair (IsSlot outer krate) (bytes_eq name (slot_name_of step.name)) (bytes_eq name slot.name) (ap (bytes_eq name) each.0.name) (record { step = step; keys = keys; children = children }) slot each.0
    (element_named slot_name_of name others) (slot_named name slots) (paired outer krate name others slots each.1)

walk-alike : (outer : Props) (f : Forest Step Key) (krate : CrateTree) → CrateOf outer f krate → AlikePlaces (text_at krate) (row_at (rows_of_peripherals outer f))
unfolding BothAlike register_at row_at
walk-alike outer f krate is place =
    subst (BothAlike (text_at krate place)) (sym (rows-found place outer f ∙ sought-named slot_name_of place.slot (in_peripheral place.steps outer) f is.distinct))
    (by (element_named slot_name_of place.slot f) (slot_named place.slot krate.slots) (paired outer krate place.slot f krate.slots is.each))
  where
    by : (o : Option Element) (q : Option Slot) → Paired (IsSlot outer krate) o q → BothAlike (option_map acts_at (option_and_then (from_slot krate place.steps) q)) (option_and_then (in_peripheral place.steps outer) o)
    by None None pair = tt
    by None (Some slot) pair = absurd pair
    by (Some p) None pair = absurd pair
    by (Some p) (Some slot) pair =
        subst (λ o. BothAlike (option_map acts_at (option_and_then (λ unit. leads place.steps (one_block unit) slot.address) o)) (in_peripheral place.steps outer p)) (sym pair.stands)
        (subst (λ n. BothAlike (option_map acts_at (leads place.steps (one_block pair.unit) n)) (in_peripheral place.steps outer p)) (sym pair.address)
        (walked place.steps pair.unit (start_of p.keys None) (props_inside p.keys outer) p.children pair.unit_is))

pub places_are_alike : PlacesAreAlike
places_are_alike device unfolded krate is = subst (λ table. AlikePlaces (text_at krate) (row_at table)) (sym (table-rows device unfolded)) (walk-alike device.props (device_tree device).below krate is)

pub same_meaning : SameMeaning
unfolding text_meaning table_run
same_meaning device unfolded krate is script answers = alike_mean (text_at krate) (row_at (table_of (device_rows device))) (places_are_alike device unfolded krate is) script answers

pub same_presets : SamePresets
unfolding text_presets table_presets
same_presets device unfolded krate is script = alike_preset (text_at krate) (row_at (table_of (device_rows device))) (places_are_alike device unfolded krate is) script
