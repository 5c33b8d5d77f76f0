-- Worked rows: what scripts do against the tables of small descriptions, and which don't fit, by computation.
use Rattle.std.specs.Prelude.{◌≡◌, ℕ, true, false, Option, Some, None, List, [], ◌∷◌, codes, refl}
use Rattle.frag_tree.specs.declared.event.Event.{Event}
use Rattle.frag_tree.specs.declared.event.Event.TheVariants as event
use Rattle.frag_tree.specs.declared.event.Said.TheVariants.{Number, Truth}
use Rattle.frag_tree.specs.declared.script.Script.{Script}
use Rattle.frag_tree.specs.declared.statement.Atom.TheVariants as atom
use Rattle.frag_tree.specs.declared.statement.Link.{Link}
use Rattle.frag_tree.specs.declared.statement.Link.TheVariants as link
use Rattle.frag_tree.specs.declared.statement.Source.TheVariants as source
use Rattle.frag_tree.specs.declared.statement.Statement.TheVariants as statement
use Rattle.frag_sem.specs.Meaning.{lines_meaning, meaning, outcome_of, value_of}
use Rattle.frag_sem.specs.Presets.{first_of_each, presets}
use Rattle.frag_sem.specs.ScriptTyping.{LineFault, ScriptKind, call_types, chain_types, index_range, lines_fault, literal_range, no_such_call, rebound, script_fault, statement_types, steps_type, value_types, wrong_type}
use Rattle.frag_sem.specs.WorkedCrates.{call_at, calls, copies_bit, member, place, plain_call, said_script, script, status}
use Rattle.bits_word.specs.Places.{get, put}
use Rattle.pac_base.specs.declared.width.Width.TheVariants.{W32, W64, W8}
use Rattle.reg_table.specs.Calls.{calls_of, first_of_each as first_calls, parts}
use Rattle.reg_table.specs.Fields.{field_row}
use Rattle.reg_table.specs.Masks.{is_masked, mask_of, number_of_bits}
use Rattle.reg_table.specs.Registers.{array_paths, members_in_order, register_row, row_path, rows_of_member, table_of}
use Rattle.svd_model.specs.Keys.{Key}
use Rattle.svd_model.specs.Properties.{holding}
use Rattle.svd_model.specs.Stating.{address_of, keys_down, paths_of, properties_of, value_of as stated_value, ways_down}
use Rattle.svd_model.specs.Steps.{Step, same_step}
use Rattle.svd_model.specs.Visits.{visits_of}
use Rattle.svd_rows.specs.LookUps.{child_step, children_of, ends_with, inside, keys_of, top_key}
use Rattle.svd_rows.specs.Paths.{begins}
use Rattle.svd_rows.specs.RowEdits.{exchanged}
use Rattle.svd_rows.specs.Rows.{Row, forest_rows, is_element, own, rows, under}
use Rattle.rust_names.specs.Keywords.{is_keyword}
use Rattle.rust_names.specs.PreludeNames.{is_prelude_name}
use Rattle.table_sem.specs.Methods.{read_methods, write_methods}
use Rattle.table_sem.specs.Names.{named_visits, names_of}
use Rattle.table_sem.specs.RowActs.{row_acts}
use Rattle.table_sem.specs.StartNumber.{start_number}
use Rattle.table_sem.specs.TableMeaning.{row_at, table_presets, table_run}
use Rattle.table_sem.specs.TableSurface.{row_calls, table_surface}
use Rattle.table_sem.specs.WorkedTables.{both_at_0, channels, cleared_by_zero, cut, long, nested, one_way, plain, status_rows, with_levels, with_mode}

-- what the events of a script against a table are computed with
run_words : Unit {0}
unfolding table_run table_presets row_at meaning presets first_of_each lines_meaning outcome_of value_of row_acts start_number number_of_bits get put read_methods write_methods
run_words = tt

-- what the table of flat rows is computed with
table_words : Unit {0}
unfolding table_of members_in_order array_paths rows_of_member row_path register_row field_row parts calls_of first_calls mask_of number_of_bits is_masked stated_value paths_of ways_down keys_down properties_of address_of holding same_step inside top_key child_step keys_of children_of ends_with begins exchanged own under forest_rows rows is_element is_keyword is_prelude_name
table_words = tt

-- what the first fault of a script against flat rows is computed with
fault_words : Unit {0}
unfolding script_fault lines_fault statement_types call_types steps_type chain_types value_types table_surface named_visits names_of visits_of row_calls read_methods write_methods
fault_words = tt

-- the events of a script against a description
abbrev run : List (Row Step Key) → Script → List ℕ → List Event
run all script answers = table_run (table_of all) script answers

-- the first fault of a script against a description
abbrev fault : List (Row Step Key) → Script → Option LineFault
fault all script = script_fault (table_surface all) script

-- a fault on the first line
abbrev first_line : ScriptKind → Option LineFault
first_line kind = Some (record { line = 1; kind = kind })

-- ---- events

-- `T.sr().write(|w| w.f1().set_bit());`: the mask takes bit 0 off the reset word.
pub one_to_clear_mask : run status_rows (script (statement.Write status (calls (codes "f1") (codes "set_bit")))) [] ≡ event.Write 0x40000000 W32 2 ∷ []
unfolding run_words table_words
one_to_clear_mask = refl

-- `T.sr().modify(|_, w| w.f0().clear_bit_by_one());`: the word starts as 2, and the call sets bit 0. `T.sr().modify(|_, w| w);` writes 2.
pub modify_clears_by_one :
    (run status_rows (script (statement.Modify status false (calls (codes "f0") (codes "clear_bit_by_one")))) (3 ∷ []) ≡ event.Read 0x40000000 W32 3 ∷ event.Write 0x40000000 W32 3 ∷ [])
    × (run status_rows (script (statement.Modify status false [])) (3 ∷ []) ≡ event.Read 0x40000000 W32 3 ∷ event.Write 0x40000000 W32 2 ∷ [])
unfolding run_words table_words
modify_clears_by_one = (refl, refl)

-- `T.sr().write(|w| w);`, `T.sr().write_with_zero(|w| w);`
pub zero_to_modify_mask :
    (run cleared_by_zero (script (statement.Write status [])) [] ≡ event.Write 0x40000000 W32 0x10 ∷ [])
    × (run cleared_by_zero (script (statement.WriteWithZero status [])) [] ≡ event.Write 0x40000000 W32 0 ∷ [])
unfolding run_words table_words
zero_to_modify_mask = (refl, refl)

-- Of two fields at bit 0 one is cleared by writing 1 and one by writing 0: the bit is raised.
pub masks_overlap : run both_at_0 (script (statement.Write (place (codes "T") (codes "r")) [])) [] ≡ event.Write 0x40000000 W32 1 ∷ []
unfolding run_words table_words
masks_overlap = refl

-- `T.l().write(|w| w.v().bits(0xffff_ffff_ffff_ffff));`
pub whole_64_bit_word :
    run long (script (statement.Write (place (codes "T") (codes "l")) (link.Field (plain_call (codes "v")) (codes "bits") (Some (record { negations = 0; atom = atom.Number 0xffffffffffffffff })) ∷ []))) []
    ≡ event.Write 0x40000000 W64 0xffffffffffffffff ∷ []
unfolding run_words table_words
whole_64_bit_word = refl

-- `T.b().reset();`: of 0x1a5 the register holds 0xa5.
pub reset_cut_to_width : run cut (script (statement.Reset (place (codes "T") (codes "b")))) [] ≡ event.Write 0x40000000 W8 0xA5 ∷ []
unfolding run_words table_words
reset_cut_to_width = refl

-- `let a = T.ch(3).read();`, of four that stand 16 bytes apart; the answer is cut to the register's width
pub register_array : run channels (script (statement.Let (codes "a") (member (codes "T") (codes "ch") 3))) (0x123456789 ∷ []) ≡ event.Read 0x40000030 W32 0x23456789 ∷ []
unfolding run_words table_words
register_array = refl

-- `T.cl(1).r().reset();`
pub nested_array :
    run nested (script (statement.Reset (record { slot = codes "T"; steps = call_at (codes "cl") 1 ∷ plain_call (codes "r") ∷ [] }))) []
    ≡ event.Write 0x40000124 W32 0 ∷ []
unfolding run_words table_words
nested_array = refl

-- `let s = T.sr().read();`, `say(s.mode().bits());`, `say(!s.mode().is_fast());`, `say(s.bits() as u8);`
pub said_of_a_word :
    run with_mode said_script (0x135 ∷ [])
    ≡ event.Read 0x40000000 W32 0x135 ∷ event.Say (Number 3) ∷ event.Say (Truth false) ∷ event.Say (Number 0x35) ∷ []
unfolding run_words table_words
said_of_a_word = refl

-- `T.sr().write(|w| w.mode().fast());`
pub value_is_written : run with_mode (script (statement.Write status (calls (codes "mode") (codes "fast")))) [] ≡ event.Write 0x40000000 W32 0xBF ∷ []
unfolding run_words table_words
value_is_written = refl

-- `T.sr().modify(|r, w| w.f1().bit(r.f0().bit()));`: of 1 the bit `f0` is set, and the word of which `f1` is set starts as 0.
pub reader_is_named : run status_rows copies_bit (1 ∷ []) ≡ event.Read 0x40000000 W32 1 ∷ event.Write 0x40000000 W32 2 ∷ []
unfolding run_words table_words
reader_is_named = refl

-- What is called twice is set before once.
pub preset_once :
    table_presets (table_of status_rows) (record { lines = record { line = 1; statement = statement.Reset status } ∷ record { line = 2; statement = statement.Reset status } ∷ [] })
    ≡ record { address = 0x40000000; width = W32; value = 3 } ∷ []
unfolding run_words table_words
preset_once = refl

-- `T.sr().write(|w| w.lv(3).bits(2));`: the two bits at 0 + 3 · 8
pub member_is_written :
    run with_levels (script (statement.Write status (link.Field (call_at (codes "lv") 3) (codes "bits") (Some (record { negations = 0; atom = atom.Number 2 })) ∷ []))) []
    ≡ event.Write 0x40000000 W32 0x02000000 ∷ []
unfolding run_words table_words
member_is_written = refl

-- `T.sr().modify(|r, w| w.lv(0).bits(r.lv(2).bits()));`
pub member_is_read :
    run with_levels (script (statement.Modify status true (
    link.Field (call_at (codes "lv") 0) (codes "bits") (Some (record { negations = 0; atom = atom.Source (source.Field (codes "r") (call_at (codes "lv") 2) (codes "bits")) })) ∷ []))) (0x03030100 ∷ [])
    ≡ event.Read 0x40000000 W32 0x03030100 ∷ event.Write 0x40000000 W32 0x03030103 ∷ []
unfolding run_words table_words
member_is_read = refl

-- ---- surfaces

-- `let a = T.ch(3).read();` fits where there are four, and `T.ch(4)` doesn't; nor does `T.ch()`.
pub index_of_an_array :
    (fault channels (script (statement.Let (codes "a") (member (codes "T") (codes "ch") 3))) ≡ None)
    × ((fault channels (script (statement.Let (codes "a") (member (codes "T") (codes "ch") 4))) ≡ first_line index_range)
    × (fault channels (script (statement.Let (codes "a") (place (codes "T") (codes "ch")))) ≡ first_line wrong_type))
unfolding fault_words table_words
index_of_an_array = (refl, (refl, refl))

-- `let a = T.a().read();` of what is written alone, `T.b().reset();` of what is read alone
pub directions_refused :
    (fault one_way (script (statement.Let (codes "a") (place (codes "T") (codes "a")))) ≡ first_line no_such_call)
    × (fault one_way (script (statement.Reset (place (codes "T") (codes "b")))) ≡ first_line no_such_call)
unfolding fault_words table_words
directions_refused = (refl, refl)

-- `let a = T.cr().read();` on two lines; `T.cr().write(|w| w.bits(0x1_0000_0000));`
pub script_faults :
    (fault plain (record { lines = record { line = 1; statement = statement.Let (codes "a") (place (codes "T") (codes "cr")) } ∷ record { line = 2; statement = statement.Let (codes "a") (place (codes "T") (codes "cr")) } ∷ [] })
    ≡ Some (record { line = 2; kind = rebound }))
    × (fault plain (script (statement.Write (place (codes "T") (codes "cr")) (link.Bits (record { negations = 0; atom = atom.Number 0x100000000 }) ∷ []))) ≡ first_line literal_range)
unfolding fault_words table_words
script_faults = (refl, refl)

-- `T.cl(1).reset();` ends at a cluster.
pub no_register : fault nested (script (statement.Reset (member (codes "T") (codes "cl") 1))) ≡ first_line no_such_call
unfolding fault_words table_words
no_register = refl

-- `T.sr().write(|w| w.f0().set_bit());`: of what is cleared by writing 1 there is `clear_bit_by_one` alone; and `bits` of a field of three bits takes a u8, which 300 isn't.
pub methods_of_fields :
    (fault status_rows (script (statement.Write status (calls (codes "f0") (codes "set_bit")))) ≡ first_line no_such_call)
    × ((fault with_mode said_script ≡ None)
    × (fault with_mode (script (statement.Write status (link.Field (plain_call (codes "mode")) (codes "bits") (Some (record { negations = 0; atom = atom.Number 300 })) ∷ []))) ≡ first_line literal_range))
unfolding fault_words table_words
methods_of_fields = (refl, (refl, refl))

abbrev with_two : Option ℕ → List Link
with_two index = link.Field (record { name = codes "lv"; index = index }) (codes "bits") (Some (record { negations = 0; atom = atom.Number 2 })) ∷ []

-- `w.lv(3)` is the last of four members; `w.lv(4)` is none, and `w.lv()` has no index.
pub index_of_a_field :
    (fault with_levels (script (statement.Write status (with_two (Some 3)))) ≡ None)
    × ((fault with_levels (script (statement.Write status (with_two (Some 4)))) ≡ first_line index_range)
    × (fault with_levels (script (statement.Write status (with_two None))) ≡ first_line wrong_type))
unfolding fault_words table_words
index_of_a_field = (refl, (refl, refl))
