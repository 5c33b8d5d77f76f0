-- Worked rows: which small crates and scripts fit, and with which kind the others are refused, by computation.
use Rattle.std.specs.Prelude.{◌≡◌, ℕ, true, false, Some, None, [], ◌∷◌, codes, refl}
use Rattle.frag_tree.specs.declared.access.Body.TheVariants as body
use Rattle.frag_tree.specs.declared.block.Element.TheVariants as element
use Rattle.frag_tree.specs.declared.krate.Version.TheVariants.{Two}
use Rattle.frag_tree.specs.declared.statement.Atom.TheVariants as atom
use Rattle.frag_tree.specs.declared.statement.Link.TheVariants as link
use Rattle.frag_tree.specs.declared.statement.Source.TheVariants as source
use Rattle.frag_tree.specs.declared.statement.Statement.TheVariants as statement
use Rattle.frag_tree.specs.Trees.{CrateTree}
use Rattle.frag_tree.specs.Worked.{example, status_register}
use Rattle.frag_sem.specs.AddressEnds.{addresses_fit, all_tests, ends}
use Rattle.frag_sem.specs.CrateTyping.{double_name, literal_range, too_large, wrong_type as crate_type, unknown_name, first_failed, tests, names_differ, slots_lead, paths_lead, bodies_name_fields, bodies_fit, counts_are_some, constants_have_type, constants_fit, reader_markers, reader_places, writer_markers, writer_places, value_types, value_literals, names_are_free, directions_agree}
use Rattle.frag_sem.specs.Layout.{align_of, extents, placed_behind}
use Rattle.frag_sem.specs.Modules.{are_distinct, blocks_in, each_module, modules_of, registers_in}
use Rattle.frag_sem.specs.PreludeCalls.{is_prelude_name}
use Rattle.frag_sem.specs.ScriptTyping.{call_types, chain_types, lines_fault, no_such_call, no_such_name, rebound, script_fault, statement_types, steps_type, value_types as script_values, wrong_type, index_range, literal_range as literal_kind}
use Rattle.frag_sem.specs.TextSurface.{below_modules, register_calls, text_surface}
use Rattle.frag_sem.specs.WorkedCrates.{bit_32, calls, calls_at, channels, copies_bit, crate_of, member, named_at_bit, nested, place, plain_call, said_script, script, second_example, status, status_access, status_field, with_bits, with_mode}

-- what the tests of a crate are computed with
test_words : Unit {0}
unfolding all_tests addresses_fit ends extents each_module placed_behind align_of tests names_differ slots_lead paths_lead bodies_name_fields bodies_fit counts_are_some constants_have_type constants_fit reader_markers reader_places writer_markers writer_places value_types value_literals names_are_free directions_agree are_distinct modules_of blocks_in registers_in is_prelude_name
test_words = tt

-- what the first fault of a script is computed with
fault_words : Unit {0}
unfolding script_fault lines_fault statement_types call_types steps_type chain_types script_values text_surface below_modules each_module register_calls
fault_words = tt

-- ---- typing of crates

pub example-fits : first_failed (all_tests example) ≡ None
unfolding test_words
example-fits = refl

-- `BitWriter::new(self, 32)` in a word of 32 bits
pub edited_text_refused : first_failed (all_tests bit_32) ≡ Some literal_range
unfolding test_words
edited_text_refused = refl

-- The second accessor names no field, which counts before the first, which takes an index that its field hasn't.
pub earlier_kind_wins :
    first_failed (all_tests (crate_of (status_field ∷ []) (
    record status_access { is_indexed = true } ∷
    record { name = codes "x"; is_indexed = false; element = element.Register (codes "sr"); body = body.Field (codes "x") } ∷ []) status_register)) ≡ Some unknown_name
unfolding test_words
earlier_kind_wins = refl

-- Two struct fields of one name.
pub field_twice : first_failed (all_tests (crate_of (status_field ∷ status_field ∷ []) (status_access ∷ []) status_register)) ≡ Some double_name
unfolding test_words
field_twice = refl

-- The last of three registers that stand 2^63 bytes apart ends behind 2^64; that of two doesn't.
abbrev pub far_apart : ℕ → CrateTree
far_apart count = crate_of [] (record { name = codes "ch"; is_indexed = true; element = element.Register (codes "sr"); body = body.AtIndex 0 0x8000_0000_0000_0000 count } ∷ []) status_register

pub last_too_far : (first_failed (all_tests (far_apart 3)) ≡ Some too_large) × (first_failed (all_tests (far_apart 2)) ≡ None)
unfolding test_words
last_too_far = (refl, refl)

-- An accessor that is indexed, where its field is no array.
pub wrongly_indexed : first_failed (all_tests (crate_of (status_field ∷ []) (record status_access { is_indexed = true } ∷ []) status_register)) ≡ Some crate_type
unfolding test_words
wrongly_indexed = refl

-- `impl R` without `Readable`.
pub wrong_direction : first_failed (all_tests (crate_of (status_field ∷ []) (status_access ∷ []) (record status_register { readable = false }))) ≡ Some crate_type
unfolding test_words
wrong_direction = refl

-- With the version line the worked crate fits as it did. Of eight bits the last lies at 29; of nine at 33, behind the word; and there is none of none.
pub second_version_fits :
    (first_failed (all_tests second_example) ≡ None)
    × ((first_failed (all_tests (with_bits 8)) ≡ None)
    × ((first_failed (all_tests (with_bits 9)) ≡ Some literal_range)
    × (first_failed (all_tests (with_bits 0)) ≡ Some literal_range)))
unfolding test_words
second_version_fits = (refl, (refl, (refl, refl)))

-- `at_bit` is a name of the prelude of version 2 alone.
pub at_bit_is_taken : (first_failed (all_tests named_at_bit) ≡ None) × (first_failed (all_tests (record named_at_bit { version = Two })) ≡ Some double_name)
unfolding test_words
at_bit_is_taken = (refl, refl)

-- ---- typing of scripts

-- `T.sr().write(|w| w.f1(7).set_bit());` fits where there are eight, and `w.f1(8)` doesn't; nor do `w.f1()` and `w.f0(0)`.
pub field_indexes :
    (script_fault (text_surface (with_bits 8)) (script (statement.Write status (calls_at (codes "f1") 7 (codes "set_bit")))) ≡ None)
    × ((script_fault (text_surface (with_bits 8)) (script (statement.Write status (calls_at (codes "f1") 8 (codes "set_bit")))) ≡ Some (record { line = 1; kind = index_range }))
    × ((script_fault (text_surface (with_bits 8)) (script (statement.Write status (calls (codes "f1") (codes "set_bit")))) ≡ Some (record { line = 1; kind = wrong_type }))
    × (script_fault (text_surface (with_bits 8)) (script (statement.Write status (calls_at (codes "f0") 0 (codes "clear_bit_by_one")))) ≡ Some (record { line = 1; kind = wrong_type }))))
unfolding fault_words
field_indexes = (refl, (refl, (refl, refl)))

-- `T.sr().write(|w| w.f1(8).set());`: the index stands before the method that isn't there.
pub index_before_method : script_fault (text_surface (with_bits 8)) (script (statement.Write status (calls_at (codes "f1") 8 (codes "set")))) ≡ Some (record { line = 1; kind = index_range })
unfolding fault_words
index_before_method = refl

-- `r` stands for what a `modify` reads that names it, and nowhere else.
pub reader_in_scope :
    (script_fault (text_surface example) copies_bit ≡ None)
    × (script_fault (text_surface example) (script (statement.Say (record { negations = 0; atom = atom.Source (source.Bits (codes "r")) }))) ≡ Some (record { line = 1; kind = no_such_name }))
unfolding fault_words
reader_in_scope = (refl, refl)

-- `T.sr().write(|w| w.f0().set_bit());`: the writer of `f0` has `clear_bit_by_one` alone.
pub no_set_bit : script_fault (text_surface example) (script (statement.Write status (calls (codes "f0") (codes "set_bit")))) ≡ Some (record { line = 1; kind = no_such_call })
unfolding fault_words
no_set_bit = refl

-- `T.sr(0).reset();`: the accessor takes no index.
pub index_too_many : script_fault (text_surface example) (script (statement.Reset (member (codes "T") (codes "sr") 0))) ≡ Some (record { line = 1; kind = wrong_type })
unfolding fault_words
index_too_many = refl

-- `let a = T.ch(4).read();`, of four
pub index_too_great : script_fault (text_surface channels) (script (statement.Let (codes "a") (member (codes "T") (codes "ch") 4))) ≡ Some (record { line = 1; kind = index_range })
unfolding fault_words
index_too_great = refl

-- `let a = T.sr().read();` on two lines
pub bound_twice :
    script_fault (text_surface example) (record { lines = record { line = 1; statement = statement.Let (codes "a") status } ∷ record { line = 2; statement = statement.Let (codes "a") status } ∷ [] })
    ≡ Some (record { line = 2; kind = rebound })
unfolding fault_words
bound_twice = refl

-- `T.sr().write(|w| w.bits(0x1_0000_0000));`
pub literal_too_great :
    script_fault (text_surface example) (script (statement.Write status (link.Bits (record { negations = 0; atom = atom.Number 0x1_0000_0000 }) ∷ [])))
    ≡ Some (record { line = 1; kind = literal_kind })
unfolding fault_words
literal_too_great = refl

-- `T.sr().write(|w| w.f1().set_bit(300));`: the method takes no value, which is told before what the value is.
pub value_too_many :
    script_fault (text_surface example) (script (statement.Write status (link.Field (plain_call (codes "f1")) (codes "set_bit") (Some (record { negations = 0; atom = atom.Number 300 })) ∷ [])))
    ≡ Some (record { line = 1; kind = wrong_type })
unfolding fault_words
value_too_many = refl

-- `X.sr().reset();`: no slot has the name.
pub no_slot : script_fault (text_surface example) (script (statement.Reset (place (codes "X") (codes "sr")))) ≡ Some (record { line = 1; kind = no_such_name })
unfolding fault_words
no_slot = refl

-- `T.cl(0).reset();` ends at a block, and `T.a().x().reset();` goes on past a register.
pub no_register :
    (script_fault (text_surface nested) (script (statement.Reset (member (codes "T") (codes "cl") 0))) ≡ Some (record { line = 1; kind = no_such_call }))
    × (script_fault (text_surface nested) (script (statement.Reset (record { slot = codes "T"; steps = record { name = codes "a"; index = None } ∷ record { name = codes "x"; index = None } ∷ [] })))
    ≡ Some (record { line = 1; kind = no_such_call }))
unfolding fault_words
no_register = (refl, refl)

-- `T.sr().write(|w| w.mode().bits(300));` passes the type u8; behind `!` a truth is wanted, so with `!300` the type is wrong.
pub number_behind_not :
    (script_fault (text_surface with_mode) (script (statement.Write status (link.Field (plain_call (codes "mode")) (codes "bits") (Some (record { negations = 0; atom = atom.Number 300 })) ∷ []))) ≡ Some (record { line = 1; kind = literal_kind }))
    × (script_fault (text_surface with_mode) (script (statement.Write status (link.Field (plain_call (codes "mode")) (codes "bits") (Some (record { negations = 1; atom = atom.Number 300 })) ∷ []))) ≡ Some (record { line = 1; kind = wrong_type }))
unfolding fault_words
number_behind_not = (refl, refl)

-- Each line of the script that says what it read fits.
pub said-fits :
    script_fault (text_surface with_mode) said_script
    ≡ None
unfolding fault_words
said-fits = refl
