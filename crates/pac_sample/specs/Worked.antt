-- Worked samples, by computation.
use Rattle.std.specs.Prelude.{ℕ, ◌≡◌, List, [], ◌∷◌, ◌++◌, codes, refl}
use Rattle.std.specs.Fmt.{digits}
use Rattle.frag_tree.specs.declared.event.Event.{Event}
use Rattle.frag_tree.specs.declared.event.Event.TheVariants.{Read, Write, Say}
use Rattle.frag_tree.specs.declared.event.Said.TheVariants.{Number}
use Rattle.pac_base.specs.declared.width.Width.TheVariants.{W32, W64}
use Rattle.pac_sample.specs.Description.{field_a, field_b, field_place, register_state, reset_value, sample_peripheral, sample_register, sample_text}
use Rattle.pac_sample.specs.Elements.{end_tag, start_tag}
use Rattle.pac_sample.specs.Numbered.{peripherals_of, registers_of}
use Rattle.pac_sample.specs.Script.{register_place, sample_script, script_line}
use Rattle.pac_sample.specs.Summary.{summary, summary_line}

-- one register
pub one_register :
    sample_text 0 1
    ≡ codes "<device><name>D</name><peripherals><peripheral><name>P0</name><baseAddress>1073741824</baseAddress><registers>"
    ++ (codes "<register><name>R0</name><addressOffset>0</addressOffset><size>32</size><resetValue>0</resetValue><fields>"
    ++ (codes "<field><name>A</name><bitOffset>0</bitOffset><bitWidth>8</bitWidth><modifiedWriteValues>modify</modifiedWriteValues></field>"
    ++ (codes "<field><name>B</name><bitOffset>8</bitOffset><bitWidth>2</bitWidth></field>"
    ++ codes "</fields></register></registers></peripheral></peripherals></device>")))
unfolding digits field_a field_b field_place register_state sample_peripheral sample_register sample_text end_tag start_tag
one_register = refl

-- the second register of two
pub second_register :
    sample_register 5 1
    ≡ codes "<register><name>R1</name><addressOffset>4</addressOffset><size>32</size><resetValue>40508</resetValue><fields>"
    ++ (codes "<field><name>A</name><bitOffset>0</bitOffset><bitWidth>8</bitWidth><modifiedWriteValues>oneToClear</modifiedWriteValues></field>"
    ++ (codes "<field><name>B</name><bitOffset>8</bitOffset><bitWidth>3</bitWidth></field>"
    ++ codes "</fields></register>"))
unfolding digits field_a field_b field_place register_state sample_register end_tag start_tag
second_register = refl

-- the third register of three
pub third_register :
    sample_register 0 2
    ≡ codes "<register><name>R2</name><addressOffset>8</addressOffset><size>32</size><resetValue>81006</resetValue><fields>"
    ++ (codes "<field><name>A</name><bitOffset>0</bitOffset><bitWidth>8</bitWidth><modifiedWriteValues>zeroToSet</modifiedWriteValues></field>"
    ++ (codes "<field><name>B</name><bitOffset>8</bitOffset><bitWidth>4</bitWidth></field>"
    ++ codes "</fields></register>"))
unfolding digits field_a field_b field_place register_state sample_register end_tag start_tag
third_register = refl

-- a reset value passes 2^32
pub reset_begins_again : reset_value 0xffffffffffffffff 1 ≡ 40502
reset_begins_again = refl

-- the script of one register, and the line of the first register in the second peripheral
pub one_line : sample_script 1 ≡ codes "P0.r0().modify(|_, w| w.b().bits(1));\n"
unfolding digits register_place sample_script script_line
one_line = refl

pub next_peripheral : script_line 64 ≡ codes "P1.r0().modify(|_, w| w.b().bits(1));\n"
unfolding digits register_place script_line
next_peripheral = refl

-- which registers stand in which of two peripherals
pub full_peripheral : peripherals_of 64 ≡ 0 ∷ []
full_peripheral = refl

pub two_peripherals : peripherals_of 65 ≡ 0 ∷ 1 ∷ []
two_peripherals = refl

pub last_register : registers_of 65 1 ≡ 64 ∷ []
last_register = refl

-- ---- summaries

-- a register is read, and what it is modified to is written
abbrev modified : ℕ → ℕ → ℕ → List Event → List Event
modified address read written events = Read address W32 read ∷ Write address W32 written ∷ events

-- `sample 5 2`
pub two_registers :
    summary 2 (modified 0x40000000 5 0x105 (modified 0x40000004 40508 0x9900 []))
    ≡ codes "registers 2\nreads 2\nwrites 2\nsum 39429\n"
unfolding digits summary summary_line
two_registers = refl

-- `sample 0 3`
pub three_registers :
    summary 3 (modified 0x40000000 0 0x100 (modified 0x40000004 40503 0x9900 (modified 0x40000008 81006 0x131ff [])))
    ≡ codes "registers 3\nreads 3\nwrites 3\nsum 117759\n"
unfolding digits summary summary_line
three_registers = refl

-- the sum begins again at 2^64, and what is said is no access
pub sum_begins_again :
    summary 1 (Write 0 W64 0xffffffffffffffff ∷ Say (Number 7) ∷ Write 8 W64 3 ∷ [])
    ≡ codes "registers 1\nreads 0\nwrites 2\nsum 2\n"
unfolding digits summary summary_line
sum_begins_again = refl
