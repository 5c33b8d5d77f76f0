-- The description that `sample` makes: register j of so many, each with two fields. This project's own rule; the elements are those of CMSIS-SVD 1.3.
use Rattle.std.specs.Prelude.{ℕ, ◌+◌, ◌*◌, ◌%◌, ◌^◌, ◌==◌, List, [], ◌++◌, codes, decimal, if◌then◌else◌}
use Rattle.std.specs.List.{flat_map}
use Rattle.pac_sample.specs.Elements.{element}
use Rattle.pac_sample.specs.Numbered.{peripherals_of, registers_of}

-- ---- elements, each by its name, its numbers, and what stands in it behind them

abbrev pub device_text : List ℕ → List ℕ
device_text inside = codes "<device><name>D</name><peripherals>" ++ (inside ++ codes "</peripherals></device>")

abbrev pub peripheral_text : List ℕ → ℕ → List ℕ → List ℕ
peripheral_text name base inside =
    element (codes "peripheral") (element (codes "name") name ++ (element (codes "baseAddress") (decimal base) ++ element (codes "registers") inside))

abbrev pub register_text : List ℕ → ℕ → List ℕ → List ℕ
register_text name offset inside =
    element (codes "register") (element (codes "name") name ++ (element (codes "addressOffset") (decimal offset) ++ inside))

-- the name of a field, its first bit, and its width in bits
unfoldable pub field_place : List ℕ → ℕ → ℕ → List ℕ
field_place name offset width = element (codes "name") name ++ (element (codes "bitOffset") (decimal offset) ++ element (codes "bitWidth") (decimal width))

abbrev pub field_text : List ℕ → ℕ → ℕ → List ℕ → List ℕ
field_text name offset width inside = element (codes "field") (field_place name offset width ++ inside)

-- ---- the sample

-- what a write does to field A of register j
abbrev pub kind_of : ℕ → List ℕ
kind_of j = if j % 3 == 0 then codes "modify" else (if j % 3 == 1 then codes "oneToClear" else codes "zeroToSet")

unfoldable pub field_a : ℕ → List ℕ
field_a j = field_text (codes "A") 0 8 (element (codes "modifiedWriteValues") (kind_of j))

unfoldable pub field_b : ℕ → List ℕ
field_b j = field_text (codes "B") 8 (2 + j % 7) []

-- the reset value of register j
abbrev pub reset_value : ℕ → ℕ → ℕ
reset_value number j = (number + 40503 * j) % 2 ^ 32

-- what a register holds behind its offset
unfoldable pub register_state : ℕ → ℕ → List ℕ
register_state reset j =
    element (codes "size") (decimal 32) ++ (element (codes "resetValue") (decimal reset) ++ element (codes "fields") (field_a j ++ field_b j))

-- register j, at its place in its peripheral
unfoldable pub sample_register : ℕ → ℕ → List ℕ
sample_register number j = register_text (codes "R" ++ decimal (j % 64)) (4 * (j % 64)) (register_state (reset_value number j) j)

-- peripheral p, with its registers
unfoldable pub sample_peripheral : ℕ → ℕ → ℕ → List ℕ
sample_peripheral number count p = peripheral_text (codes "P" ++ decimal p) (0x40000000 + 0x400 * p) (flat_map (sample_register number) (registers_of count p))

-- the description of so many registers
unfoldable pub sample_text : ℕ → ℕ → List ℕ
sample_text number count = device_text (flat_map (sample_peripheral number count) (peripherals_of count))
