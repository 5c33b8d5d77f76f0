-- The script of a sample: each register is modified once, by its field B. This project's own script language; a peripheral's slot is its name, and an accessor is a name in lower case.
use Rattle.std.specs.Prelude.{ℕ, ◌/◌, ◌%◌, List, ◌++◌, codes, decimal}
use Rattle.std.specs.List.{flat_map}
use Rattle.pac_sample.specs.Numbered.{between}

-- register j in a script: the slot of its peripheral, and its accessor
unfoldable pub register_place : ℕ → List ℕ
register_place j = codes "P" ++ (decimal (j / 64) ++ (codes ".r" ++ decimal (j % 64)))

-- the line for register j
unfoldable pub script_line : ℕ → List ℕ
script_line j = register_place j ++ codes "().modify(|_, w| w.b().bits(1));\n"

-- a line for each of so many registers
unfoldable pub sample_script : ℕ → List ℕ
sample_script count = flat_map script_line (between 0 count)
