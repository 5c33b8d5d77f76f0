-- How many bytes an access takes.
use Rattle.std.specs.Prelude.{ℕ, ◌/◌}
use Rattle.pac_base.specs.declared.width.Width.{Width}
use Rattle.pac_base.specs.Widths.{bits_of}

-- a byte for eight bits
abbrev pub bytes_of : Width → ℕ
bytes_of width = bits_of width / 8
