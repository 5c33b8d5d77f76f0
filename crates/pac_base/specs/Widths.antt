-- The widths of register accesses (svd2rust: a register is read and written as u8, u16, u32 or u64).
use Rattle.std.specs.Prelude.{ℕ, ◌≤◌}
use Rattle.pac_base.specs.declared.width.Width.{Width}
use Rattle.pac_base.specs.declared.width.Width.TheVariants.{W8, W16, W32, W64}

-- how many bits a width has
abbrev pub bits_of : Width → ℕ
bits_of W8 = 8
bits_of W16 = 16
bits_of W32 = 32
bits_of W64 = 64

-- the width holds that many bits, and no narrower one does
pub record IsLeastWidth (size : ℕ) (width : Width) : Type 0 where
  pub holds : size ≤ bits_of width
  pub least : (other : Width) → size ≤ bits_of other → bits_of width ≤ bits_of other
