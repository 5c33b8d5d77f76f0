-- What an alternative of a pattern is made of.
use Rattle.std.specs.Prelude.{ℕ, List}
use Rattle.glob_select.specs.declared.member.Member.{Member}

-- a name byte, `[%s]`, `*`, `?`, or a class with its members
pub data Item : Type 0 where
  Exactly : ℕ → Item
  Mark : Item
  Star : Item
  AnyByte : Item
  OneOf : List Member → Item
