-- The steps of a path down the tree of a description: a kind, a written name and a number.
use Rattle.std.specs.Prelude.{ℕ, Bool, ◌&&◌, nat_eq, List}
use Rattle.std.specs.Str.{bytes_eq}

-- the kinds of elements below a device (CMSIS-SVD 1.3; `set` is `enumeratedValues`, `value` is
-- `enumeratedValue`)
pub data Kind : Type 0 where
  peripheral : Kind
  cluster : Kind
  register : Kind
  field : Kind
  set : Kind
  value : Kind

-- a step: its number tells siblings of one name apart. It is 0, but for sets and values, where it is the
-- place in the field or set, and for names that come again after unfolding. A set without a name has the
-- empty one
pub record Step : Type 0 where
  pub kind : Kind
  pub name : List ℕ
  pub number : ℕ

abbrev pub kind_number : Kind → ℕ
kind_number peripheral = 0
kind_number cluster = 1
kind_number register = 2
kind_number field = 3
kind_number set = 4
kind_number value = 5

-- the two steps are of one kind
abbrev pub same_kind : Kind → Kind → Bool
same_kind one other = nat_eq (kind_number one) (kind_number other)

-- the two steps are equal
unfoldable pub same_step : Step → Step → Bool
same_step one other = same_kind one.kind other.kind && (bytes_eq one.name other.name && nat_eq one.number other.number)

-- The two steps have one key among their siblings: a name and a number. Registers and clusters of one parent
-- are siblings, so kinds don't tell them apart.
unfoldable pub same_key : Step → Step → Bool
same_key one other = bytes_eq one.name other.name && nat_eq one.number other.number
