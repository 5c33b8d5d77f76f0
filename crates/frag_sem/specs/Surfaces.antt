-- Surfaces: what a script may call, whatever it stands in (this project's own, after the register API that svd2rust documents).
use Rattle.std.specs.Prelude.{ℕ, Bool, List, Option}
use Rattle.pac_base.specs.declared.width.Width.{Width}

-- the type of a value: a number of this width, or a truth
pub data ValueType : Type 0 where
  number : Width → ValueType
  truth : ValueType

-- a call of a reader, and what it gives
pub record ReadCall : Type 0 where
  pub name : List ℕ
  pub gives : ValueType

-- a call of a writer, and what it takes, if anything
pub record WriteCall : Type 0 where
  pub name : List ℕ
  pub takes : Option ValueType

-- a field that can be read, by its call name, and how many members it has; none where it takes no index
pub record ReadField : Type 0 where
  pub name : List ℕ
  pub count : Option ℕ
  pub calls : List ReadCall

-- a field that can be written, by its call name, and how many members it has; none where it takes no index
pub record WriteField : Type 0 where
  pub name : List ℕ
  pub count : Option ℕ
  pub calls : List WriteCall

-- What a register offers: its width, the two directions, and its readable and its writable fields in order, each with its calls in order.
pub record RegisterCalls : Type 0 where
  pub width : Width
  pub readable : Bool
  pub writable : Bool
  pub readers : List ReadField
  pub writers : List WriteField

-- an accessor, and how many members it leads to; none where it takes no index
pub record Step : Type 0 where
  pub name : List ℕ
  pub count : Option ℕ

-- what stands at the end of accessors, seen from where they begin: a register, or none for a block
pub record Below : Type 0 where
  pub steps : List Step
  pub register : Option RegisterCalls

-- what stands at the end of a slot's accessors
pub record Entry : Type 0 where
  pub slot : List ℕ
  pub below : Below

-- the entries in order: a slot, and then each of its accessors with what lies below it
abbrev pub Surface : Type 0
Surface = List Entry
