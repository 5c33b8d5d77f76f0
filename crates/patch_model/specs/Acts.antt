-- The commands of a patch as plain data (svdtools' patch commands, narrowed).
use Rattle.std.specs.Prelude.{◌≡◌, ℕ, List, [], ◌∷◌, ◌++◌, map}
use Rattle.glob_select.specs.Items.{Item}
use Rattle.patch_model.specs.declared.act.Act.{Act}
use Rattle.patch_model.specs.declared.act.Act.TheVariants as variants
use Rattle.patch_model.specs.declared.act.Addition.{Addition}
use Rattle.patch_model.specs.declared.act.Additions.{Additions}
use Rattle.patch_model.specs.declared.act.Command.{Command}
use Rattle.patch_model.specs.declared.act.Addition.TheOpen.{Addition-F, Additions-F}
use Rattle.patch_model.specs.declared.act.Addition.TheFolds.{fold-Addition, fold-Additions}

abbrev pub KeyList : Type 0
KeyList = List (List ℕ × List ℕ)

abbrev pub PatternItems : Type 0
PatternItems = List (List Item)

-- elements that are added, each with its name, its keys, and the registers and fields within it
pub data Added : Type 0 where
  no_more : Added
  added : List ℕ → KeyList → Added → Added → Added → Added

pub data Deed : Type 0 where
  opens : PatternItems → Deed
  deletes : PatternItems → Deed
  copies : List ℕ → List ℕ → KeyList → Deed
  modifies : PatternItems → KeyList → Deed
  modifies_device : KeyList → Deed
  adds : List ℕ → KeyList → Added → Added → Deed
  strips : List ℕ → Deed
  arrays : PatternItems → List ℕ → Deed

-- a line, the patterns of the mappings round the command, and what it does
pub record Order : Type 0 where
  pub line : ℕ
  pub parents : List PatternItems
  pub deed : Deed

-- ---- what the declared types say

-- one element that is added
pub record AddedOne : Type 0 where
  pub name : List ℕ
  pub keys : KeyList
  pub registers : Added
  pub fields : Added

abbrev pub added_of : List AddedOne → Added
added_of [] = no_more
added_of (one ∷ others) = added one.name one.keys one.registers one.fields (added_of others)

abbrev pub addition_layer : Addition-F AddedOne (List AddedOne) → AddedOne
addition_layer element = record { name = element.name; keys = element.keys; registers = added_of element.registers; fields = added_of element.fields }

abbrev pub additions_layer : Additions-F AddedOne (List AddedOne) → List AddedOne
additions_layer element = element.items.items

unfoldable pub addition_under : Addition → AddedOne
addition_under = fold-Addition AddedOne (List AddedOne) addition_layer additions_layer

unfoldable pub additions_under : Additions → List AddedOne
additions_under = fold-Additions AddedOne (List AddedOne) addition_layer additions_layer

abbrev pub adds_one : AddedOne → Deed
adds_one one = adds one.name one.keys one.registers one.fields

abbrev pub deed_of : Act → Deed
deed_of (variants.Open pattern) = opens pattern
deed_of (variants.Delete pattern) = deletes pattern
deed_of (variants.Copy name from keys) = copies name from keys
deed_of (variants.Modify target keys) = modifies target keys
deed_of (variants.ModifyDevice keys) = modifies_device keys
deed_of (variants.Add addition) = adds_one (addition_under addition)
deed_of (variants.Strip prefix) = strips prefix
deed_of (variants.Array target name) = arrays target name

abbrev pub order_of : Command → Order
order_of command = record { line = command.line; parents = command.parents; deed = deed_of command.act }

-- the commands grow by these
abbrev pub GrowsBy : List Command → List Command → List Order → Type 0
GrowsBy old new orders = map order_of new ≡ map order_of old ++ orders
