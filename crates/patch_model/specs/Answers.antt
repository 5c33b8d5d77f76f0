-- What a node is: its commands, or the first demand that it doesn't meet.
use Rattle.patch_form.specs.Unmet.{AllMet, IsFirstUnmet}
use Rattle.std.specs.Prelude.{◌≡◌, List}
use Rattle.yaml_block.specs.Trees.{Tree, nothing, scalar, list, mapping}
use Rattle.patch_model.specs.declared.fault.CommandFault.{CommandFault}
use Rattle.patch_model.specs.declared.fault.CommandFault.TheVariants as faults
use Rattle.patch_form.specs.declared.fault.FaultKind.TheVariants.{UnknownCommand, UnknownKey, BadValue, BadPattern}
use Rattle.patch_model.specs.Acts.{Order}
use Rattle.patch_form.specs.Mappings.{patch_demands}
use Rattle.patch_model.specs.Orders.{patch_orders}

-- a patch is a mapping, or nothing
abbrev pub IsPatch : Tree → Type 0
IsPatch nothing = Unit {0}
IsPatch (scalar text) = ⊥
IsPatch (list items) = ⊥
IsPatch (mapping named) = Unit {0}

-- the node meets all demands, and its commands are these
pub record AreOrders (tree : Tree) (orders : List Order) : Type 0 where
  pub met : AllMet (patch_demands tree)
  pub are : orders ≡ patch_orders tree

-- when each fault comes
abbrev pub IsRefused : Tree → CommandFault → Type 0
IsRefused tree (faults.UnknownCommand line) = IsFirstUnmet (patch_demands tree) line UnknownCommand
IsRefused tree (faults.UnknownKey line) = IsFirstUnmet (patch_demands tree) line UnknownKey
IsRefused tree (faults.BadValue line) = IsFirstUnmet (patch_demands tree) line BadValue
IsRefused tree (faults.BadPattern line) = IsFirstUnmet (patch_demands tree) line BadPattern
IsRefused tree faults.Memory = Unit {0}
