-- What the commands of a patch hold beside what their types say, as block text that meets its demands spells them.
use Rattle.std.specs.Prelude.{◌≡◌, ℕ, List, Some, false, ⊤}
use Rattle.std.specs.List.{AllByRecursion}
use Rattle.std.specs.Str.{bytes_eq}
use Rattle.pac_base.specs.Names.{IsName}
use Rattle.patch_model.specs.Acts.{Added, Deed, KeyList, Order, added, adds, modifies, no_more}
use Rattle.patch_model.specs.Answers.{AreOrders}
use Rattle.patch_sem.specs.Modifying.{new_name}
use Rattle.yaml_block.specs.Answers.{IsBlock}
use Rattle.yaml_block.specs.Trees.{Tree}

-- none of them has the name
abbrev pub IsNew : List ℕ → Added → Type 0
IsNew name no_more = ⊤
IsNew name (added other keys registers fields others) = (bytes_eq name other ≡ false) × IsNew name others

-- elements that are added side by side have names of their own, at each level
unfoldable pub AreApart : Added → Type 0
AreApart no_more = ⊤
AreApart (added name keys registers fields others) = IsNew name others × AreApart registers × AreApart fields × AreApart others

-- where the keys have a new name, it is a name
abbrev pub IsNewName : KeyList → Type 0
IsNewName keys = (name : List ℕ) → new_name keys ≡ Some name → IsName name

abbrev pub IsReadyDeed : Deed → Type 0
IsReadyDeed (adds name keys registers fields) = AreApart registers × AreApart fields
IsReadyDeed (modifies pattern keys) = IsNewName keys
IsReadyDeed _ = ⊤

abbrev pub AreReady : List Order → Type 0
AreReady orders = AllByRecursion (λ order. IsReadyDeed order.deed) orders

-- the commands of a patch that block text spells are ready
abbrev pub SpelledAreReady : Type 0
SpelledAreReady = (bytes : List ℕ) (tree : Tree) (orders : List Order) → IsBlock bytes tree → AreOrders tree orders → AreReady orders
