-- The slots and the blocks of peripherals, one by one.
use Rattle.std.proofs.Common.{◌≡◌, ℕ, zero, suc, List, [], ◌∷◌, ◌++◌, map, Option, Some, option_map, unwrap_or, refl, sym, ap, ◌∙◌, subst}
use Rattle.std.specs.List.{slice_get}
use Rattle.checked_tree.specs.Devices.{ArePeripherals}
use Rattle.checked_tree.proofs.Trees.{checked_trees}
use Rattle.frag_tree.specs.declared.krate.Slot.{Slot}
use Rattle.frag_tree.specs.declared.krate.Version.{Version}
use Rattle.frag_tree.specs.Trees.{BlockTree, CrateTree}
use Rattle.reg_table.specs.Walk.{FitIn}
use Rattle.reg_table.proofs.Faults.{checked-fits}
use Rattle.reg_table.proofs.Walks.{fit-others}
use Rattle.svd_model.specs.declared.device.Device.{Device}
use Rattle.svd_model.specs.declared.device.Peripheral.{Peripheral}
use Rattle.svd_model.specs.declared.props.Props.{Props}
use Rattle.svd_model.specs.declared.sibling.Sibling.{Sibling}
use Rattle.svd_model.specs.Facts.{IsChecked}
use Rattle.svd_model.specs.Keys.{Key}
use Rattle.svd_model.specs.Steps.{Step}
use Rattle.svd_model.specs.Trees.{device_rows, device_tree, peripheral_under}
use Rattle.svd_rows.specs.Forest.{Tree, siblings}
use Rattle.svd_rows.specs.Rows.{Row}
use Rattle.crate_form.specs.Crates.{blocks_of, crate_of, emitted, slot_of, slots_of}
use Rattle.crate_form.specs.Elements.{IsPeripheral, block_at}
use Rattle.crate_form.proofs.Forming.{emitted_by_tree}
use Rattle.crate_form.proofs.Standing.{peripheral-first}

pub map_push : {A B : Type 0} (f : A → B) (xs : List A) (x : A) → map f (xs ++ x ∷ []) ≡ map f xs ++ f x ∷ []
map_push f [] x = refl
map_push f (first ∷ xs) x = ap (λ made. f first ∷ made) (map_push f xs x)

pub slots-first : (x : Step × Tree Step Key) (xs : List (Step × Tree Step Key)) → slots_of (siblings (x ∷ xs)) ≡ slot_of x.0 x.1.keys ∷ slots_of (siblings xs)
unfolding slots_of siblings
slots-first x xs = refl

pub slots-none : slots_of (siblings []) ≡ []
unfolding slots_of siblings
slots-none = refl

module _ (outer : Props) where
  pub blocks-first : (x : Step × Tree Step Key) (xs : List (Step × Tree Step Key)) → blocks_of outer (siblings (x ∷ xs)) ≡ block_at outer x ∷ blocks_of outer (siblings xs)
  unfolding blocks_of siblings
  blocks-first x xs = refl

  pub blocks-none : blocks_of outer (siblings []) ≡ []
  unfolding blocks_of siblings
  blocks-none = refl

  pub peripherals-others : (x : Step × Tree Step Key) (xs : List (Step × Tree Step Key)) → ArePeripherals outer (siblings (x ∷ xs)) → ArePeripherals outer (siblings xs)
  unfolding ArePeripherals siblings
  peripherals-others x xs are = are.1

-- ---- those of a device

-- the slots of the crate that its rows ask for
pub slots-told : (device : Device) (all : List (Row Step Key)) → device_rows device ≡ all → (emitted all).slots ≡ slots_of (siblings (map peripheral_under device.peripherals.entries))
unfolding crate_of device_tree
slots-told device all rows = ap (λ (krate : CrateTree). krate.slots) (sym (ap emitted rows) ∙ emitted_by_tree device)

-- and the blocks
pub blocks-told : (device : Device) (all : List (Row Step Key)) → device_rows device ≡ all → (emitted all).blocks ≡ blocks_of device.props (siblings (map peripheral_under device.peripherals.entries))
unfolding crate_of device_tree
blocks-told device all rows = ap (λ (krate : CrateTree). krate.blocks) (sym (ap emitted rows) ∙ emitted_by_tree device)

-- with its version these are the crate
pub emitted-is : (all : List (Row Step Key)) (version : Version) (blocks : List BlockTree) (slots : List Slot) → version ≡ (emitted all).version → slots ≡ (emitted all).slots → blocks ≡ (emitted all).blocks
    → ◌≡◌ {A = CrateTree} (record { version = version; slots = slots; blocks = blocks }) (emitted all)
emitted-is all version blocks slots version_is slots_are blocks_are = λ i. record { version = version_is i; slots = slots_are i; blocks = blocks_are i }

-- a checked device's peripherals are checked
pub device-fits : (device : Device) → IsChecked device → FitIn 0 device.props (siblings (map peripheral_under device.peripherals.entries)) × ArePeripherals device.props (siblings (map peripheral_under device.peripherals.entries))
unfolding device_tree
device-fits device checked = (checked-fits device checked, (checked_trees device checked).each)

module _ (outer : Props) where
  -- the one of this number
  pub peripheral-at : (entries : List (Sibling × Peripheral)) (i : ℕ) (entry : Sibling × Peripheral) → slice_get entries i ≡ Some entry → FitIn 0 outer (siblings (map peripheral_under entries)) → ArePeripherals outer (siblings (map peripheral_under entries)) → IsPeripheral outer (peripheral_under entry)
  peripheral-at [] i entry is fit are = absurd cc
  peripheral-at (first ∷ entries) zero entry is fit are =
      subst (λ (entry : Sibling × Peripheral). IsPeripheral outer (peripheral_under entry)) (ap (λ (found : Option (Sibling × Peripheral)). unwrap_or found first) is) (peripheral-first outer (peripheral_under first) (map peripheral_under entries) fit are)
  peripheral-at (first ∷ entries) (suc i) entry is fit are =
      peripheral-at entries i entry is (fit-others 0 outer (peripheral_under first) (map peripheral_under entries) fit) (peripherals-others outer (peripheral_under first) (map peripheral_under entries) are)

  -- and its block
  pub block-at : (entries : List (Sibling × Peripheral)) (i : ℕ) → slice_get (blocks_of outer (siblings (map peripheral_under entries))) i ≡ option_map (λ entry. block_at outer (peripheral_under entry)) (slice_get entries i)
  unfolding blocks_of siblings
  block-at [] i = refl
  block-at (first ∷ entries) zero = refl
  block-at (first ∷ entries) (suc i) = block-at entries i
