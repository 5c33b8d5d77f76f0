-- The elements of a device are listed, and the first of them is the device.
use Rattle.std.proofs.Common.{◌≡◌, ◌⊎◌, inl, inr, ℕ, ◌+◌, ◌<◌, ◌≤◌, List, [], ◌∷◌, ◌++◌, map, length, Option, None, Some, refl, sym, ap, ap₂, ◌∙◌, subst, arith}
use Rattle.std.specs.Prelude.{Result, Ok, Err, IfOk}
use Rattle.std.proofs.lemmas.Bool.{cases_lt}
use Rattle.std.proofs.lemmas.List.{map-append, get_or_past}
use Rattle.derive_build.specs.declared.own.Own.{Own}
use Rattle.derive_build.specs.Nodes.{Node, own_node, nodes_in, nodes_of}
use Rattle.derive_from.specs.Names.{name_by, told_item, AreListed}
use Rattle.derive_order.specs.Faults.{IsFaultAt}
use Rattle.derive_order.specs.declared.fault.OrderFault.TheVariants.{Missing}
use Rattle.derive_sources.specs.declared.entry.Entry.{Entry}
use Rattle.derive_sources.specs.Entries.{plain}
use Rattle.derive_sources.specs.Numbers.{Item, Rows, AreNumbered, items_in, items_of, item_at, path_at, no_item}
use Rattle.derive_sources.proofs.Listed.{device-names}
use Rattle.derive_sources.proofs.Numbering.{numbered}
use Rattle.derive_sources.proofs.Seats.{Seat, as_many, seat, names_at}
use Rattle.derived_rows.specs.Sources.{source_names}
use Rattle.pac_base.specs.declared.path.Step.{Step as Written}
use Rattle.svd_model.specs.declared.device.Device.{Device}
use Rattle.svd_model.specs.Facts.{IsDescribed}
use Rattle.svd_model.specs.Keys.{Key}
use Rattle.svd_model.specs.Stating.{paths_of}
use Rattle.svd_model.specs.Steps.{Step, same_key, same_step}
use Rattle.svd_model.specs.Trees.{device_rows, device_tree}
use Rattle.svd_model.proofs.Steps.{same_step-finer}
use Rattle.svd_rows.specs.Forest.{Forest, Tree, leaf, node}
use Rattle.svd_rows.proofs.Facts.{IsDistinct-finer}
use Rattle.svd_rows.proofs.Lists.{map-map}

abbrev node_name : Node → List (List ℕ)
node_name one = name_by one.kind one.name

-- ---- both lists give the same names

names-in : (parent n : ℕ) (f : Forest Step Key) → map node_name (nodes_in f) ≡ map told_item (items_in parent n f)
unfolding nodes_in items_in
names-in parent n leaf = refl
names-in parent n (node s ks c g) =
    ap (λ r. name_by (Some s.kind) s.name ∷ r)
    (map-append node_name (nodes_in c) (nodes_in g)
    ∙ ap₂ (λ a b. a ++ b) (names-in n (n + 1) c) (names-in parent ((n + 1) + length (items_in n (n + 1) c)) g)
    ∙ sym (map-append told_item (items_in n (n + 1) c) (items_in parent ((n + 1) + length (items_in n (n + 1) c)) g)))

names-of : (tree : Tree Step Key) → map node_name (nodes_of tree) ≡ map told_item (items_of tree)
unfolding nodes_of items_of
names-of tree = ap (λ r. [] ∷ r) (names-in 0 1 tree.below)

pub all_numbered : (device : Device) → IsDescribed device → (entries : List Entry) → map plain entries ≡ items_of (device_tree device) → AreNumbered (device_rows device) (map plain entries)
all_numbered device fact entries are =
    subst (AreNumbered (device_rows device)) (sym are) (numbered (device_tree device) (IsDistinct-finer same_key same_step same_step-finer (device_tree device).below fact.distinct))

pub all_listed : (device : Device) → IsDescribed device → (entries : List Entry) (owns : List Own) → map plain entries ≡ items_of (device_tree device) → map own_node owns ≡ nodes_of (device_tree device) → AreListed (device_rows device) entries owns
all_listed device fact entries owns are known = record {
  numbered = all_numbered device fact entries are;
  named =
      sym (map-map node_name own_node owns)
      ∙ ap (map node_name) known
      ∙ names-of (device_tree device)
      ∙ ap (map told_item) (sym are);
}

-- ---- the names of a source that is missing

-- there is a device, which gives no names
top_names : (device : Device) → (item_at (items_of (device_tree device)) 0).names ≡ None
unfolding items_of device_tree
top_names device = device-names device

some_items : (tree : Tree Step Key) → 0 < length (items_of tree)
unfolding items_of
some_items tree = omega arith

module _ (all : Rows) (items : List Item) (known : AreNumbered all items) (some : 0 < length items) (top : (item_at items 0).names ≡ None) where
  top_path : (parent : Option ℕ) → Seat (paths_of all) 0 (path_at all 0) (item_at items 0) parent → path_at all 0 ≡ []
  top_path None h = h.0
  top_path (Some p) h = absurd (omega (arith, h.earlier))

  -- what has no number stands for the device
  pub names_of : (e : ℕ) → source_names all (path_at all e) ≡ (item_at items e).names
  names_of e = at (cases_lt e (length items))
    where
      at : (e < length items) ⊎ (length items ≤ e) → source_names all (path_at all e) ≡ (item_at items e).names
      at (inl inside) = sym (names_at all items known e inside)
      at (inr past) =
          ap (source_names all) (get_or_past (paths_of all) e [] (omega (arith, past, as_many all items known)) ∙ sym (top_path (item_at items 0).parent (seat all items known 0 some)))
          ∙ sym (names_at all items known 0 some) ∙ top ∙ sym (ap (λ (item : Item). item.names) (get_or_past items e no_item past))

-- the element of each number gives the names that the rows tell
pub given_names : (device : Device) → IsDescribed device → (entries : List Entry) → map plain entries ≡ items_of (device_tree device) → (e : ℕ) → source_names (device_rows device) (path_at (device_rows device) e) ≡ (item_at (map plain entries) e).names
given_names device fact entries are e =
    names_of (device_rows device) (map plain entries) (all_numbered device fact entries are)
    (subst (λ (items : List Item). 0 < length items) (sym are) (some_items (device_tree device)))
    (ap (λ (items : List Item). (item_at items 0).names) are ∙ top_names device) e

no_longer : (names : List Written) → Some names ≡ None → ⊥
no_longer names e = absurd cc

-- an element whose source is missing gives names of it
pub names_given : (device : Device) → IsDescribed device → (entries : List Entry) → map plain entries ≡ items_of (device_tree device) → (e : ℕ) → IsFaultAt (device_rows device) (Missing e) → (item_at (map plain entries) e).names ≡ None → ⊥
names_given device fact entries are e fault none = no_longer fault.0 (sym fault.1.1 ∙ given_names device fact entries are e ∙ none)

pub copied_given : {F : Type 0} (result : Result (List Written) F) (names : List Written) (told : Option (List Written)) → IfOk result (λ made. made ≡ names) → told ≡ Some names → IfOk result (λ made. told ≡ Some made)
copied_given (Ok made) names told is given = given ∙ ap Some (sym is)
copied_given (Err fault) names told is given = tt
