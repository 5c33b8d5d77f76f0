-- The rows that a walk of a checked description meets fit.
use Rattle.std.proofs.Common.{ℕ, zero, suc, ◌+◌, ◌≤◌, List, [], ◌∷◌, map, flat_map, Option, Some, None, sym, ap, subst, ◌∙◌, arith, append-nil}
use Rattle.std.specs.List.{AllByRecursion, range_with_len}
use Rattle.reg_table.specs.Walk.{AllFit, FitIn, IsAmong, member_rows, path_inside, peripheral_path, rows_in, rows_of_peripherals}
use Rattle.reg_table.specs.declared.row.RowPath.{RowPath}
use Rattle.reg_table.proofs.Exchanges.{every-append}
use Rattle.reg_table.proofs.Faults.{checked-fits}
use Rattle.reg_table.proofs.Tables.{table-rows}
use Rattle.reg_table.proofs.Walks.{fit-cluster, fit-others, fit-peripheral, fit-register, rows-cluster, rows-first, rows-no_peripherals, rows-nothing, rows-peripheral, rows-register}
use Rattle.svd_model.specs.declared.device.Child.{Child, map-Child, roll-Child}
use Rattle.svd_model.specs.declared.device.Child.TheVariants.{rolls-Cluster, rolls-Register}
use Rattle.svd_model.specs.declared.device.Child.TheFolds.{ind-Item}
use Rattle.svd_model.specs.declared.device.Child.TheOpen.{Child-F, Cluster-F, Item-F}
use Rattle.svd_model.specs.declared.device.Child.TheOpen as opened
use Rattle.svd_model.specs.declared.device.Cluster.{Cluster, out-Cluster, out-roll-Cluster, roll-Cluster}
use Rattle.svd_model.specs.declared.device.Item.{Item, roll-Item}
use Rattle.svd_model.specs.declared.device.Peripheral.{Peripheral}
use Rattle.svd_model.specs.declared.device.Register.{Register}
use Rattle.svd_model.specs.declared.props.Props.{Props}
use Rattle.svd_model.specs.declared.sibling.Sibling.{Sibling}
use Rattle.svd_model.specs.Keys.{Key}
use Rattle.svd_model.specs.Properties.{holding}
use Rattle.svd_model.specs.Stating.{value_of, stated_dim, indexes_of}
use Rattle.svd_model.specs.Steps.{Kind, Step}
use Rattle.svd_model.specs.Trees.{child_tree, device_tree, item_under, peripheral_under, step_of, cluster_under, register_under}
use Rattle.svd_model.proofs.Stated.{cluster-dim, register-dim}
use Rattle.svd_model.proofs.Trees.{child_tree-cluster, child_tree-register, cluster_tree-is, item_under-roll}
use Rattle.svd_rows.specs.Forest.{Tree, siblings}
use Rattle.table_sem.specs.Laws.{CheckedRowsFit}
use Rattle.table_sem.specs.RowFacts.{RowFits}
use Rattle.table_sem.proofs.Rows.{register-fits}

-- the rows of an element and of all below it fit, wherever checking finds no fault in them
abbrev Fits : (Step × Tree Step Key) → Type 0
Fits element = (path : RowPath) (start : ℕ) (outer : Props) → FitIn start outer (siblings (element ∷ [])) → AllByRecursion RowFits (rows_in path start outer (siblings (element ∷ [])))

-- ---- members

among-from : (limit a n : ℕ) → a + n ≤ limit → AllByRecursion (IsAmong (Some limit)) (map Some (range_with_len a n))
among-from limit a zero fits = tt
among-from limit a (suc n) fits = (omega (arith, fits), among-from limit (a + 1) n (omega (arith, fits)))

all-among : (dim : Option ℕ) → AllByRecursion (IsAmong dim) (indexes_of dim)
all-among None = (tt, tt)
all-among (Some n) = among-from n 0 n (omega arith)

all-members : (x : Step × Tree Step Key) (path : RowPath) (start : ℕ) (outer : Props) → ((index : Option ℕ) → IsAmong (value_of stated_dim x.1.keys) index → AllByRecursion RowFits (member_rows path start outer x index)) → AllByRecursion RowFits (rows_in path start outer (siblings (x ∷ [])))
unfolding rows_in siblings
all-members x path start outer each = subst (AllByRecursion RowFits) (sym (append-nil _)) (over (indexes_of (value_of stated_dim x.1.keys)) (all-among (value_of stated_dim x.1.keys)))
  where
    over : (indexes : List (Option ℕ)) → AllByRecursion (IsAmong (value_of stated_dim x.1.keys)) indexes → AllByRecursion RowFits (flat_map (member_rows path start outer x) indexes)
    over [] all = tt
    over (index ∷ indexes) all = every-append RowFits (member_rows path start outer x index) (flat_map (member_rows path start outer x) indexes) (each index all.0) (over indexes all.1)

-- ---- registers

fits-register : (key : Sibling) (r : Register) → Fits (register_under key r)
fits-register key r path start outer fit = all-members (register_under key r) path start outer (λ index among.
    let is_among = subst (λ (dim : Option ℕ). IsAmong dim index) (register-dim r) among in
    subst (AllByRecursion RowFits) (sym (rows-register outer key r path start index))
    (register-fits start outer r index (path_inside path key.name index) (fit-register start outer key r index is_among fit), tt))

-- ---- clusters

-- items that fit, one after the other
fits-items : (items : List Item) → AllByRecursion (λ item. Fits (item_under item)) items → (path : RowPath) (start : ℕ) (outer : Props) → AllFit start outer items → AllByRecursion RowFits (rows_in path start outer (siblings (map item_under items)))
fits-items [] all path start outer fit = subst (AllByRecursion RowFits) (sym (rows-nothing path start outer)) tt
fits-items (item ∷ items) all path start outer fit =
    subst (AllByRecursion RowFits) (sym (rows-first path start outer (item_under item) (map item_under items)))
    (every-append RowFits (rows_in path start outer (siblings (item_under item ∷ []))) (rows_in path start outer (siblings (map item_under items)))
    (all.0 path start outer (fit zero item (omega arith)))
    (fits-items items all.1 path start outer (λ k d less. fit (suc k) d (omega (arith, less)))))

fits-cluster : (key : Sibling) (c : Cluster) → AllByRecursion (λ item. Fits (item_under item)) (out-Cluster c).children.items → Fits (cluster_under key c)
fits-cluster key c all path start outer fit = all-members (cluster_under key c) path start outer (λ index among.
    let count = ap (λ (tree : Tree Step Key). value_of stated_dim tree.keys) (cluster_tree-is c) ∙ cluster-dim (out-Cluster c) in
    let is_among = subst (λ (dim : Option ℕ). IsAmong dim index) count among in
    subst (AllByRecursion RowFits) (sym (rows-cluster outer key c path start index))
    (fits-items (out-Cluster c).children.items all _ _ _ (fit-cluster outer key c start index is_among fit).1))

-- ---- all items

abbrev ChildFits : Child → Type 0
ChildFits child = (key : Sibling) → Fits (step_of (child_tree child).0 key, (child_tree child).1)

abbrev ClusterFits : Cluster → Type 0
ClusterFits c = (key : Sibling) → Fits (cluster_under key c)

abbrev ItemFits : Item → Type 0
ItemFits item = Fits (item_under item)

-- a child with the proof that it fits
child-fits : (y : Child-F ((x : Child) × ChildFits x) ((x : Cluster) × ClusterFits x) ((x : Item) × ItemFits x)) → ChildFits (roll-Child (map-Child _ _ _ Child Cluster Item (λ e. e.0) (λ e. e.0) (λ e. e.0) y))
child-fits (opened.Cluster e) = subst ChildFits (sym (rolls-Cluster e.0)) (λ key. subst (λ (t : Kind × Tree Step Key). Fits (step_of t.0 key, t.1)) (sym (child_tree-cluster e.0)) (e.1 key))
child-fits (opened.Register r) = subst ChildFits (sym (rolls-Register r)) (λ key. subst (λ (t : Kind × Tree Step Key). Fits (step_of t.0 key, t.1)) (sym (child_tree-register r)) (fits-register key r))

firsts : (items : List ((item : Item) × ItemFits item)) → AllByRecursion ItemFits (map (λ e. e.0) items)
firsts [] = tt
firsts (e ∷ items) = (e.1, firsts items)

-- each item fits, with all below it
item-fits : (item : Item) → ItemFits item
item-fits = ind-Item ChildFits ClusterFits ItemFits
    (λ x y is. subst (λ (z : Child-F Child Cluster Item). ChildFits (roll-Child z)) is (child-fits y))
    (λ x y is key. fits-cluster key (roll-Cluster x) (subst (λ (z : Cluster-F Child Cluster Item). AllByRecursion ItemFits z.children.items) (is ∙ sym (out-roll-Cluster x)) (firsts y.children.items)))
    (λ x y is. subst (λ (z : Item-F Child Cluster Item). ItemFits (roll-Item z)) is (subst Fits (sym (item_under-roll (record { key = y.key; child = y.child.0 }))) (y.child.1 y.key)))

all-items : (items : List Item) → AllByRecursion ItemFits items
all-items [] = tt
all-items (item ∷ items) = (item-fits item, all-items items)

-- ---- a device

peripherals-fit : (outer : Props) (entries : List (Sibling × Peripheral)) → FitIn 0 outer (siblings (map peripheral_under entries)) → AllByRecursion RowFits (rows_of_peripherals outer (siblings (map peripheral_under entries)))
peripherals-fit outer [] fit = subst (AllByRecursion RowFits) (sym (rows-no_peripherals outer)) tt
peripherals-fit outer (entry ∷ entries) fit =
    subst (AllByRecursion RowFits) (sym (rows-peripheral outer entry.0 entry.1 (map peripheral_under entries)))
    (every-append RowFits (rows_in (peripheral_path entry.0.name) entry.1.base (holding (entry.1.props ∷ outer ∷ [])) (siblings (map item_under entry.1.children.items))) (rows_of_peripherals outer (siblings (map peripheral_under entries)))
    (fits-items entry.1.children.items (all-items entry.1.children.items) (peripheral_path entry.0.name) entry.1.base (holding (entry.1.props ∷ outer ∷ [])) (fit-peripheral outer entry.0 entry.1 (map peripheral_under entries) fit).1)
    (peripherals-fit outer entries (fit-others 0 outer (peripheral_under entry) (map peripheral_under entries) fit)))

pub checked_rows_fit : CheckedRowsFit
unfolding device_tree
checked_rows_fit device checked =
    subst (AllByRecursion RowFits) (sym (table-rows device checked.unfolded)) (peripherals-fit device.props device.peripherals.entries (checked-fits device checked))
