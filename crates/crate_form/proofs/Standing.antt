-- Registers and clusters that stand in a block: each by itself, and those inside a cluster and a peripheral.
use Rattle.std.proofs.Common.{◌≡◌, ℕ, zero, suc, ◌+◌, ◌*◌, ◌<◌, ◌≤◌, ◌^◌, List, [], ◌∷◌, map, Option, None, unwrap_or, sym, ap, ◌∙◌, subst, arith, lit≤, zero-add}
use Rattle.checked_tree.specs.Blocks.{AreInBlock, IsChild}
use Rattle.checked_tree.specs.Devices.{ArePeripherals}
use Rattle.checked_tree.specs.Places.{ArePlaced}
use Rattle.checked_tree.specs.Registers.{RegisterIsChecked}
use Rattle.pac_base.specs.declared.width.Width.{Width}
use Rattle.pac_base.specs.declared.width.Width.TheVariants.{W8, W16, W32, W64}
use Rattle.reg_table.specs.Walk.{FitIn, props_inside}
use Rattle.reg_table.proofs.Walks.{RegisterFits, fit-register}
use Rattle.svd_model.specs.declared.device.Cluster.{Cluster, out-Cluster}
use Rattle.svd_model.specs.declared.device.Item.{Item}
use Rattle.svd_model.specs.declared.device.Peripheral.{Peripheral}
use Rattle.svd_model.specs.declared.device.Register.{Register}
use Rattle.svd_model.specs.declared.props.Props.{Props}
use Rattle.svd_model.specs.declared.sibling.Sibling.{Sibling}
use Rattle.svd_model.specs.Checking.{bytes_of, width_of}
use Rattle.svd_model.specs.Keys.{Key}
use Rattle.svd_model.specs.Properties.{holding, register_properties, size_at}
use Rattle.svd_model.specs.Stating.{start_of, stated_increment, value_of}
use Rattle.svd_model.specs.Steps.{Step, cluster}
use Rattle.svd_model.specs.Trees.{cluster_places, item_under, peripheral_places, peripheral_under, register_places, register_tree, step_of, cluster_under, register_under}
use Rattle.svd_model.proofs.Stated.{cluster-base, cluster-offset, cluster-props, peripheral-base, peripheral-props, register-props}
use Rattle.svd_model.proofs.Trees.{cluster_tree-is}
use Rattle.svd_rows.specs.Forest.{Forest, Tree, siblings}
use Rattle.svd_rows.specs.Ranks.{stated}
use Rattle.crate_form.specs.Elements.{AllStand, IsPeripheral, Stand, StandsAlone}

-- ---- one of several

first : (outer : Props) (x : Step × Tree Step Key) (xs : List (Step × Tree Step Key)) → Stand outer (siblings (x ∷ xs)) → StandsAlone outer x
unfolding FitIn AreInBlock ArePlaced siblings
first outer x xs stand = record { start = stand.start; fit = (stand.fit.0, tt); inside = (stand.inside.0, stand.inside.1, tt); placed = (stand.placed.0, tt) }

others : (outer : Props) (x : Step × Tree Step Key) (xs : List (Step × Tree Step Key)) → Stand outer (siblings (x ∷ xs)) → Stand outer (siblings xs)
unfolding FitIn AreInBlock ArePlaced siblings
others outer x xs stand = record { start = stand.start; fit = stand.fit.1; inside = stand.inside.2; placed = stand.placed.1 }

pub stand-each : (outer : Props) (items : List Item) → Stand outer (siblings (map item_under items)) → AllStand outer items
stand-each outer [] stand k d less = absurd (omega (arith, less))
stand-each outer (item ∷ items) stand zero d less = first outer (item_under item) (map item_under items) stand
stand-each outer (item ∷ items) stand (suc k) d less = stand-each outer items (others outer (item_under item) (map item_under items) stand) k d (omega (arith, less))

-- ---- what is told of one

pub stands_as : (outer : Props) (x : Step × Tree Step Key) → StandsAlone outer x → IsChild x.0 x.1.keys
unfolding AreInBlock siblings
stands_as outer x stand = stand.inside.0

-- ---- a cluster

module _ (outer : Props) (key : Sibling) (c : Cluster) where
  abbrev keys : List Key
  keys = stated (cluster_places (out-Cluster c))

  abbrev below : Forest Step Key
  below = siblings (map item_under (out-Cluster c).children.items)

  pub props-cluster : props_inside (stated (cluster_places (out-Cluster c))) outer ≡ holding ((out-Cluster c).props ∷ outer ∷ [])
  props-cluster = ap (λ p. holding (p ∷ outer ∷ [])) (cluster-props (out-Cluster c))

  pub tree-cluster : cluster_under key c ≡ (step_of cluster key, record { keys = stated (cluster_places (out-Cluster c)); below = siblings (map item_under (out-Cluster c).children.items) })
  tree-cluster = ap (λ (tree : Tree Step Key). (step_of cluster key, tree)) (cluster_tree-is c)

  inside-here : StandsAlone outer (step_of cluster key, record { keys = keys; below = below }) → Stand (props_inside keys outer) below
  unfolding FitIn AreInBlock ArePlaced siblings
  inside-here stand = record { start = stand.start + start_of keys None; fit = (stand.fit.0 None tt).1; inside = stand.inside.1.1; placed = (stand.placed.0 None tt).1 }

  -- what is inside it stands there
  pub stand-cluster : StandsAlone outer (cluster_under key c) → Stand (holding ((out-Cluster c).props ∷ outer ∷ [])) (siblings (map item_under (out-Cluster c).children.items))
  stand-cluster stand = subst (λ (p : Props). Stand p below) props-cluster (inside-here (subst (StandsAlone outer) tree-cluster stand))

  offset-here : StandsAlone outer (step_of cluster key, record { keys = keys; below = below }) → start_of keys None < 2 ^ 64
  unfolding FitIn AreInBlock ArePlaced siblings
  offset-here stand = let at = (stand.placed.0 None tt).0 in omega (arith, at)

  -- it begins at an address
  pub offset-cluster : StandsAlone outer (cluster_under key c) → (out-Cluster c).offset < 2 ^ 64
  offset-cluster stand =
      let begins : start_of keys None ≡ 0 + (out-Cluster c).offset + 0 * unwrap_or (value_of stated_increment keys) 0 = λ i. unwrap_or (cluster-base (out-Cluster c) i) 0 + unwrap_or (cluster-offset (out-Cluster c) i) 0 + 0 * unwrap_or (value_of stated_increment keys) 0 in
      let at = offset-here (subst (StandsAlone outer) tree-cluster stand) in
      omega (arith, begins, at)

-- ---- a register

some_bytes : (width : Width) → 1 ≤ bytes_of width
some_bytes W8 = lit≤ tt
some_bytes W16 = lit≤ tt
some_bytes W32 = lit≤ tt
some_bytes W64 = lit≤ tt

module _ (outer : Props) (key : Sibling) (r : Register) where
  pub props-register : props_inside (stated (register_places r)) outer ≡ register_properties r outer
  props-register = ap (λ p. holding (p ∷ outer ∷ [])) (register-props r)

  -- it fits where it stands
  pub fits-register : (stand : StandsAlone outer (register_under key r)) → RegisterFits stand.start outer r None
  fits-register stand = fit-register stand.start outer key r None tt stand.fit

  pub offset-register : StandsAlone outer (register_under key r) → r.offset < 2 ^ 64
  offset-register stand =
      let ends = (fits-register stand).ends in
      let some = some_bytes (width_of (size_at (register_properties r outer))) in
      omega (arith, ends, some)

  -- it is checked
  pub checked-register : StandsAlone outer (register_under key r) → RegisterIsChecked (props_inside (stated (register_places r)) outer) (stated (register_places r)) (register_tree r).below
  unfolding AreInBlock siblings
  checked-register stand = stand.inside.1

-- ---- a peripheral

module _ (outer : Props) (key : Sibling) (p : Peripheral) where
  pub props-peripheral : props_inside (stated (peripheral_places p)) outer ≡ holding (p.props ∷ outer ∷ [])
  props-peripheral = ap (λ q. holding (q ∷ outer ∷ [])) (peripheral-props p)

  inside-peripheral : IsPeripheral outer (peripheral_under (key, p)) → Stand (props_inside (stated (peripheral_places p)) outer) (siblings (map item_under p.children.items))
  unfolding FitIn siblings
  inside-peripheral is = record {
    start = 0 + start_of (stated (peripheral_places p)) None;
    fit = (is.fit.0 None tt).1;
    inside = is.checked.inside;
    placed = subst (λ (n : ℕ). ArePlaced n (props_inside (stated (peripheral_places p)) outer) (siblings (map item_under p.children.items))) (sym (zero-add (start_of (stated (peripheral_places p)) None) ∙ is.checked.starts)) is.checked.placed;
  }

  pub stand-peripheral : IsPeripheral outer (peripheral_under (key, p)) → Stand (holding (p.props ∷ outer ∷ [])) (siblings (map item_under p.children.items))
  stand-peripheral is = subst (λ (q : Props). Stand q (siblings (map item_under p.children.items))) props-peripheral (inside-peripheral is)

  -- its base is an address
  pub base-peripheral : IsPeripheral outer (peripheral_under (key, p)) → p.base < 2 ^ 64
  base-peripheral is = subst (λ (n : ℕ). n < 2 ^ 64) (ap (λ (base : Option ℕ). unwrap_or base 0) (peripheral-base p)) is.checked.base

-- each of them
pub peripheral-first : (outer : Props) (x : Step × Tree Step Key) (xs : List (Step × Tree Step Key)) → FitIn 0 outer (siblings (x ∷ xs)) → ArePeripherals outer (siblings (x ∷ xs)) → IsPeripheral outer x
unfolding FitIn ArePeripherals siblings
peripheral-first outer x xs fit are = record { checked = are.0; fit = (fit.0, tt) }
