-- The walk of a tree: which members it meets among siblings, and at registers and clusters.
use Rattle.std.proofs.Common.{◌≡◌, ℕ, ◌+◌, ◌*◌, false, cond, List, [], ◌∷◌, ◌++◌, map, Option, Some, None, is_some, unwrap_or, refl, sym, ap, ap₂, ◌∙◌, append-nil}
use Rattle.std.specs.List.{flat_map, range_with_len}
use Rattle.std.proofs.lemmas.List.Folds.{flat_map-map}
use Rattle.overlap_sweep.specs.Fields.{shared_fields}
use Rattle.overlap_sweep.specs.Walk.{member_spots, spot_of, spots_in, spots_of_peripherals, way_inside, peripheral_way}
use Rattle.overlap_sweep.specs.declared.spot.Way.{Way}
use Rattle.overlap_sweep.proofs.Stated.{register-alternate, register-group, cluster-alternate}
use Rattle.reg_table.specs.Walk.{index_at, props_inside}
use Rattle.reg_table.proofs.Walks.{fields-plain, register-start, cluster-start, peripheral-start, inside-register, inside-cluster, inside-peripheral}
use Rattle.svd_model.specs.declared.device.Cluster.{Cluster, out-Cluster}
use Rattle.svd_model.specs.declared.device.Peripheral.{Peripheral}
use Rattle.svd_model.specs.declared.device.Register.{Register}
use Rattle.svd_model.specs.declared.props.Props.{Props}
use Rattle.svd_model.specs.declared.sibling.Sibling.{Sibling}
use Rattle.svd_model.specs.Checking.{bytes_of, width_of}
use Rattle.svd_model.specs.Keys.{Key}
use Rattle.svd_model.specs.Properties.{holding, size_at}
use Rattle.svd_model.specs.Stating.{value_of, start_of, stated_dim, indexes_of, is_of}
use Rattle.svd_model.specs.Steps.{Step, cluster, register}
use Rattle.svd_model.specs.Trees.{item_under, register_tree, peripheral_under, register_places, cluster_places, step_of, register_under, cluster_under}
use Rattle.svd_model.proofs.Trees.{cluster_tree-is}
use Rattle.svd_rows.specs.Elements.{Every}
use Rattle.svd_rows.specs.Forest.{Forest, Tree, leaf, node, siblings}
use Rattle.svd_rows.specs.Ranks.{stated}
use Rattle.svd_rows.specs.Rows.{rows}

-- ---- among siblings

module _ (way : List Way) (start : ℕ) (outer : Props) where
  pub spots-nothing : spots_in way start outer (siblings []) ≡ []
  unfolding spots_in siblings
  spots-nothing = refl

  -- the first, and then the others
  pub spots-first : (x : Step × Tree Step Key) (xs : List (Step × Tree Step Key)) → spots_in way start outer (siblings (x ∷ xs)) ≡ spots_in way start outer (siblings (x ∷ [])) ++ spots_in way start outer (siblings xs)
  unfolding spots_in siblings
  spots-first x xs = ap (λ r. r ++ spots_in way start outer (siblings xs)) (sym (append-nil (flat_map (member_spots way start outer x) (indexes_of (value_of stated_dim x.1.keys)))))

  -- the members of an element one after the other
  pub spots-members : (x : Step × Tree Step Key) → spots_in way start outer (siblings (x ∷ [])) ≡ flat_map (λ number. member_spots way start outer x (index_at (value_of stated_dim x.1.keys) number)) (range_with_len 0 (unwrap_or (value_of stated_dim x.1.keys) 1))
  unfolding spots_in siblings
  spots-members x = append-nil _ ∙ by (value_of stated_dim x.1.keys)
    where
      by : (dim : Option ℕ) → flat_map (member_spots way start outer x) (indexes_of dim) ≡ flat_map (λ number. member_spots way start outer x (index_at dim number)) (range_with_len 0 (unwrap_or dim 1))
      by None = refl
      by (Some n) = flat_map-map (member_spots way start outer x) Some (range_with_len 0 n)

  -- so many members, where they are all
  pub all-members : (x : Step × Tree Step Key) (count : Option ℕ) (n : ℕ) → count ≡ value_of stated_dim x.1.keys → n ≡ unwrap_or count 1 → flat_map (λ number. member_spots way start outer x (index_at count number)) (range_with_len 0 n) ≡ spots_in way start outer (siblings (x ∷ []))
  all-members x count n is all =
      ap₂ (λ dim m. flat_map (λ number. member_spots way start outer x (index_at dim number)) (range_with_len 0 m)) is (all ∙ ap (λ dim. unwrap_or dim 1) is) ∙ sym (spots-members x)

-- ---- where there are no registers

no_registers : (way : List Way) (start : ℕ) (outer : Props) (g : Forest Step Key) → Every (λ step keys. is_of register step ≡ false) g → spots_in way start outer g ≡ []
unfolding spots_in Every
no_registers way start outer leaf none = refl
no_registers way start outer (node s ks c n) none =
    ap₂ (λ here others. here ++ others) (nothing _ (λ index.
    ap₂ (λ b r. cond b (spot_of (way_inside way s ks index) s.name (start + start_of ks index) (props_inside ks outer) ks (rows (record { keys = ks; below = c })) ∷ []) [] ++ r) none.0
    (no_registers (way_inside way s ks index) (start + start_of ks index) (props_inside ks outer) c none.1)) (indexes_of (value_of stated_dim ks))) (no_registers way start outer n none.2)
  where
    nothing : {X Y : Type 0} (f : X → List Y) → ((x : X) → f x ≡ []) → (xs : List X) → flat_map f xs ≡ []
    nothing f none [] = refl
    nothing f none (x ∷ xs) = ap₂ (λ a b. a ++ b) (none x) (nothing f none xs)

-- ---- a register

module _ (outer : Props) (key : Sibling) (r : Register) where
  pub spots-register : (way : List Way) (start : ℕ) (index : Option ℕ) → member_spots way start outer (register_under key r) index ≡ record { way = way ++ record { name = key.name; number = key.number; index = index; alternate = false } ∷ []; name = key.name; start = start + (r.offset + unwrap_or index 0 * unwrap_or r.dim.step 0); bytes = bytes_of (width_of (size_at (holding (r.props ∷ outer ∷ [])))); alternate = r.alternate; grouped = is_some r.group; shared = shared_fields (holding (r.props ∷ outer ∷ [])) (rows (register_tree r)) } ∷ []
  unfolding spot_of
  spots-register way start index =
      ap₂ (λ spot others. spot ∷ others)
      (λ i. record {
        way = way ++ record { name = key.name; number = key.number; index = index; alternate = false } ∷ [];
        name = key.name;
        start = start + register-start r index i;
        bytes = bytes_of (width_of (size_at (inside-register outer key r i)));
        alternate = register-alternate r i;
        grouped = is_some (register-group r i);
        shared = shared_fields (inside-register outer key r i) (rows (register_tree r));
      })
      (no_registers (way_inside way (step_of register key) (stated (register_places r)) index) (start + start_of (stated (register_places r)) index) (props_inside (stated (register_places r)) outer) (register_tree r).below (fields-plain r.fields.entries))

-- ---- a cluster

module _ (outer : Props) (key : Sibling) (c : Cluster) where
  cluster_of : Tree Step Key
  cluster_of = record { keys = stated (cluster_places (out-Cluster c)); below = siblings (map item_under (out-Cluster c).children.items) }

  pub spots-cluster : (way : List Way) (start : ℕ) (index : Option ℕ) → member_spots way start outer (cluster_under key c) index ≡ spots_in (way ++ record { name = key.name; number = key.number; index = index; alternate = is_some (out-Cluster c).alternate } ∷ []) (start + ((out-Cluster c).offset + unwrap_or index 0 * unwrap_or (out-Cluster c).dim.step 0)) (holding ((out-Cluster c).props ∷ outer ∷ [])) (siblings (map item_under (out-Cluster c).children.items))
  unfolding cluster_of
  spots-cluster way start index =
      ap (λ (tree : Tree Step Key). member_spots way start outer (step_of cluster key, tree) index) (cluster_tree-is c)
      ∙ (λ i. spots_in (way ++ record { name = key.name; number = key.number; index = index; alternate = is_some (cluster-alternate (out-Cluster c) i) } ∷ []) (start + cluster-start (out-Cluster c) index i) (inside-cluster outer key c i) cluster_of.below)

-- ---- a peripheral

module _ (outer : Props) (key : Sibling) (p : Peripheral) (xs : List (Step × Tree Step Key)) where
  pub spots-peripheral : spots_of_peripherals outer (siblings (peripheral_under (key, p) ∷ xs)) ≡ spots_in (peripheral_way (peripheral_under (key, p)).0 (peripheral_under (key, p)).1.keys) p.base (holding (p.props ∷ outer ∷ [])) (siblings (map item_under p.children.items)) ++ spots_of_peripherals outer (siblings xs)
  unfolding spots_of_peripherals siblings
  spots-peripheral =
      ap₂ (λ at props. spots_in (peripheral_way (peripheral_under (key, p)).0 (peripheral_under (key, p)).1.keys) at props (siblings (map item_under p.children.items)) ++ spots_of_peripherals outer (siblings xs)) (peripheral-start p) (inside-peripheral outer key p xs)

pub spots-no_peripherals : (outer : Props) → spots_of_peripherals outer (siblings []) ≡ []
unfolding spots_of_peripherals siblings
spots-no_peripherals outer = refl
