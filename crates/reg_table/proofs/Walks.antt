-- The walk of a tree: what it meets among siblings, and at registers and clusters.
use Rattle.std.proofs.Common.{◌≡◌, ℕ, zero, suc, ◌+◌, ◌*◌, ◌<◌, ◌≤◌, ◌^◌, true, false, cond, List, [], ◌∷◌, ◌++◌, map, Option, Some, None, unwrap_or, refl, sym, ap, ap₂, ◌∙◌, subst, arith, zero-add, append-nil}
use Rattle.std.specs.List.{AllByRecursion, flat_map, range_with_len}
use Rattle.std.proofs.lemmas.List.{flat_map_more}
use Rattle.std.proofs.lemmas.List.Folds.{flat_map-map}
use Rattle.pac_base.specs.Widths.{bits_of}
use Rattle.reg_table.specs.Calls.{AreNamed, SetsAreNamed}
use Rattle.reg_table.specs.Fields.{FieldFits, bit_at}
use Rattle.reg_table.specs.Members.{IsIndexOf}
use Rattle.reg_table.specs.Registers.{register_row}
use Rattle.reg_table.specs.Walk.{AllFit, FitIn, IsAmong, index_at, member_rows, rows_in, rows_of_peripherals, props_inside, path_inside, peripheral_path}
use Rattle.reg_table.specs.declared.row.RowPath.{RowPath}
use Rattle.reg_table.proofs.FieldMembers.{field-dim, field-increment, first-within, index-within, some-bit}
use Rattle.svd_model.specs.declared.device.Child.TheOpen.{Cluster-F}
use Rattle.svd_model.specs.declared.device.Child.TheVariants.{Cluster as AsCluster, Register as AsRegister}
use Rattle.svd_model.specs.declared.device.Cluster.{Cluster, out-Cluster}
use Rattle.svd_model.specs.declared.device.Field.{Field}
use Rattle.svd_model.specs.declared.device.Item.{Item}
use Rattle.svd_model.specs.declared.device.Peripheral.{Peripheral}
use Rattle.svd_model.specs.declared.device.Register.{Register}
use Rattle.svd_model.specs.declared.device.Values.{Values}
use Rattle.svd_model.specs.declared.device.Variant.{Variant}
use Rattle.svd_model.specs.declared.props.Props.{Props}
use Rattle.svd_model.specs.declared.sibling.Sibling.{Sibling}
use Rattle.svd_model.specs.Checking.{bit_of, width_of, bytes_of, is_size, is_field_within}
use Rattle.svd_model.specs.Keys.{Key}
use Rattle.svd_model.specs.Properties.{nearest, holding, size_at}
use Rattle.svd_model.specs.Stating.{value_of, start_of, stated_base, stated_offset, stated_increment, stated_dim, stated_width, indexes_of, is_of}
use Rattle.svd_model.specs.Steps.{Step, set, value, cluster, register, same_step}
use Rattle.svd_model.specs.Trees.{item_under, child_tree, field_under, register_tree, peripheral_under, register_places, cluster_places, peripheral_places, field_places, step_of, set_tree, value_tree, numbered, register_under, cluster_under}
use Rattle.svd_model.proofs.Stated.{register-props, cluster-props, peripheral-props, register-base, register-offset, cluster-base, cluster-offset, register-dim, register-increment, cluster-dim, cluster-increment, peripheral-base, peripheral-offset, field-offset, field-width, field-size}
use Rattle.svd_model.proofs.Trees.{child_tree-cluster, child_tree-register, cluster_tree-is, item_under-is}
use Rattle.svd_rows.specs.Elements.{IsDistinct, Every}
use Rattle.svd_rows.specs.Forest.{Forest, Tree, leaf, node, siblings}
use Rattle.svd_rows.specs.Ranks.{stated}
use Rattle.svd_rows.specs.Rows.{rows}

-- ---- among siblings

module _ (path : RowPath) (start : ℕ) (outer : Props) where
  pub rows-nothing : rows_in path start outer (siblings []) ≡ []
  unfolding rows_in siblings
  rows-nothing = refl

  -- the first, and then the others
  pub rows-first : (x : Step × Tree Step Key) (xs : List (Step × Tree Step Key)) → rows_in path start outer (siblings (x ∷ xs)) ≡ rows_in path start outer (siblings (x ∷ [])) ++ rows_in path start outer (siblings xs)
  unfolding rows_in siblings
  rows-first x xs = ap (λ r. r ++ rows_in path start outer (siblings xs)) (sym (append-nil (flat_map (member_rows path start outer x) (indexes_of (value_of stated_dim x.1.keys)))))

  -- the members of an element one after the other
  pub rows-members : (x : Step × Tree Step Key) → rows_in path start outer (siblings (x ∷ [])) ≡ flat_map (λ number. member_rows path start outer x (index_at (value_of stated_dim x.1.keys) number)) (range_with_len 0 (unwrap_or (value_of stated_dim x.1.keys) 1))
  unfolding rows_in siblings
  rows-members x = append-nil _ ∙ by (value_of stated_dim x.1.keys)
    where
      by : (dim : Option ℕ) → flat_map (member_rows path start outer x) (indexes_of dim) ≡ flat_map (λ number. member_rows path start outer x (index_at dim number)) (range_with_len 0 (unwrap_or dim 1))
      by None = refl
      by (Some n) = flat_map-map (member_rows path start outer x) Some (range_with_len 0 n)

  -- so many members, where they are all
  pub all-members : (x : Step × Tree Step Key) (count : Option ℕ) (n : ℕ) → count ≡ value_of stated_dim x.1.keys → n ≡ unwrap_or count 1 → flat_map (λ number. member_rows path start outer x (index_at count number)) (range_with_len 0 n) ≡ rows_in path start outer (siblings (x ∷ []))
  all-members x count n is all =
      ap₂ (λ dim m. flat_map (λ number. member_rows path start outer x (index_at dim number)) (range_with_len 0 m)) is (all ∙ ap (λ dim. unwrap_or dim 1) is) ∙ sym (rows-members x)

pub range-more : (a n : ℕ) → range_with_len a (suc n) ≡ range_with_len a n ++ (a + n) ∷ []
range-more a zero = ap (λ m. m ∷ []) (omega arith)
range-more a (suc n) = ap (λ r. a ∷ r) (range-more (a + 1) n ∙ ap (λ m. range_with_len (a + 1) n ++ m ∷ []) (omega arith))

-- one more of those that are numbered
pub numbered-more : {X : Type 0} (f : ℕ → List X) (made : List X) (n : ℕ) → (made ++ flat_map f (range_with_len 0 n)) ++ f n ≡ made ++ flat_map f (range_with_len 0 (n + 1))
numbered-more f made n =
    let next : n + 1 ≡ suc n = omega arith in
    let last : 0 + n ≡ n = omega arith in
    flat_map_more f made (range_with_len 0 n) n
    ∙ ap (λ r. made ++ flat_map f r) (ap (λ m. range_with_len 0 n ++ m ∷ []) (sym last) ∙ sym (range-more 0 n) ∙ ap (range_with_len 0) (sym next))

-- the member of a number below the count is one of them
pub among_at : (dim count : Option ℕ) (number limit : ℕ) → count ≡ dim → number < limit → limit ≡ unwrap_or count 1 → IsAmong dim (index_at count number)
among_at dim count number limit is less all = subst (λ (d : Option ℕ). IsAmong d (index_at count number)) is (by count (subst (λ (n : ℕ). number < n) all less))
  where
    by : (count : Option ℕ) → number < unwrap_or count 1 → IsAmong count (index_at count number)
    by None less = tt
    by (Some n) less = less

pub fit-first : (start : ℕ) (outer : Props) (x : Step × Tree Step Key) (xs : List (Step × Tree Step Key)) → FitIn start outer (siblings (x ∷ xs)) → FitIn start outer (siblings (x ∷ []))
unfolding FitIn siblings
fit-first start outer x xs fit = (fit.0, tt)

pub fit-others : (start : ℕ) (outer : Props) (x : Step × Tree Step Key) (xs : List (Step × Tree Step Key)) → FitIn start outer (siblings (x ∷ xs)) → FitIn start outer (siblings xs)
unfolding FitIn siblings
fit-others start outer x xs fit = fit.1

-- each of the items fits
fit-each : (start : ℕ) (outer : Props) (items : List Item) → FitIn start outer (siblings (map item_under items)) → AllFit start outer items
fit-each start outer [] fit k d less = absurd (omega (arith, less))
fit-each start outer (item ∷ items) fit zero d less = fit-first start outer (item_under item) (map item_under items) fit
fit-each start outer (item ∷ items) fit (suc k) d less = fit-each start outer items (fit-others start outer (item_under item) (map item_under items) fit) k d (omega (arith, less))

-- ---- where there are no registers

no_registers : (path : RowPath) (start : ℕ) (outer : Props) (g : Forest Step Key) → Every (λ step keys. is_of register step ≡ false) g → rows_in path start outer g ≡ []
unfolding rows_in Every
no_registers path start outer leaf none = refl
no_registers path start outer (node s ks c n) none =
    ap₂ (λ here others. here ++ others) (nothing _ (λ index.
    ap₂ (λ b r. cond b (register_row (path_inside path s.name index) (start + start_of ks index) (props_inside ks outer) (rows (record { keys = ks; below = c })) ∷ []) [] ++ r) none.0
    (no_registers (path_inside path s.name index) (start + start_of ks index) (props_inside ks outer) c none.1)) (indexes_of (value_of stated_dim ks))) (no_registers path start outer n none.2)
  where
    nothing : {X Y : Type 0} (f : X → List Y) → ((x : X) → f x ≡ []) → (xs : List X) → flat_map f xs ≡ []
    nothing f none [] = refl
    nothing f none (x ∷ xs) = ap₂ (λ a b. a ++ b) (none x) (nothing f none xs)

values-plain : (n : ℕ) (values : List Variant) → Every (λ step keys. is_of register step ≡ false) (numbered value n (map value_tree values))
unfolding Every numbered
values-plain n [] = tt
values-plain n (v ∷ values) = (refl, tt, values-plain (n + 1) values)

sets-plain : (n : ℕ) (sets : List Values) → Every (λ step keys. is_of register step ≡ false) (numbered set n (map set_tree sets))
unfolding Every numbered
sets-plain n [] = tt
sets-plain n (v ∷ sets) = (refl, values-plain 0 v.items.items, sets-plain (n + 1) sets)

pub fields-plain : (entries : List (Sibling × Field)) → Every (λ step keys. is_of register step ≡ false) (siblings (map field_under entries))
unfolding Every siblings
fields-plain [] = tt
fields-plain (entry ∷ entries) = (refl, sets-plain 0 entry.1.values.items, fields-plain entries)

-- ---- what each element adds

-- where a member of an element that states an offset starts
starts : (keys : List Key) (offset : ℕ) (step : Option ℕ) → value_of stated_base keys ≡ None → value_of stated_offset keys ≡ Some offset → value_of stated_increment keys ≡ step → (index : Option ℕ) → start_of keys index ≡ offset + unwrap_or index 0 * unwrap_or step 0
starts keys offset step base at increment index =
    let sums : (n : ℕ) → 0 + offset + n ≡ offset + n = λ n. omega arith in
    (λ i. unwrap_or (base i) 0 + unwrap_or (at i) 0 + unwrap_or index 0 * unwrap_or (increment i) 0) ∙ sums (unwrap_or index 0 * unwrap_or step 0)

pub register-start : (r : Register) (index : Option ℕ) → start_of (stated (register_places r)) index ≡ r.offset + unwrap_or index 0 * unwrap_or r.dim.step 0
register-start r index = starts (stated (register_places r)) r.offset r.dim.step (register-base r) (register-offset r) (register-increment r) index

pub cluster-start : {A B C : Type 0} (c : Cluster-F A B C) (index : Option ℕ) → start_of (stated (cluster_places c)) index ≡ c.offset + unwrap_or index 0 * unwrap_or c.dim.step 0
cluster-start c index = starts (stated (cluster_places c)) c.offset c.dim.step (cluster-base c) (cluster-offset c) (cluster-increment c) index

pub peripheral-start : (p : Peripheral) → start_of (stated (peripheral_places p)) None ≡ p.base
peripheral-start p =
    ap₂ (λ b o. unwrap_or b 0 + unwrap_or o 0 + 0 * unwrap_or (value_of stated_increment (stated (peripheral_places p))) 0) (peripheral-base p) (peripheral-offset p) ∙ omega arith

-- ---- a register

module _ (outer : Props) (key : Sibling) (r : Register) where
  pub inside-register : props_inside (stated (register_places r)) outer ≡ holding (r.props ∷ outer ∷ [])
  inside-register = ap (λ p. holding (p ∷ outer ∷ [])) (register-props r)

  pub rows-register : (path : RowPath) (start : ℕ) (index : Option ℕ) → member_rows path start outer (register_under key r) index ≡ register_row (path_inside path key.name index) (start + (r.offset + unwrap_or index 0 * unwrap_or r.dim.step 0)) (holding (r.props ∷ outer ∷ [])) (rows (register_tree r)) ∷ []
  rows-register path start index =
      ap₂ (λ row others. row ∷ others)
      (ap₂ (λ at props. register_row (path_inside path key.name index) (start + at) props (rows (register_tree r))) (register-start r index) inside-register)
      (no_registers (path_inside path key.name index) (start + start_of (stated (register_places r)) index) (props_inside (stated (register_places r)) outer) (register_tree r).below (fields-plain r.fields.entries))

-- ---- the fields of a register

values-named : (start n : ℕ) (outer : Props) (values : List Variant) → FitIn start outer (numbered value n (map value_tree values)) → AreNamed values
unfolding FitIn numbered
values-named start n outer [] fit = tt
values-named start n outer (v ∷ values) fit = ((fit.0 None tt).0, values-named start (n + 1) outer values fit.1)

sets-named : (start n : ℕ) (outer : Props) (sets : List Values) → FitIn start outer (numbered set n (map set_tree sets)) → SetsAreNamed sets
unfolding FitIn numbered
sets-named start n outer [] fit = tt
sets-named start n outer (v ∷ sets) fit = (values-named _ 0 _ v.items.items (fit.0 None tt).1, sets-named start (n + 1) outer sets fit.1)

field-inside : (f : Field) (outer : Props) → size_at (props_inside (stated (field_places f)) outer) ≡ size_at outer
unfolding holding
field-inside f outer = ap (λ (o : Option ℕ). unwrap_or (nearest (o ∷ outer.size ∷ [])) 32) (field-size f) ∙ ap (λ o. unwrap_or o 32) (one outer.size)
  where
    one : (o : Option ℕ) → nearest (o ∷ []) ≡ o
    one None = refl
    one (Some n) = refl

fields-fit : (start : ℕ) (outer : Props) (entries : List (Sibling × Field)) → FitIn start outer (siblings (map field_under entries)) → IsDistinct same_step (siblings (map field_under entries)) → AllByRecursion (FieldFits (bits_of (width_of (size_at outer)))) entries
unfolding FitIn siblings IsDistinct
fields-fit start outer [] fit distinct = tt
fields-fit start outer (entry ∷ entries) fit distinct = (one, fields-fit start outer entries fit.1 distinct.2)
  where
    bits : ℕ
    bits = bits_of (width_of (size_at outer))

    keys : List Key
    keys = stated (field_places entry.1)

    here : (is_field_within bits keys ≡ true) × (1 ≤ unwrap_or (value_of stated_dim keys) 1)
    here = subst (λ size. (is_field_within (bits_of (width_of size)) keys ≡ true) × (1 ≤ unwrap_or (value_of stated_dim keys) 1)) (field-inside entry.1 outer) (fit.0 None tt).0

    width : unwrap_or (value_of stated_width keys) 1 ≡ unwrap_or entry.1.place.width 1
    width = ap (λ w. unwrap_or w 1) (field-width entry.1)

    place : (index : Option ℕ) → bit_of keys index ≡ bit_at entry.1 index
    place index = ap₂ (λ o s. unwrap_or o 0 + unwrap_or index 0 * unwrap_or s 0) (field-offset entry.1) (field-increment entry.1)

    first : unwrap_or entry.1.place.offset 0 + unwrap_or entry.1.place.width 1 ≤ bits
    first = let begins = place None in let all = first-within bits keys here.0 here.1 in omega (arith, begins, width, all)

    one : FieldFits bits entry
    one = record {
      some = subst (λ n. 1 ≤ n) width (some-bit bits keys here.0);
      members = subst (λ (count : Option ℕ). 1 ≤ unwrap_or count 1) (field-dim entry.1) here.1;
      first = first;
      within = λ index is.
          let begins = place index in
          let end = index-within bits keys here.0 index (subst (λ count. IsIndexOf count index) (sym (field-dim entry.1)) is) in
          omega (arith, begins, width, end);
      named = sets-named _ 0 _ entry.1.values.items (fit.0 None tt).1;
      distinct = distinct.1;
    }

-- what fits at a member of a register
pub record RegisterFits (start : ℕ) (outer : Props) (r : Register) (index : Option ℕ) : Type 0 where
  pub size : is_size (size_at (holding (r.props ∷ outer ∷ []))) ≡ true
  pub ends : start + (r.offset + unwrap_or index 0 * unwrap_or r.dim.step 0) + bytes_of (width_of (size_at (holding (r.props ∷ outer ∷ [])))) ≤ 2 ^ 64
  pub distinct : IsDistinct same_step (register_tree r).below
  pub fields : AllByRecursion (FieldFits (bits_of (width_of (size_at (holding (r.props ∷ outer ∷ [])))))) r.fields.entries

pub fit-register : (start : ℕ) (outer : Props) (key : Sibling) (r : Register) (index : Option ℕ) → IsAmong r.dim.count index → FitIn start outer (siblings (register_under key r ∷ [])) → RegisterFits start outer r index
unfolding FitIn siblings
fit-register start outer key r index among fit =
    let props = inside-register outer key r in
    let member = fit.0 index (subst (λ (dim : Option ℕ). IsAmong dim index) (sym (register-dim r)) among) in
    let here = subst (λ (p : Props). (is_size (size_at p) ≡ true) × (start + start_of (stated (register_places r)) index + bytes_of (width_of (size_at p)) ≤ 2 ^ 64) × IsDistinct same_step (register_tree r).below) props member.0 in
    let inner = subst (λ (p : Props). FitIn (start + start_of (stated (register_places r)) index) p (register_tree r).below) props member.1 in
    record {
      size = here.0;
      ends = subst (λ (n : ℕ). start + n + bytes_of (width_of (size_at (holding (r.props ∷ outer ∷ [])))) ≤ 2 ^ 64) (register-start r index) here.1;
      distinct = here.2;
      fields = fields-fit _ (holding (r.props ∷ outer ∷ [])) r.fields.entries inner here.2;
    }

-- ---- a cluster

module _ (outer : Props) (key : Sibling) (c : Cluster) where
  cluster_of : Tree Step Key
  cluster_of = record { keys = stated (cluster_places (out-Cluster c)); below = siblings (map item_under (out-Cluster c).children.items) }

  pub inside-cluster : props_inside (stated (cluster_places (out-Cluster c))) outer ≡ holding ((out-Cluster c).props ∷ outer ∷ [])
  inside-cluster = ap (λ p. holding (p ∷ outer ∷ [])) (cluster-props (out-Cluster c))

  pub rows-cluster : (path : RowPath) (start : ℕ) (index : Option ℕ) → member_rows path start outer (cluster_under key c) index ≡ rows_in (path_inside path key.name index) (start + ((out-Cluster c).offset + unwrap_or index 0 * unwrap_or (out-Cluster c).dim.step 0)) (holding ((out-Cluster c).props ∷ outer ∷ [])) (siblings (map item_under (out-Cluster c).children.items))
  unfolding cluster_of
  rows-cluster path start index =
      ap (λ (tree : Tree Step Key). member_rows path start outer (step_of cluster key, tree) index) (cluster_tree-is c)
      ∙ ap₂ (λ at props. rows_in (path_inside path key.name index) (start + at) props cluster_of.below) (cluster-start (out-Cluster c) index) inside-cluster

  pub fit-cluster : (start : ℕ) (index : Option ℕ) → IsAmong (out-Cluster c).dim.count index → FitIn start outer (siblings (cluster_under key c ∷ [])) → (start + ((out-Cluster c).offset + unwrap_or index 0 * unwrap_or (out-Cluster c).dim.step 0) < 2 ^ 64) × AllFit (start + ((out-Cluster c).offset + unwrap_or index 0 * unwrap_or (out-Cluster c).dim.step 0)) (holding ((out-Cluster c).props ∷ outer ∷ [])) (out-Cluster c).children.items
  unfolding FitIn siblings cluster_of
  fit-cluster start index among fit =
      let here = subst (λ (tree : Tree Step Key). FitIn start outer (siblings ((step_of cluster key, tree) ∷ []))) (cluster_tree-is c) fit in
      let member = here.0 index (subst (λ (dim : Option ℕ). IsAmong dim index) (sym (cluster-dim (out-Cluster c))) among) in
      let at = subst (λ (n : ℕ). start + n < 2 ^ 64) (cluster-start (out-Cluster c) index) member.0 in
      let moved = subst (λ (n : ℕ). FitIn (start + n) (props_inside cluster_of.keys outer) cluster_of.below) (cluster-start (out-Cluster c) index) member.1 in
      (at, fit-each _ _ (out-Cluster c).children.items (subst (λ (p : Props). FitIn (start + ((out-Cluster c).offset + unwrap_or index 0 * unwrap_or (out-Cluster c).dim.step 0)) p cluster_of.below) inside-cluster moved))

-- ---- a child

pub cluster-child : (item : Item) (c : Cluster) → item.child ≡ AsCluster c → item_under item ≡ cluster_under item.key c
cluster-child item c is =
    item_under-is item ∙ ap (λ child. (step_of (child_tree child).0 item.key, (child_tree child).1)) is ∙ ap (λ tree. (step_of tree.0 item.key, tree.1)) (child_tree-cluster c)

pub register-child : (item : Item) (r : Register) → item.child ≡ AsRegister r → item_under item ≡ register_under item.key r
register-child item r is =
    item_under-is item ∙ ap (λ child. (step_of (child_tree child).0 item.key, (child_tree child).1)) is ∙ ap (λ tree. (step_of tree.0 item.key, tree.1)) (child_tree-register r)

pub cluster-count : (item : Item) (c : Cluster) → item.child ≡ AsCluster c → value_of stated_dim (item_under item).1.keys ≡ (out-Cluster c).dim.count
cluster-count item c is =
    ap (λ (x : Step × Tree Step Key). value_of stated_dim x.1.keys) (cluster-child item c is)
    ∙ ap (λ (tree : Tree Step Key). value_of stated_dim tree.keys) (cluster_tree-is c)
    ∙ cluster-dim (out-Cluster c)

pub register-count : (item : Item) (r : Register) → item.child ≡ AsRegister r → value_of stated_dim (item_under item).1.keys ≡ r.dim.count
register-count item r is = ap (λ (x : Step × Tree Step Key). value_of stated_dim x.1.keys) (register-child item r is) ∙ register-dim r

-- ---- a peripheral

module _ (outer : Props) (key : Sibling) (p : Peripheral) (xs : List (Step × Tree Step Key)) where
  pub inside-peripheral : props_inside (stated (peripheral_places p)) outer ≡ holding (p.props ∷ outer ∷ [])
  inside-peripheral = ap (λ q. holding (q ∷ outer ∷ [])) (peripheral-props p)

  pub rows-peripheral : rows_of_peripherals outer (siblings (peripheral_under (key, p) ∷ xs)) ≡ rows_in (peripheral_path key.name) p.base (holding (p.props ∷ outer ∷ [])) (siblings (map item_under p.children.items)) ++ rows_of_peripherals outer (siblings xs)
  unfolding rows_of_peripherals siblings
  rows-peripheral =
      ap₂ (λ at props. rows_in (peripheral_path key.name) at props (siblings (map item_under p.children.items)) ++ rows_of_peripherals outer (siblings xs)) (peripheral-start p) inside-peripheral

  pub fit-peripheral : FitIn 0 outer (siblings (peripheral_under (key, p) ∷ xs)) → (p.base < 2 ^ 64) × AllFit p.base (holding (p.props ∷ outer ∷ [])) p.children.items
  unfolding FitIn siblings
  fit-peripheral fit =
      let begins : 0 + start_of (stated (peripheral_places p)) None ≡ p.base = zero-add (start_of (stated (peripheral_places p)) None) ∙ peripheral-start p in
      let at = subst (λ (n : ℕ). n < 2 ^ 64) begins (fit.0 None tt).0 in
      let moved = subst (λ (n : ℕ). FitIn n (props_inside (stated (peripheral_places p)) outer) (siblings (map item_under p.children.items))) begins (fit.0 None tt).1 in
      (at, fit-each p.base (holding (p.props ∷ outer ∷ [])) p.children.items (subst (λ (q : Props). FitIn p.base q (siblings (map item_under p.children.items))) inside-peripheral moved))

pub rows-no_peripherals : (outer : Props) → rows_of_peripherals outer (siblings []) ≡ []
unfolding rows_of_peripherals siblings
rows-no_peripherals outer = refl
