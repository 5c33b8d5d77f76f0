-- What a table of settled elements tells: at a number, and of elements that are made of what stands there.
use Rattle.std.proofs.Common.{◌≡◌, ℕ, zero, suc, ◌+◌, ◌<◌, ◌≤◌, true, false, cond, List, [], ◌∷◌, ◌++◌, map, take, length, get_or, Option, None, Some, slice_get, nat_lt, ◌-◌, Result, Ok, Err, IfOk, inl, inr, unwrap_or, refl, sym, ap, ap₂, ◌∙◌, subst, arith}
use Rattle.std.specs.List.{AllByRecursion, IsDistinct}
use Rattle.std.proofs.lemmas.List.{map_more, map-append}
use Rattle.std.proofs.lemmas.Bool.{cases_lt, lt-ltb, true≢false}
use Rattle.std.proofs.lemmas.Option.{same_Some, slice_get-get_or, slice_get_past}
use Rattle.indexmap.specs.IndexMap.{insert_entry}
use Rattle.derive_build.specs.declared.settled.Settled.{Settled}
use Rattle.derive_build.specs.Children.{node_at, child_of, children_of, step_by}
use Rattle.derive_build.specs.Nodes.{Node, own_node}
use Rattle.derive_build.specs.Tables.{owns_in, by_place, children_in, keys_in, children_by_number, keys_told, children_told, tree_at, with_trees, tree_of, under, named, is_kid, AtSettled, KidsAre, CanStand, IsKid, HasKids, steps_in, IsNew}
use Rattle.derive_build.specs.Taking.{keys_by}
use Rattle.derived_graph.specs.Graphs.{Child}
use Rattle.derived_rows.specs.Merging.{renumbered}
use Rattle.need_order.specs.Levels.{by_levels}
use Rattle.svd_model.specs.declared.device.Item.{Item}
use Rattle.svd_model.specs.declared.sibling.Sibling.{Sibling}
use Rattle.svd_model.specs.Keys.{Key}
use Rattle.svd_model.specs.Steps.{Step, Kind, peripheral, cluster, register, field, set, value, same_key}
use Rattle.svd_model.specs.Trees.{item_under, step_of, numbered}
use Rattle.svd_model.proofs.Copies.{sibling_eq, sibling_eq-turns}
use Rattle.svd_rows.specs.Forest.{Tree, leaf, node, siblings}
use Rattle.svd_rows.proofs.Lists.{map-map}

-- ---- at a number

-- the element at a number
pub own-at : (table : List Settled) (d : ℕ) (settled : Settled) → slice_get table d ≡ Some settled → node_at (owns_in table) d ≡ own_node settled.own
unfolding owns_in
own-at [] d settled is = absurd cc
own-at (x ∷ table) zero settled is = ap (λ (s : Settled). own_node s.own) (same_Some x settled is)
own-at (x ∷ table) (suc d) settled is = own-at table d settled is

-- its tree
pub tree-at : (table : List Settled) (levels d : ℕ) (settled : Settled) → slice_get table d ≡ Some settled → tree_at table (suc levels) d ≡ tree_of table levels settled
unfolding tree_at tree_of by_levels keys_told children_told
tree-at table levels d settled is =
    ap₂ (λ (keys : List Key) (children : List Child). record { keys = keys; below = siblings (with_trees table levels children) }) (ap keys_in is) (ap (children_by_number table) is)

-- an element that is made of what stands at its number is what the table tells
pub made-at : (table : List Settled) (levels d : ℕ) (settled : Settled) (made : Tree Step Key) → slice_get table d ≡ Some settled → ((inner : ℕ) → levels ≡ suc inner → HasKids table inner settled → made ≡ tree_of table inner settled) → CanStand table levels d → made ≡ tree_at table levels d
unfolding CanStand
made-at table zero d settled made is each stands = absurd stands
made-at table (suc levels) d settled made is each stands =
    each levels refl (subst (AtSettled (KidsAre (CanStand table levels) table)) is stands) ∙ sym (tree-at table levels d settled is)

-- where nothing stands nothing can
pub none-stands : (table : List Settled) (levels d : ℕ) → slice_get table d ≡ None → CanStand table levels d → ⊥
unfolding CanStand
none-stands table zero d is stands = stands
none-stands table (suc levels) d is stands = subst (AtSettled (KidsAre (CanStand table levels) table)) is stands

-- what stands at a number is no child of this kind
pub no-kid : (table : List Settled) (levels d : ℕ) (settled : Settled) (kind : Option Kind) → slice_get table d ≡ Some settled → is_kid kind (own_node settled.own).kind ≡ false → IsKid table levels kind d → ⊥
no-kid table levels d settled kind is other kid =
    differ (sym (sym (ap (λ (n : Node). is_kid kind n.kind) (own-at table d settled is)) ∙ kid.0) ∙ other)
  where
    differ : true ≡ false → ⊥
    differ e = absurd cc

-- the element under its step, and under its name
pub under-is : (table : List Settled) (levels d : ℕ) (settled : Settled) (step : Step) (made : Tree Step Key) → slice_get table d ≡ Some settled → step_by (own_node settled.own) ≡ step → made ≡ tree_at table levels d → ◌≡◌ {A = Step × Tree Step Key} (step, made) (under table levels d)
under-is table levels d settled step made is step_is made_is =
    ap₂ (λ (s : Step) (t : Tree Step Key). (s, t)) (sym step_is ∙ sym (ap step_by (own-at table d settled is))) made_is

pub named-is : (table : List Settled) (levels d : ℕ) (settled : Settled) (name : List ℕ) (made : Tree Step Key) → slice_get table d ≡ Some settled → (own_node settled.own).name ≡ name → made ≡ tree_at table levels d → ◌≡◌ {A = List ℕ × Tree Step Key} (name, made) (named table levels d)
named-is table levels d settled name made is name_is made_is =
    ap₂ (λ (s : List ℕ) (t : Tree Step Key). (s, t)) (sym name_is ∙ sym (ap (λ (n : Node). n.name) (own-at table d settled is))) made_is

-- ---- children, one after the other

all-at : (P : ℕ → Type 0) (numbers : List ℕ) (i : ℕ) → i < length numbers → AllByRecursion P numbers → P (get_or numbers i 0)
all-at P [] i inside all = absurd (omega (arith, inside))
all-at P (x ∷ numbers) zero inside all = all.0
all-at P (x ∷ numbers) (suc i) inside all = all-at P numbers i (omega (arith, inside)) all.1

-- one more is made
pub one-made : {A B : Type 0} (P : ℕ → Type 0) (of : ℕ → B) (seen : A → B) (numbers : List ℕ) (i : ℕ) (made next : List A) → i < length numbers → AllByRecursion P numbers
    → (P (get_or numbers i 0) → map seen next ≡ map seen made ++ of (get_or numbers i 0) ∷ []) → map seen made ≡ map of (take i numbers) → map seen next ≡ map of (take (i + 1) numbers)
one-made P of seen numbers i made next inside all more before =
    more (all-at P numbers i inside all)
    ∙ ap (λ l. l ++ of (get_or numbers i 0) ∷ []) before
    ∙ sym (map_more of numbers i 0 inside)

pub take-all : (xs : List ℕ) (i : ℕ) → length xs ≤ i → take i xs ≡ xs
take-all [] zero h = refl
take-all [] (suc i) h = refl
take-all (x ∷ xs) zero h = absurd (omega (arith, h))
take-all (x ∷ xs) (suc i) h = ap (λ r. x ∷ r) (take-all xs i (omega (arith, h)))

-- all are made
pub all-made : {A B : Type 0} (of : ℕ → B) (seen : A → B) (numbers : List ℕ) (i : ℕ) (made : List A) → length numbers ≤ i → map seen made ≡ map of (take i numbers) → map seen made ≡ map of numbers
all-made of seen numbers i made past before = before ∙ ap (map of) (take-all numbers i past)

-- ---- maps

-- a child's key is none of those before it
pub new-at : (table : List Settled) (levels : ℕ) (numbers : List ℕ) (i : ℕ) → i < length numbers → IsDistinct same_key (steps_in table numbers) → IsNew table (map (under table levels) (take i numbers)) (get_or numbers i 0)
unfolding IsDistinct
new-at table levels [] i inside apart = absurd (omega (arith, inside))
new-at table levels (x ∷ numbers) zero inside apart = tt
new-at table levels (x ∷ numbers) (suc i) inside apart = (one numbers i (omega (arith, inside)) apart.0, new-at table levels numbers i (omega (arith, inside)) apart.1)
  where
    one : (ns : List ℕ) (k : ℕ) → k < length ns → AllByRecursion (λ other. same_key (child_of (owns_in table) x).0 other ≡ false) (steps_in table ns) → same_key (child_of (owns_in table) x).0 (child_of (owns_in table) (get_or ns k 0)).0 ≡ false
    one [] k h all = absurd (omega (arith, h))
    one (n ∷ ns) zero h all = all.0
    one (n ∷ ns) (suc k) h all = one ns k (omega (arith, h)) all.1

-- an entry whose key is none of those before it goes last
insert-new : {X : Type 0} (seen : (Sibling × X) → (Step × Tree Step Key)) (kind : Kind) → ((entry : Sibling × X) → (seen entry).0 ≡ step_of kind entry.0) → (entries : List (Sibling × X)) (key : Sibling) (made : X)
    → AllByRecursion (λ (one : Step × Tree Step Key). same_key one.0 (step_of kind key) ≡ false) (map seen entries) → insert_entry sibling_eq entries key made ≡ entries ++ (key, made) ∷ []
unfolding same_key
insert-new seen kind steps [] key made new = refl
insert-new seen kind steps (entry ∷ entries) key made new =
    ap (λ b. cond b ((entry.0, made) ∷ entries) (entry ∷ insert_entry sibling_eq entries key made))
    (sibling_eq-turns key entry.0 ∙ sym (ap (λ (s : Step). same_key s (step_of kind key)) (steps entry)) ∙ new.0)
    ∙ ap (λ r. entry ∷ r) (insert-new seen kind steps entries key made new.1)

-- so its element comes last
pub entry-last : {X : Type 0} (seen : (Sibling × X) → (Step × Tree Step Key)) (kind : Kind) → ((entry : Sibling × X) → (seen entry).0 ≡ step_of kind entry.0)
    → (table : List Settled) (levels d : ℕ) (entries new : List (Sibling × X)) (key : Sibling) (made : X)
    → ◌≡◌ {A = Step × Tree Step Key} (seen (key, made)) (under table levels d) → new ≡ insert_entry sibling_eq entries key made → IsNew table (map seen entries) d → map seen new ≡ map seen entries ++ under table levels d ∷ []
entry-last seen kind steps table levels d entries new key made is inserted fresh =
    ap (map seen) (inserted ∙ insert-new seen kind steps entries key made (subst (λ (s : Step). AllByRecursion (λ (one : Step × Tree Step Key). same_key one.0 s ≡ false) (map seen entries)) (sym (ap (λ (x : Step × Tree Step Key). x.0) is) ∙ steps (key, made)) fresh))
    ∙ map-append seen entries ((key, made) ∷ [])
    ∙ ap (λ x. map seen entries ++ x ∷ []) is

-- ---- an element over its children

module _ (table : List Settled) (levels : ℕ) where
  -- sets and values by their places
  placed-below : (kind : Kind) (n : ℕ) (numbers : List ℕ) → AllByRecursion (λ d. (node_at (owns_in table) d).kind ≡ Some kind) numbers
      → numbered kind n (map (named table levels) numbers) ≡ siblings (with_trees table levels (renumbered n (children_of (owns_in table) numbers)))
  unfolding numbered siblings renumbered
  placed-below kind n [] kinds = refl
  placed-below kind n (d ∷ numbers) kinds =
      ap₂ (λ k rest. node (record { kind = k; name = (node_at (owns_in table) d).name; number = n }) (tree_at table levels d).keys (tree_at table levels d).below rest)
      (sym (ap (λ o. unwrap_or o value) kinds.0)) (placed-below kind (n + 1) numbers kinds.1)

  kinds-of : (kind inner : Kind) → ((o : Option Kind) → is_kid (Some kind) o ≡ true → o ≡ Some inner) → (numbers : List ℕ) → AllByRecursion (IsKid table levels (Some kind)) numbers → AllByRecursion (λ d. (node_at (owns_in table) d).kind ≡ Some inner) numbers
  kinds-of kind inner alone [] kids = tt
  kinds-of kind inner alone (d ∷ numbers) kids = (alone (node_at (owns_in table) d).kind kids.0.0, kinds-of kind inner alone numbers kids.1)

  pub placed-made : {X : Type 0} (seen : X → (List ℕ × Tree Step Key)) (items : List X) (kind inner : Kind) (settled : Settled) (keys : List Key) → keys_by settled.own settled.keys ≡ keys → (own_node settled.own).kind ≡ Some kind
      → ((children : List Child) → by_place (Some kind) children ≡ renumbered 0 children) → ((o : Option Kind) → is_kid (Some kind) o ≡ true → o ≡ Some inner)
      → HasKids table levels settled → (AllByRecursion (IsKid table levels (Some kind)) settled.children.items → map seen items ≡ map (named table levels) settled.children.items)
      → ◌≡◌ {A = Tree Step Key} (record { keys = keys; below = numbered inner 0 (map seen items) }) (tree_of table levels settled)
  unfolding tree_of
  placed-made seen items kind inner settled keys keys_is kind_is places alone kids made =
      let each : AllByRecursion (IsKid table levels (Some kind)) settled.children.items = subst (λ k. AllByRecursion (IsKid table levels k) settled.children.items) kind_is kids.each in
      ap₂ (λ ks forest. record { keys = ks; below = forest }) (sym keys_is)
      (ap (numbered inner 0) (made each)
      ∙ placed-below inner 0 settled.children.items (kinds-of kind inner alone settled.children.items each)
      ∙ ap (λ children. siblings (with_trees table levels children)) (sym (ap (λ k. by_place k (children_of (owns_in table) settled.children.items)) kind_is ∙ places (children_of (owns_in table) settled.children.items))))

  pub plain-made : {X : Type 0} (seen : X → (Step × Tree Step Key)) (items : List X) (kind : Option Kind) (settled : Settled) (keys : List Key) → keys_by settled.own settled.keys ≡ keys → (own_node settled.own).kind ≡ kind → ((children : List Child) → by_place kind children ≡ children)
      → HasKids table levels settled → (AllByRecursion (IsKid table levels kind) settled.children.items → IsDistinct same_key (steps_in table settled.children.items) → map seen items ≡ map (under table levels) settled.children.items)
      → ◌≡◌ {A = Tree Step Key} (record { keys = keys; below = siblings (map seen items) }) (tree_of table levels settled)
  unfolding tree_of
  plain-made seen items kind settled keys keys_is kind_is places kids made =
      let each : AllByRecursion (IsKid table levels kind) settled.children.items = subst (λ k. AllByRecursion (IsKid table levels k) settled.children.items) kind_is kids.each in
      let plain : children_in table settled ≡ children_of (owns_in table) settled.children.items = ap (λ k. by_place k (children_of (owns_in table) settled.children.items)) kind_is ∙ places (children_of (owns_in table) settled.children.items) in
      let apart : IsDistinct same_key (steps_in table settled.children.items) = subst (IsDistinct same_key) (ap (map (λ (child : Child). child.0)) plain ∙ map-map (λ (child : Child). child.0) (child_of (owns_in table)) settled.children.items) kids.apart in
      ap₂ (λ ks forest. record { keys = ks; below = forest }) (sym keys_is)
      (ap siblings (made each apart ∙ sym (map-map (λ (child : Child). (child.0, tree_at table levels child.1)) (child_of (owns_in table)) settled.children.items) ∙ ap (with_trees table levels) (sym plain)))

  -- nothing stands below an enumerated value
  pub value-made : (settled : Settled) (keys : List Key) → keys_by settled.own settled.keys ≡ keys → (own_node settled.own).kind ≡ Some value → HasKids table levels settled → ◌≡◌ {A = Tree Step Key} (record { keys = keys; below = leaf }) (tree_of table levels settled)
  unfolding siblings
  value-made settled keys keys_is kind_is kids =
      plain-made {X = Step × Tree Step Key} (λ x. x) [] (Some value) settled keys keys_is kind_is (λ children. refl) kids (λ each apart. sym (ap (map (under table levels)) (none settled.children.items each)))
    where
      barren : (o : Option Kind) → is_kid (Some value) o ≡ true → ⊥
      barren None h = absurd cc
      barren (Some peripheral) h = absurd cc
      barren (Some cluster) h = absurd cc
      barren (Some register) h = absurd cc
      barren (Some field) h = absurd cc
      barren (Some set) h = absurd cc
      barren (Some value) h = absurd cc

      none : (numbers : List ℕ) → AllByRecursion (IsKid table levels (Some value)) numbers → numbers ≡ []
      none [] kids = refl
      none (d ∷ numbers) kids = absurd (barren (node_at (owns_in table) d).kind kids.0.0)

-- only values stand below a set, and only sets below a field
pub value-alone : (o : Option Kind) → is_kid (Some set) o ≡ true → o ≡ Some value
value-alone (Some value) h = refl
value-alone _ h = absurd cc

pub set-alone : (o : Option Kind) → is_kid (Some field) o ≡ true → o ≡ Some set
set-alone (Some set) h = refl
set-alone _ h = absurd cc

-- ---- an element that is pushed

pub pushed-named : {A : Type 0} (seen : A → (List ℕ × Tree Step Key)) (table : List Settled) (levels d : ℕ) (settled : Settled) (parent : Option Kind) (old new : List A) (item : A) (name : List ℕ) (tree : Tree Step Key)
    → slice_get table d ≡ Some settled → ◌≡◌ {A = List ℕ × Tree Step Key} (seen item) (name, tree) → (own_node settled.own).name ≡ name → new ≡ old ++ item ∷ [] → ((inner : ℕ) → HasKids table inner settled → tree ≡ tree_of table inner settled) → IsKid table levels parent d
    → map seen new ≡ map seen old ++ named table levels d ∷ []
pushed-named seen table levels d settled parent old new item name tree is shows name_is pushed made kid =
    ap (map seen) pushed ∙ map-append seen old (item ∷ [])
    ∙ ap (λ x. map seen old ++ x ∷ []) (shows ∙ named-is table levels d settled name tree is name_is (made-at table levels d settled tree is (λ inner less kids. made inner kids) kid.1))

-- what stands at a number that can stand has children that can
pub kids-at : (table : List Settled) (levels inner d : ℕ) (settled : Settled) → levels ≡ suc inner → slice_get table d ≡ Some settled → CanStand table levels d → HasKids table inner settled
unfolding CanStand
kids-at table levels inner d settled next is stands = subst (AtSettled (KidsAre (CanStand table inner) table)) is (up (subst (λ l. CanStand table l d) next stands))
  where
    up : CanStand table (suc inner) d → AtSettled (KidsAre (CanStand table inner) table) (slice_get table d)
    up h = h

pub pushed-item : (table : List Settled) (levels inner d : ℕ) (settled : Settled) (old new : List Item) (item : Item) → levels ≡ suc inner → slice_get table d ≡ Some settled
    → (HasKids table inner settled → ◌≡◌ {A = Step × Tree Step Key} (item_under item) (step_by (own_node settled.own), tree_of table inner settled)) → new ≡ old ++ item ∷ [] → CanStand table levels d
    → map item_under new ≡ map item_under old ++ under table levels d ∷ []
pushed-item table levels inner d settled old new item next is shows pushed stands =
    ap (map item_under) pushed ∙ map-append item_under old (item ∷ [])
    ∙ ap (λ x. map item_under old ++ x ∷ [])
    (shows (kids-at table levels inner d settled next is stands)
    ∙ under-is table levels d settled (step_by (own_node settled.own)) (tree_of table inner settled) is refl
    (made-at table levels d settled (tree_of table inner settled) is (λ low less kids. ap (λ l. tree_of table l settled) (pred-same inner low (sym next ∙ less))) stands))
  where
    pred-same : (a b : ℕ) → suc a ≡ suc b → a ≡ b
    pred-same a b e = omega (arith, e)

-- ---- what the code looks up

pub stood : (table : List Settled) (d : ℕ) (settled : Settled) → settled ≡ get_or table d settled → d < length table → slice_get table d ≡ Some settled
stood table d settled is inside = slice_get-get_or table d settled inside ∙ ap Some (sym is)

pub none-stood : (table : List Settled) (d : ℕ) → false ≡ nat_lt d (length table) → slice_get table d ≡ None
none-stood table d e = elim (cases_lt d (length table)) [
  | inl less ↦ absurd (true≢false (sym (lt-ltb d (length table) less) ∙ sym e))
  | inr past ↦ slice_get_past table d past
]

-- nothing stands below the last level
pub none-low : (table : List Settled) (levels d : ℕ) → levels ≡ 0 → CanStand table levels d → ⊥
unfolding CanStand
none-low table zero d is stands = stands
none-low table (suc levels) d is stands = absurd (omega (arith, is))

pub some-level : (levels : ℕ) → (levels ≡ 0 → ⊥) → levels ≡ suc (levels - 1)
some-level zero some = absurd (some refl)
some-level (suc levels) some = omega arith

-- what may stand below a peripheral may below a cluster
pub as-cluster : (table : List Settled) (levels : ℕ) (numbers : List ℕ) → AllByRecursion (IsKid table levels (Some peripheral)) numbers → AllByRecursion (IsKid table levels (Some cluster)) numbers
as-cluster table levels [] kids = tt
as-cluster table levels (d ∷ numbers) kids = ((fits (node_at (owns_in table) d).kind ∙ kids.0.0, kids.0.1), as-cluster table levels numbers kids.1)
  where
    fits : (o : Option Kind) → is_kid (Some cluster) o ≡ is_kid (Some peripheral) o
    fits None = refl
    fits (Some peripheral) = refl
    fits (Some cluster) = refl
    fits (Some register) = refl
    fits (Some field) = refl
    fits (Some set) = refl
    fits (Some value) = refl

pub same-level : (levels inner : ℕ) → levels + 1 ≡ suc inner → levels ≡ inner
same-level levels inner e = omega (arith, e)

-- ---- results

pub if-ok : {X E : Type 0} (r : Result X E) (P Q : X → Type 0) → ((x : X) → P x → Q x) → IfOk r P → IfOk r Q
if-ok (Ok x) P Q f h = f x h
if-ok (Err e) P Q f h = tt

pub if-all-ok : {X E : Type 0} (r : Result X E) (P Q R S : X → Type 0) → ((x : X) → P x → Q x → R x → S x) → IfOk r P → IfOk r Q → IfOk r R → IfOk r S
if-all-ok (Ok x) P Q R S f h k l = f x h k l
if-all-ok (Err e) P Q R S f h k l = tt
