-- What is listed of an element, and of siblings one after the other.
use Rattle.std.proofs.Common.{◌≡◌, ℕ, ◌+◌, List, [], ◌∷◌, ◌++◌, map, length, Option, None, Some, refl, sym, ap, ap₂, ◌∙◌, append_assoc, append-nil}
use Rattle.std.proofs.lemmas.List.{length-append, length_push, length-map}
use Rattle.derive_sources.specs.declared.entry.Entry.{Entry}
use Rattle.derive_sources.specs.Entries.{plain, with_rest, Lists, ListsAll}
use Rattle.derive_sources.specs.Numbers.{Item, item_of, items_in, items_of}
use Rattle.derived_rows.specs.Sources.{stated_source}
use Rattle.pac_base.specs.declared.path.Step.{Step as Written}
use Rattle.svd_model.specs.declared.device.Cluster.{Cluster as ClusterOf, out-Cluster}
use Rattle.svd_model.specs.declared.device.Child.TheOpen.{Cluster-F}
use Rattle.svd_model.specs.declared.device.Device.{Device}
use Rattle.svd_model.specs.declared.device.Field.{Field}
use Rattle.svd_model.specs.declared.device.Peripheral.{Peripheral}
use Rattle.svd_model.specs.declared.device.Register.{Register as RegisterOf}
use Rattle.svd_model.specs.declared.device.Values.{Values}
use Rattle.svd_model.specs.declared.device.Variant.{Variant}
use Rattle.svd_model.specs.Keys.{Key, rank, derived_from}
use Rattle.svd_model.specs.Stating.{value_of}
use Rattle.svd_model.specs.Steps.{Step, Kind}
use Rattle.svd_model.specs.Trees.{numbered, peripheral_under, device_tree, cluster_tree, device_places, peripheral_places, cluster_places, register_places, field_places, set_places, value_places}
use Rattle.svd_model.proofs.Placed.{device-placed, peripheral-placed, cluster-placed, register-placed, field-placed, set-placed, value-placed}
use Rattle.svd_model.proofs.Stated.{found, stated_back}
use Rattle.svd_model.proofs.Trees.{cluster_tree-is}
use Rattle.svd_rows.specs.Forest.{Tree, leaf, siblings}
use Rattle.svd_rows.specs.Ranks.{stated}

-- an element that was listed, and all below it
pub grown : (old mid new : List Entry) (parent number : ℕ) (name : List ℕ) (names : Option (List Written)) (step : Step) (tree : Tree Step Key)
    → map plain mid ≡ map plain old ++ record { parent = Some parent; kind = Some step.kind; name = name; names = names } ∷ []
    → name ≡ step.name → names ≡ value_of stated_source tree.keys → number ≡ length old
    → ListsAll mid new number tree.below → Lists old new parent (step, tree)
unfolding items_in
grown old mid new parent number name names step tree pushed is_name are_names is_number below = λ rest.
    ap (λ n. map plain new ++ items_in parent n rest) all_long
    ∙ ap (λ l. l ++ items_in parent ((length old + 1) + length (items_in (length old) (length old + 1) tree.below)) rest) listed
    ∙ append_assoc (map plain old ++ item ∷ []) (items_in (length old) (length old + 1) tree.below) (items_in parent ((length old + 1) + length (items_in (length old) (length old + 1) tree.below)) rest)
    ∙ append_assoc (map plain old) (item ∷ []) (items_in (length old) (length old + 1) tree.below ++ items_in parent ((length old + 1) + length (items_in (length old) (length old + 1) tree.below)) rest)
  where
    item : Item
    item = item_of parent step tree.keys

    is_item : map plain mid ≡ map plain old ++ item ∷ []
    is_item = pushed ∙ ap₂ (λ n ns. map plain old ++ record { parent = Some parent; kind = Some step.kind; name = n; names = ns } ∷ []) is_name are_names

    mid_long : length mid ≡ length old + 1
    mid_long = sym (length-map mid plain) ∙ ap (λ l. length l) is_item ∙ length_push (map plain old) item ∙ ap (λ n. n + 1) (length-map old plain)

    listed : map plain new ≡ (map plain old ++ item ∷ []) ++ items_in (length old) (length old + 1) tree.below
    listed = below ∙ ap₂ (λ l k. l ++ items_in number k tree.below) is_item mid_long ∙ ap (λ n. (map plain old ++ item ∷ []) ++ items_in n (length old + 1) tree.below) is_number

    all_long : length new ≡ (length old + 1) + length (items_in (length old) (length old + 1) tree.below)
    all_long = sym (length-map new plain) ∙ ap (λ l. length l) listed
        ∙ length-append (map plain old ++ item ∷ []) (items_in (length old) (length old + 1) tree.below)
        ∙ ap (λ n. n + length (items_in (length old) (length old + 1) tree.below)) (length_push (map plain old) item ∙ ap (λ n. n + 1) (length-map old plain))

-- nothing is below an element
pub lists_none : (entries : List Entry) (parent : ℕ) → ListsAll entries entries parent leaf
unfolding items_in
lists_none entries parent = sym (append-nil (map plain entries))

-- one more sibling
pub one_more : (old now : List Entry) (parent : ℕ) (element : Step × Tree Step Key) (all rest : List (Step × Tree Step Key)) (whole : List Item)
    → all ≡ element ∷ rest → Lists old now parent element → with_rest old parent (siblings all) ≡ whole → with_rest now parent (siblings rest) ≡ whole
unfolding siblings
one_more old now parent element all rest whole are lists before =
    lists (siblings rest) ∙ ap (λ xs. with_rest old parent (siblings xs)) (sym are) ∙ before

pub one_placed : (kind : Kind) (place : ℕ) (old now : List Entry) (parent : ℕ) (element : List ℕ × Tree Step Key) (all rest : List (List ℕ × Tree Step Key)) (whole : List Item)
    → all ≡ element ∷ rest → Lists old now parent (record { kind = kind; name = element.0; number = place }, element.1) → with_rest old parent (numbered kind place all) ≡ whole → with_rest now parent (numbered kind (place + 1) rest) ≡ whole
unfolding numbered
one_placed kind place old now parent element all rest whole are lists before =
    lists (numbered kind (place + 1) rest) ∙ ap (λ xs. with_rest old parent (numbered kind place xs)) (sym are) ∙ before

-- no sibling is left
pub none_left : (now : List Entry) (parent : ℕ) (all : List (Step × Tree Step Key)) (whole : List Item) → all ≡ [] → with_rest now parent (siblings all) ≡ whole → map plain now ≡ whole
unfolding siblings
none_left now parent all whole none before = lists_none now parent ∙ ap (λ xs. with_rest now parent (siblings xs)) (sym none) ∙ before

pub none_placed : (kind : Kind) (place : ℕ) (now : List Entry) (parent : ℕ) (all : List (List ℕ × Tree Step Key)) (whole : List Item) → all ≡ [] → with_rest now parent (numbered kind place all) ≡ whole → map plain now ≡ whole
unfolding numbered
none_placed kind place now parent all whole none before = lists_none now parent ∙ ap (λ xs. with_rest now parent (numbered kind place xs)) (sym none) ∙ before

-- ---- which names each element gives

other-source : (key : Key) → (rank key ≡ 1 → ⊥) → stated_source key ≡ None
unfolding rank
other-source (derived_from path) h = absurd (h refl)
other-source _ h = refl

pub device-names : (e : Device) → value_of stated_source (stated (device_places e)) ≡ None
unfolding device_places
device-names e = found stated_source 1 other-source (device_places e) (device-placed e)

pub peripheral-names : (e : Peripheral) → value_of stated_source (stated (peripheral_places e)) ≡ e.derived
unfolding peripheral_places
peripheral-names e = found stated_source 1 other-source (peripheral_places e) (peripheral-placed e) ∙ stated_back derived_from stated_source (λ _. refl) e.derived

cluster-stated : {A B C : Type 0} (e : Cluster-F A B C) → value_of stated_source (stated (cluster_places e)) ≡ e.derived
unfolding cluster_places
cluster-stated e = found stated_source 1 other-source (cluster_places e) (cluster-placed e) ∙ stated_back derived_from stated_source (λ _. refl) e.derived

pub cluster-names : (e : ClusterOf) → value_of stated_source (cluster_tree e).keys ≡ (out-Cluster e).derived
cluster-names e = ap (λ (tree : Tree Step Key). value_of stated_source tree.keys) (cluster_tree-is e) ∙ cluster-stated (out-Cluster e)

pub register-names : (e : RegisterOf) → value_of stated_source (stated (register_places e)) ≡ e.derived
unfolding register_places
register-names e = found stated_source 1 other-source (register_places e) (register-placed e) ∙ stated_back derived_from stated_source (λ _. refl) e.derived

pub field-names : (e : Field) → value_of stated_source (stated (field_places e)) ≡ e.derived
unfolding field_places
field-names e = found stated_source 1 other-source (field_places e) (field-placed e) ∙ stated_back derived_from stated_source (λ _. refl) e.derived

pub set-names : (e : Values) → value_of stated_source (stated (set_places e)) ≡ e.derived
unfolding set_places
set-names e = found stated_source 1 other-source (set_places e) (set-placed e) ∙ stated_back derived_from stated_source (λ _. refl) e.derived

pub value-names : (e : Variant) → value_of stated_source (stated (value_places e)) ≡ None
unfolding value_places
value-names e = found stated_source 1 other-source (value_places e) (value-placed e)

-- the device, and all that is below it
pub all_listed : (pushed new : List Entry) (device : Device) → map plain pushed ≡ record { parent = None; kind = None; name = []; names = None } ∷ [] → map plain new ≡ with_rest pushed 0 (siblings (map peripheral_under device.peripherals.entries)) → map plain new ≡ items_of (device_tree device)
unfolding items_of device_tree
all_listed pushed new device top below =
    below
    ∙ ap₂ (λ l n. l ++ items_in 0 n (siblings (map peripheral_under device.peripherals.entries))) top (sym (length-map pushed plain) ∙ ap (λ l. length l) top)
    ∙ ap (λ names. record { parent = None; kind = None; name = []; names = names } ∷ items_in 0 1 (siblings (map peripheral_under device.peripherals.entries))) (sym (device-names device))
