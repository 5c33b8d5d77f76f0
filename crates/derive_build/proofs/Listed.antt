-- What is listed of an element, and of siblings one after the other.
use Rattle.std.proofs.Common.{◌≡◌, ℕ, ◌+◌, List, [], ◌∷◌, ◌++◌, map, sym, ap, ◌∙◌, append_assoc, append-nil}
use Rattle.derive_build.specs.declared.own.Own.{Own}
use Rattle.derive_build.specs.Nodes.{Node, node_of, nodes_in, nodes_of, top_node, own_node, with_rest, Lists, ListsAll}
use Rattle.svd_model.specs.declared.device.Device.{Device}
use Rattle.svd_model.specs.Keys.{Key}
use Rattle.svd_model.specs.Steps.{Step, Kind}
use Rattle.svd_model.specs.Trees.{numbered, peripheral_under, device_tree, device_places}
use Rattle.svd_rows.specs.Forest.{Tree, leaf, siblings}
use Rattle.svd_rows.specs.Ranks.{stated}

-- an element that was listed, and all below it
pub grown : (old mid new : List Own) (node : Node) (step : Step) (tree : Tree Step Key) → map own_node mid ≡ map own_node old ++ node ∷ [] → node ≡ node_of step tree.keys → ListsAll mid new tree.below → Lists old new (step, tree)
unfolding nodes_in
grown old mid new node step tree pushed is below = λ rest.
    ap (λ l. l ++ nodes_in rest) (below ∙ ap (λ l. l ++ nodes_in tree.below) (pushed ∙ ap (λ n. map own_node old ++ n ∷ []) is))
    ∙ append_assoc (map own_node old ++ node_of step tree.keys ∷ []) (nodes_in tree.below) (nodes_in rest)
    ∙ append_assoc (map own_node old) (node_of step tree.keys ∷ []) (nodes_in tree.below ++ nodes_in rest)

-- nothing is below an element
pub lists_none : (owns : List Own) → ListsAll owns owns leaf
unfolding nodes_in
lists_none owns = sym (append-nil (map own_node owns))

-- one more sibling
pub one_more : (old now : List Own) (element : Step × Tree Step Key) (all rest : List (Step × Tree Step Key)) (whole : List Node)
    → all ≡ element ∷ rest → Lists old now element → with_rest old (siblings all) ≡ whole → with_rest now (siblings rest) ≡ whole
unfolding siblings
one_more old now element all rest whole are lists before =
    lists (siblings rest) ∙ ap (λ xs. with_rest old (siblings xs)) (sym are) ∙ before

pub one_placed : (kind : Kind) (place : ℕ) (old now : List Own) (element : List ℕ × Tree Step Key) (all rest : List (List ℕ × Tree Step Key)) (whole : List Node)
    → all ≡ element ∷ rest → Lists old now (record { kind = kind; name = element.0; number = place }, element.1) → with_rest old (numbered kind place all) ≡ whole → with_rest now (numbered kind (place + 1) rest) ≡ whole
unfolding numbered
one_placed kind place old now element all rest whole are lists before =
    lists (numbered kind (place + 1) rest) ∙ ap (λ xs. with_rest old (numbered kind place xs)) (sym are) ∙ before

-- no sibling is left
pub none_left : (now : List Own) (all : List (Step × Tree Step Key)) (whole : List Node) → all ≡ [] → with_rest now (siblings all) ≡ whole → map own_node now ≡ whole
unfolding siblings
none_left now all whole none before = lists_none now ∙ ap (λ xs. with_rest now (siblings xs)) (sym none) ∙ before

pub none_placed : (kind : Kind) (place : ℕ) (now : List Own) (all : List (List ℕ × Tree Step Key)) (whole : List Node) → all ≡ [] → with_rest now (numbered kind place all) ≡ whole → map own_node now ≡ whole
unfolding numbered
none_placed kind place now all whole none before = lists_none now ∙ ap (λ xs. with_rest now (numbered kind place xs)) (sym none) ∙ before

-- the device, and all that is below it
pub all_listed : (pushed new : List Own) (device : Device) → map own_node pushed ≡ top_node (stated (device_places device)) ∷ [] → map own_node new ≡ with_rest pushed (siblings (map peripheral_under device.peripherals.entries)) → map own_node new ≡ nodes_of (device_tree device)
unfolding nodes_of device_tree
all_listed pushed new device top below = below ∙ ap (λ l. l ++ nodes_in (siblings (map peripheral_under device.peripherals.entries))) top
