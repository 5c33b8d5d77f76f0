use Rattle.std.proofs.Common.{◌≡◌, ℕ, ◌+◌, List, ◌++◌, Option, Some, map, ap, subst, sym, ◌∙◌, arith}
use Rattle.yaml_block.specs.Nodes.{entry_under, items_under, node_tree}
use Rattle.yaml_block.specs.declared.node.Node.{Node}
use Rattle.yaml_block.proofs.Answers.{if_ok}
use Rattle.patch_form.specs.declared.fault.Fault.{Fault}
use Rattle.patch_form.specs.declared.fault.FaultKind.TheVariants.{BadValue}
use Rattle.patch_form.specs.declared.form.Form.TheVariants.{Name}
use Rattle.patch_form.specs.declared.form.KeyKind.{KeyKind}
use Rattle.patch_form.specs.Unmet.{AllMet}
use Rattle.patch_form.specs.Words.{key_kind}
use Rattle.yaml_block.specs.Trees.{Tree, entries_of, items_of, mapping, nothing, scalar, list}
use Rattle.yaml_block.proofs.Nodes.{node_tree-empty, node_tree-scalar, node_tree-list, node_tree-mapping, entries_under-is}
use Rattle.patch_form.specs.Demands.{Demand, addition_demands, each_key, element_demands, key_demands, of_form, one, place_demands}
use Rattle.patch_form.specs.Finding.{First}
use Rattle.patch_form.proofs.Finding.{joined, past-begun, past-more, past-done}
use Rattle.patch_form.proofs.Keys.{unknown, passed, children, keys_from, additions_from, keys-done, additions-done, keys-here, additions-here}
use Rattle.patch_form.proofs.key.+keys.Goals as goal

pub addition_faults-loop-entry-init : goal.addition_faults-loop-entry-init
addition_faults-loop-entry-init t c = past-begun (additions_from c.args.entries.now 0)

pub addition_faults-returns : goal.addition_faults-returns
addition_faults-returns t c =
    past-done (additions_from c.args.entries.now 0) c.loop-entry.found (additions_from c.args.entries.now c.loop-entry.entry-index) (additions-done c.args.entries.now c.loop-entry.entry-index (omega arith)) c.loop-entry.invariant

pub key_faults-loop-entry-init : goal.key_faults-loop-entry-init
key_faults-loop-entry-init t c = past-begun (keys_from c.args.entries.now 0)

pub key_faults-returns : goal.key_faults-returns
key_faults-returns t c =
    past-done (keys_from c.args.entries.now 0) c.loop-entry.found (keys_from c.args.entries.now c.loop-entry.entry-index) (keys-done c.args.entries.now c.loop-entry.entry-index (omega arith)) c.loop-entry.invariant

pub addition_faults-loop-entry-preserved : goal.addition_faults-loop-entry-preserved
addition_faults-loop-entry-preserved t c =
    let named = c.args.entries.now in
    let i = c.loop-entry.entry-index in
    let line = c.entry-item.result.0 in
    let name = c.entry-item.result.1 in
    let tree = node_tree c.entry-item.result.2 in
    past-more (additions_from named 0) (additions_from named i) (one line BadValue (of_form Name name) ++ element_demands line tree) (additions_from named (i + 1))
    c.loop-entry.found c.earlier.result c.earlier-found.result
    (additions-here named i c.entry-item.result c.loop-entry-test.true c.entry-item.is)
    (subst (λ (found : Option Fault). First (one line BadValue (of_form Name name) ++ element_demands line tree) found) (sym c.earlier.ensures)
    (joined (one line BadValue (of_form Name name)) (element_demands line tree) c.in_ok-named.named c.in_ok-keyed.keyed
    (subst (λ (text : List ℕ). First (one line BadValue (of_form Name text)) c.in_ok-named.named) (c.as_bytes.ensures.value ∙ c.as_str.ensures) c.in_ok-named.ensures)
    c.in_ok-keyed.ensures))
    c.earlier-found.ensures c.loop-entry.invariant

pub key_faults-loop-entry-preserved : goal.key_faults-loop-entry-preserved
key_faults-loop-entry-preserved t c =
    let named = c.args.entries.now in
    let i = c.loop-entry.entry-index in
    let line = c.entry-item.result.0 in
    let tree = node_tree c.entry-item.result.2 in
    past-more (keys_from named 0) (keys_from named i) (key_demands (key_kind c.entry-item.result.1) line tree) (keys_from named (i + 1))
    c.loop-entry.found c.in_ok-key_fault.field-0 c.earlier-found.result
    (keys-here named i c.entry-item.result c.loop-entry-test.true c.entry-item.is)
    (subst (λ (kind : Option KeyKind). First (key_demands kind line tree) c.in_ok-key_fault.field-0) (c.key_kind-kind.ensures ∙ ap key_kind (c.as_bytes.ensures.value ∙ c.as_str.ensures)) c.in_ok-key_fault.ensures)
    c.earlier-found.ensures c.loop-entry.invariant

pub key_fault-returns-in-None : goal.key_fault-returns-in-None
key_fault-returns-in-None t c = subst (λ (ds : List Demand). First ds c.fault.result) (unknown c.args.kind c.args.line (node_tree c.args.node.now) c.in-None.is) c.fault.ensures

pub key_fault-returns-in-PassedOver : goal.key_fault-returns-in-PassedOver
key_fault-returns-in-PassedOver t c =
    subst AllMet (passed c.args.kind c.args.line (node_tree c.args.node.now) (c.in-Some.is ∙ ap Some c.in-PassedOver.is)) tt

pub key_fault-returns-in-Empty : goal.key_fault-returns-in-Empty
key_fault-returns-in-Empty t c =
    subst (λ (ds : List Demand). First ds c.fault-in-Empty.result)
    (children c.args.kind c.args.line (node_tree c.args.node.now) nothing (c.in-Some.is ∙ ap Some c.in-Children.is) (ap node_tree c.in-Empty.is ∙ node_tree-empty))
    c.fault-in-Empty.ensures

pub key_fault-returns-in-Scalar : goal.key_fault-returns-in-Scalar
key_fault-returns-in-Scalar t c =
    subst (λ (ds : List Demand). First ds c.fault-in-Scalar.result)
    (children c.args.kind c.args.line (node_tree c.args.node.now) (scalar c.in-Scalar.field-0) (c.in-Some.is ∙ ap Some c.in-Children.is) (ap node_tree c.in-Scalar.is ∙ node_tree-scalar c.in-Scalar.field-0))
    c.fault-in-Scalar.ensures

pub key_fault-returns-in-List : goal.key_fault-returns-in-List
key_fault-returns-in-List t c =
    subst (λ (ds : List Demand). First ds c.fault-in-List.result)
    (children c.args.kind c.args.line (node_tree c.args.node.now) (list (items_of (items_under c.in-List.field-0))) (c.in-Some.is ∙ ap Some c.in-Children.is) (ap node_tree c.in-List.is ∙ node_tree-list c.in-List.field-0))
    c.fault-in-List.ensures

pub key_fault-returns-in-Map : goal.key_fault-returns-in-Map
key_fault-returns-in-Map t c =
    let named = entries_of (map entry_under c.as_slice.result.now) in
    let seen : node_tree c.args.node.now ≡ mapping named =
    ap node_tree c.in-Map.is ∙ node_tree-mapping c.in-Map.entries ∙ ap (λ (es : List (ℕ × List ℕ × Tree)). mapping (entries_of es)) (entries_under-is c.in-Map.entries ∙ ap (map entry_under) (sym c.as_slice.ensures.value)) in
    if_ok c.addition_faults.result (First (addition_demands named)) (First (key_demands c.args.kind c.args.line (node_tree c.args.node.now)))
    (λ found first. subst (λ (ds : List Demand). First ds found) (children c.args.kind c.args.line (node_tree c.args.node.now) (mapping named) (c.in-Some.is ∙ ap Some c.in-Children.is) seen) first)
    c.addition_faults.ensures

pub element_fault-returns-in-Empty : goal.element_fault-returns-in-Empty
element_fault-returns-in-Empty t c = subst (λ (tree : Tree). AllMet (element_demands c.args.line tree)) (sym (ap node_tree c.in-Empty.is ∙ node_tree-empty)) tt

pub element_fault-returns-in-Scalar : goal.element_fault-returns-in-Scalar
element_fault-returns-in-Scalar t c = subst (λ (tree : Tree). First (element_demands c.args.line tree) c.fault.result) (sym (ap node_tree c.in-Scalar.is ∙ node_tree-scalar c.in-Scalar.field-0)) c.fault.ensures

pub element_fault-returns-in-List : goal.element_fault-returns-in-List
element_fault-returns-in-List t c = subst (λ (tree : Tree). First (element_demands c.args.line tree) c.fault-in-List.result) (sym (ap node_tree c.in-List.is ∙ node_tree-list c.in-List.field-0)) c.fault-in-List.ensures

pub element_fault-returns-in_ok-keys-in-Map : goal.element_fault-returns-in_ok-keys-in-Map
element_fault-returns-in_ok-keys-in-Map t c =
    let named = entries_of (map entry_under c.as_slice.result.now) in
    let seen : node_tree c.args.node.now ≡ mapping named =
    ap node_tree c.in-Map.is ∙ node_tree-mapping c.in-Map.entries ∙ ap (λ (es : List (ℕ × List ℕ × Tree)). mapping (entries_of es)) (entries_under-is c.in-Map.entries ∙ ap (map entry_under) (sym c.as_slice.ensures.value)) in
    let same : c.as_slice-in-Map.result.now ≡ c.as_slice.result.now = c.as_slice-in-Map.ensures.value ∙ sym c.as_slice.ensures.value in
    subst (λ (tree : Tree). First (element_demands c.args.line tree) c.earlier.result) (sym seen)
    (subst (λ (found : Option Fault). First (each_key named ++ place_demands c.args.line named) found) (sym c.earlier.ensures)
    (joined (each_key named) (place_demands c.args.line named) c.in_ok-keys-in-Map.keys c.place_fault.result c.in_ok-keys-in-Map.ensures
    (subst (λ (es : List (ℕ × List ℕ × Node)). First (place_demands c.args.line (entries_of (map entry_under es))) c.place_fault.result) same c.place_fault.ensures)))
