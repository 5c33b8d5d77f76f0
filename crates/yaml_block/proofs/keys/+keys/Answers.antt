use Rattle.std.proofs.Common.{ℕ, List, [], map, Option, ap, sym, ◌∙◌, arith}
use Rattle.yaml_block.specs.declared.node.Node.{Node}
use Rattle.yaml_block.specs.Nesting.{doubles_in, doubles_among, doubles_behind, first}
use Rattle.yaml_block.specs.Nodes.{node_tree, item_under, entry_under}
use Rattle.yaml_block.specs.Seen.{keys_in}
use Rattle.yaml_block.specs.Trees.{Tree, items_of, entries_of}
use Rattle.yaml_block.proofs.Answers.{if_ok}
use Rattle.yaml_block.proofs.Doubles.{among-goes_on, among-stops, among-done, behind-again, behind-stops, behind-goes_on, behind-done, is_seen, is_fresh}
use Rattle.yaml_block.proofs.Nodes.{node_tree-empty, node_tree-scalar, node_tree-list, node_tree-mapping, items_under-is, entries_under-is}
use Rattle.yaml_block.proofs.keys.+keys.Goals as goal

pub double_among-returns-in-Some : goal.double_among-returns-in-Some
double_among-returns-in-Some t c =
    among-stops c.args.items.now c.loop-item.item-index c.item-item.result c.in-Some.line c.loop-item-test.true c.item-item.is (sym c.in_ok-line.ensures ∙ c.in-Some.is) ∙ c.loop-item.invariant

pub double_among-loop-item-preserved : goal.double_among-loop-item-preserved
double_among-loop-item-preserved t c =
    among-goes_on c.args.items.now c.loop-item.item-index c.item-item.result c.loop-item-test.true c.item-item.is (sym c.in_ok-line.ensures ∙ c.in_default.is) ∙ c.loop-item.invariant

pub double_among-returns : goal.double_among-returns
double_among-returns t c = among-done c.args.items.now c.loop-item.item-index (omega arith) ∙ c.loop-item.invariant

pub double_behind-returns-then-not-branch : goal.double_behind-returns-then-not-branch
double_behind-returns-then-not-branch t c =
    behind-again (keys_in c.loop-entry.seen) c.args.entries.now c.loop-entry.entry-index c.entry-item.result c.loop-entry-test.true c.entry-item.is (is_seen _ _ c.in_ok-is_new.ensures.new c.if-not-branch.true) ∙ c.loop-entry.invariant

pub double_behind-returns-in-Some : goal.double_behind-returns-in-Some
double_behind-returns-in-Some t c =
    behind-stops (keys_in c.loop-entry.seen) c.args.entries.now c.loop-entry.entry-index c.entry-item.result c.in-Some.line c.loop-entry-test.true c.entry-item.is (is_fresh _ _ c.in_ok-is_new.ensures.new c.if-not-branch.false) (sym c.in_ok-line.ensures ∙ c.in-Some.is) ∙ c.loop-entry.invariant

pub double_behind-loop-entry-preserved : goal.double_behind-loop-entry-preserved
double_behind-loop-entry-preserved t c =
    behind-goes_on (keys_in c.loop-entry.seen) (keys_in c.is_new.new.seen) c.args.entries.now c.loop-entry.entry-index c.entry-item.result c.loop-entry-test.true c.entry-item.is (is_fresh _ _ c.in_ok-is_new.ensures.new c.if-not-branch.false) (c.in_ok-is_new.ensures.kept c.if-not-branch.false) (sym c.in_ok-line.ensures ∙ c.in_default.is) ∙ c.loop-entry.invariant

pub double_behind-returns : goal.double_behind-returns
double_behind-returns t c = behind-done (keys_in c.loop-entry.seen) c.args.entries.now c.loop-entry.entry-index (omega arith) ∙ c.loop-entry.invariant

-- the first double key of a node, by what the node is
first_in : Node → Option ℕ
first_in node = first (doubles_in (node_tree node))

pub double_key-returns-in-Empty : goal.double_key-returns-in-Empty
unfolding first_in
double_key-returns-in-Empty t c = sym (ap first_in c.in-Empty.is ∙ ap (λ (tree : Tree). first (doubles_in tree)) node_tree-empty)

pub double_key-returns-in-Scalar : goal.double_key-returns-in-Scalar
unfolding first_in
double_key-returns-in-Scalar t c = sym (ap first_in c.in-Scalar.is ∙ ap (λ (tree : Tree). first (doubles_in tree)) (node_tree-scalar c.in-Scalar.field-0))

pub double_key-returns-in-List : goal.double_key-returns-in-List
unfolding first_in
double_key-returns-in-List t c =
    if_ok c.double_among.result _ _
    (λ line found.
    found
    ∙ sym (ap first_in c.in-List.is
    ∙ ap (λ (tree : Tree). first (doubles_in tree)) (node_tree-list c.in-List.items)
    ∙ ap (λ (items : List (ℕ × Tree)). first (doubles_among (items_of items))) (items_under-is c.in-List.items ∙ ap (map item_under) (sym c.as_slice.ensures.value))))
    c.double_among.ensures

pub double_key-returns-in-Map : goal.double_key-returns-in-Map
unfolding first_in
double_key-returns-in-Map t c =
    if_ok c.double_behind.result _ _
    (λ line found.
    found
    ∙ sym (ap first_in c.in-Map.is
    ∙ ap (λ (tree : Tree). first (doubles_in tree)) (node_tree-mapping c.in-Map.entries)
    ∙ ap (λ (entries : List (ℕ × List ℕ × Tree)). first (doubles_behind [] (entries_of entries))) (entries_under-is c.in-Map.entries ∙ ap (map entry_under) (sym c.as_slice-in-Map.ensures.value))))
    c.double_behind.ensures
