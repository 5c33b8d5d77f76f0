use Rattle.std.proofs.Common.{◌+◌, false, map, arith, ap, subst, sym, ◌∙◌}
use Rattle.yaml_block.specs.Nodes.{entry_under, node_tree}
use Rattle.yaml_block.specs.Trees.{Tree, entries_of}
use Rattle.yaml_block.proofs.Answers.{if_ok}
use Rattle.patch_form.specs.declared.fault.FaultKind.TheVariants.{BadPattern}
use Rattle.patch_form.specs.declared.word.KeyWord.{KeyWord}
use Rattle.patch_form.specs.Unmet.{AllMet}
use Rattle.patch_form.specs.Demands.{one, pattern}
use Rattle.patch_form.specs.Finding.{First}
use Rattle.patch_form.specs.Mappings.{entry_demands, mapping_demands, opened_demands}
use Rattle.patch_form.specs.Words.{key_word}
use Rattle.patch_form.proofs.Arms.{in_empty, in_scalar, in_any_list, in_map}
use Rattle.patch_form.proofs.Finding.{found-both, past-begun, past-more, past-done}
use Rattle.patch_form.proofs.FromPlace.{from, from-done, from-here}
use Rattle.patch_form.proofs.mapping.+mappings.Goals as goal

pub mapping_fault-loop-entry-init : goal.mapping_fault-loop-entry-init
mapping_fault-loop-entry-init t c = past-begun (from (mapping_demands c.args.device) c.args.entries.now 0)

pub mapping_fault-loop-entry-preserved : goal.mapping_fault-loop-entry-preserved
mapping_fault-loop-entry-preserved t c =
    let named = c.args.entries.now in
    let i = c.loop-entry.entry-index in
    let here = c.entry-item.result in
    let tree = node_tree here.2 in
    past-more (from (mapping_demands c.args.device) named 0) (from (mapping_demands c.args.device) named i) (entry_demands (key_word here.1) c.args.device here.0 here.1 tree (opened_demands here.0 tree)) (from (mapping_demands c.args.device) named (i + 1))
    c.loop-entry.found c.in_ok-more.more c.earlier-found.result
    (from-here (mapping_demands c.args.device) named i here c.loop-entry-test.true c.entry-item.is)
    (subst (λ (word : KeyWord). First (entry_demands word c.args.device here.0 here.1 tree (opened_demands here.0 tree)) c.in_ok-more.more) (c.key_word-word.ensures ∙ ap key_word (c.as_bytes.ensures.value ∙ c.as_str.ensures)) c.in_ok-more.ensures)
    c.earlier-found.ensures c.loop-entry.invariant

pub mapping_fault-returns : goal.mapping_fault-returns
mapping_fault-returns t c =
    past-done (from (mapping_demands c.args.device) c.args.entries.now 0) c.loop-entry.found (from (mapping_demands c.args.device) c.args.entries.now c.loop-entry.entry-index)
    (from-done (mapping_demands c.args.device) c.args.entries.now c.loop-entry.entry-index (omega arith)) c.loop-entry.invariant

pub opened_fault-returns-in-Empty : goal.opened_fault-returns-in-Empty
opened_fault-returns-in-Empty t c = in_empty (λ (tree : Tree). AllMet (opened_demands c.args.line tree)) c.args.node.now c.in-Empty.is tt

pub opened_fault-returns-in-Scalar : goal.opened_fault-returns-in-Scalar
opened_fault-returns-in-Scalar t c = in_scalar (λ (tree : Tree). First (opened_demands c.args.line tree) c.fault.result) c.args.node.now c.in-Scalar.field-0 c.in-Scalar.is c.fault.ensures

pub opened_fault-returns-in-List : goal.opened_fault-returns-in-List
opened_fault-returns-in-List t c = in_any_list (λ (tree : Tree). First (opened_demands c.args.line tree) c.fault-in-List.result) c.args.node.now c.in-List.field-0 c.in-List.is c.fault-in-List.ensures

pub opened_fault-returns-in-Map : goal.opened_fault-returns-in-Map
opened_fault-returns-in-Map t c =
    if_ok c.mapping_fault.result (First (mapping_demands false (entries_of (map entry_under c.as_slice.result.now)))) (First (opened_demands c.args.line (node_tree c.args.node.now)))
    (λ found first. in_map (λ (tree : Tree). First (opened_demands c.args.line tree) found) c.args.node.now c.in-Map.entries c.as_slice.result.now c.in-Map.is c.as_slice.ensures.value first)
    c.mapping_fault.ensures

pub entry_fault-returns-in_ok-opened-in-Pattern : goal.entry_fault-returns-in_ok-opened-in-Pattern
entry_fault-returns-in_ok-opened-in-Pattern t c =
    let line = c.args.line in
    let tree = node_tree c.args.node.now in
    subst (λ (word : KeyWord). First (entry_demands word c.args.device line c.args.key.now tree (opened_demands line tree)) c.earlier.result) (sym c.in-Pattern.is)
    (found-both (one line BadPattern (pattern c.args.key.now)) (opened_demands line tree) c.in_ok-formed-in-Pattern.formed c.in_ok-opened-in-Pattern.opened c.earlier.result c.in_ok-formed-in-Pattern.ensures c.in_ok-opened-in-Pattern.ensures c.earlier.ensures)
