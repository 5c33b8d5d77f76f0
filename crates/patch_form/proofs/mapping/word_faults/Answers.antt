use Rattle.std.proofs.Common.{◌+◌, arith}
use Rattle.yaml_block.specs.Nodes.{node_tree}
use Rattle.patch_form.specs.Mappings.{word_entries, word_entry}
use Rattle.patch_form.proofs.Finding.{past-begun, past-more, past-done}
use Rattle.patch_form.proofs.FromPlace.{from, from-done, from-here}
use Rattle.patch_form.proofs.mapping.word_faults.Goals as goal

pub loop-entry-init : goal.loop-entry-init
loop-entry-init c = past-begun (from (word_entries c.args.word c.args.device) c.args.entries.now 0)

pub loop-entry-preserved : goal.loop-entry-preserved
loop-entry-preserved c =
    let named = c.args.entries.now in
    let i = c.loop-entry.entry-index in
    let one = c.entry-item.result in
    past-more (from (word_entries c.args.word c.args.device) named 0) (from (word_entries c.args.word c.args.device) named i) (word_entry c.args.word c.args.device one.0 one.1 (node_tree one.2)) (from (word_entries c.args.word c.args.device) named (i + 1))
    c.loop-entry.found c.in_ok-word_fault.field-0 c.earlier-found.result
    (from-here (word_entries c.args.word c.args.device) named i one c.loop-entry-test.true c.entry-item.is) c.in_ok-word_fault.ensures c.earlier-found.ensures c.loop-entry.invariant

pub returns : goal.returns
returns c =
    past-done (from (word_entries c.args.word c.args.device) c.args.entries.now 0) c.loop-entry.found (from (word_entries c.args.word c.args.device) c.args.entries.now c.loop-entry.entry-index)
    (from-done (word_entries c.args.word c.args.device) c.args.entries.now c.loop-entry.entry-index (omega arith)) c.loop-entry.invariant
