use Rattle.std.proofs.Common.{List, ℕ, Option, Bor, subst, sym}
use Rattle.yaml_block.specs.declared.node.Node.{Node}
use Rattle.yaml_block.specs.Nodes.{node_tree}
use Rattle.patch_form.specs.declared.fault.FaultKind.TheVariants.{BadPattern}
use Rattle.patch_form.specs.Demands.{one, pattern, present}
use Rattle.patch_form.specs.Finding.{First, at_of}
use Rattle.patch_form.specs.Mappings.{name_marked, name_there}
use Rattle.patch_form.proofs.Finding.{found-both}
use Rattle.patch_form.proofs.entry.name_there.Goals as goal

pub returns-in_ok-formed-in-Some : goal.returns-in_ok-formed-in-Some
returns-in_ok-formed-in-Some c =
    let line = c.args.line in
    let here = c.in-Some.entry.now in
    subst (λ (name : Option (Bor (ℕ × List ℕ × Node))). First (name_there line c.args.target.now (at_of name)) c.earlier.result) (sym c.in-Some.is)
    (found-both (one line BadPattern (pattern c.args.target.now)) (name_marked (present here.0 (node_tree here.2))) c.in_ok-formed-in-Some.formed c.mark_fault.result c.earlier.result c.in_ok-formed-in-Some.ensures c.mark_fault.ensures c.earlier.ensures)
