use Rattle.std.proofs.Common.{◌≡◌, IfOk, subst, option_map}
use Rattle.frag_sem.specs.PlaceTyping.{module_fault}
use Rattle.frag_tree.specs.declared.krate.Crate.{Crate}
use Rattle.frag_tree.specs.Trees.{crate_tree}
use Rattle.frag_types.specs.Lines.{fault_seen}
use Rattle.frag_types.proofs.script.unfit_line.Goals as goal

pub returns : goal.returns
returns c = subst (λ (krate : Crate). IfOk c.first_unfit.result (λ unfit. option_map fault_seen unfit ≡ module_fault (crate_tree krate) c.args.script.now)) c.in_ok-index.ensures.krate c.first_unfit.ensures
