use Rattle.std.proofs.Common.{ap, map, ◌∙◌}
use Rattle.std.specs.List.{list_all}
use Rattle.frag_tree.specs.Trees.{crate_tree}
use Rattle.frag_rules.specs.Rules.{register_test}
use Rattle.frag_rules.proofs.Insides.{if_ok}
use Rattle.frag_rules.proofs.first.registers_break.Goals as goal

pub returns : goal.returns
unfolding crate_tree
returns c =
    if_ok c.in_registers.result _ _ (λ item is. is ∙ ap (λ units. list_all (register_test c.args.rule c.args.parts.now.krate.now.version) (map (λ listed. listed.unit.now) units)) c.as_slice.ensures.value) c.in_registers.ensures
