use Rattle.std.proofs.Common.{◌≡◌, ◌&&◌, drop, is_none, map}
use Rattle.std.specs.List.{list_all}
use Rattle.frag_rules.specs.Rules.{register_test}
use Rattle.frag_rules.proofs.first.in_registers.Given as goal

abbrev pub invariant-loop-at : goal.invariant-loop-at
invariant-loop-at l =
    (is_none l.found && list_all (register_test l.rule l.version) (map (λ listed. listed.unit.now) (drop l.at l.registers))) ≡ list_all (register_test l.rule l.version) (map (λ listed. listed.unit.now) l.registers)
