use Rattle.std.proofs.Common.{◌+◌, arith, drop, map, ap, ◌∙◌}
use Rattle.frag_rules.specs.Rules.{register_test}
use Rattle.frag_rules.proofs.Distinct.{drop-at, drop-end}
use Rattle.frag_rules.proofs.Misfits.{found-done, found-more}
use Rattle.frag_rules.proofs.first.in_registers.Goals as goal

pub loop-at-preserved : goal.loop-at-preserved
loop-at-preserved c =
    found-more (register_test c.args.rule c.args.version) (map (λ listed. listed.unit.now) (drop c.loop-at.at c.args.registers.now)) (map (λ listed. listed.unit.now) (drop (c.loop-at.at + 1) c.args.registers.now)) _ c.loop-at.found c.earlier-found.result c.behind.result c.in_ok-item.item
    (ap (map (λ listed. listed.unit.now)) (drop-at c.args.registers.now c.loop-at.at _ c.loop-at-test.true)) c.earlier-found.ensures c.behind.ensures c.in_ok-item.ensures
    ∙ c.loop-at.invariant

pub returns : goal.returns
returns c =
    found-done (register_test c.args.rule c.args.version) (map (λ listed. listed.unit.now) (drop c.loop-at.at c.args.registers.now)) c.loop-at.found (ap (map (λ listed. listed.unit.now)) (drop-end c.args.registers.now c.loop-at.at (omega arith))) ∙ c.loop-at.invariant
