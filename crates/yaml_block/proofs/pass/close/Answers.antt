use Rattle.std.proofs.Common.{◌≡◌, [], ap, sym, ◌∙◌, arith, append-nil}
use Rattle.std.specs.Prelude.{reverse}
use Rattle.std.proofs.lemmas.Grind.{common_steps}
use Rattle.std.proofs.lemmas.List.{nil_from_length}
use Rattle.yaml_block.proofs.Passing.{down_to-last, down_to-deeper, down_to-here, less_test, not_less_test}
use Rattle.yaml_block.proofs.pass.close.Goals as goal

pub loop-top-preserved : goal.loop-top-preserved
loop-top-preserved c =
    sym (down_to-deeper c.args.indent c.loop-top.top c.in-Some.next c.loop-top.outer.items c.pop.new.self.items (less_test c.args.indent c.loop-top.top c.loop-top-test.true) c.in-Some.ensures.items)
    ∙ c.loop-top.invariant

pub returns-after-loop-top : goal.returns-after-loop-top
returns-after-loop-top c =
    sym (down_to-here c.args.indent c.loop-top.top (reverse c.loop-top.outer.items) (not_less_test c.args.indent c.loop-top.top c.loop-top-test.false)) ∙ c.loop-top.invariant

pub returns-in-None : goal.returns-in-None
returns-in-None c =
    let old : c.loop-top.outer.items ≡ [] = nil_from_length c.loop-top.outer.items (grind (arith, common_steps, c.in-None.ensures.len, c.in-None.ensures.variant)) in
    let new : c.pop.new.self.items ≡ [] = sym (append-nil c.pop.new.self.items) ∙ sym c.in-None.ensures.items ∙ old in
    ap (λ xs. (c.loop-top.top, reverse xs)) new ∙ sym (down_to-last c.args.indent c.loop-top.top (reverse c.loop-top.outer.items) (ap reverse old)) ∙ c.loop-top.invariant
