-- One part after the other.
use Rattle.std.proofs.Common.{◌++◌, ap, sym, ◌∙◌}
use Rattle.std.proofs.lemmas.List.{append-nil}
use Rattle.pac_sample.proofs.Numbered.{parts-next, parts-none}
use Rattle.pac_sample.proofs.parts.push_parts.Goals as goal

pub loop-number-preserved : goal.loop-number-preserved
loop-number-preserved g c =
    parts-next (g.P.Parts.part c.args.parts.now) c.loop-number.number c.args.end c.loop-number.page c.push_part.new.page c.loop-number-test.true c.in_ok-push_part.ensures
    ∙ c.loop-number.invariant

pub returns : goal.returns
returns g c =
    sym (append-nil c.loop-number.page)
    ∙ (sym (ap (λ left. c.loop-number.page ++ left) (parts-none (g.P.Parts.part c.args.parts.now) c.loop-number.number c.args.end c.loop-number-test.false)) ∙ c.loop-number.invariant)
