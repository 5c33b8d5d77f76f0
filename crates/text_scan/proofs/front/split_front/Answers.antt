use Rattle.std.proofs.Common.{arith, ap, ◌-◌, ◌∙◌, List, ℕ, length, take, drop}
use Rattle.text_scan.specs.Classes.{has}
use Rattle.text_scan.proofs.Fronts.{length-rest, take-front, drop-front}
use Rattle.text_scan.proofs.front.split_front.Goals as goal

pub overflow_sub-text : goal.overflow_sub-text
overflow_sub-text c = omega (arith, ap length c.rest_after-rest.ensures, length-rest (has c.args.class) c.args.text.now)

pub returns-clause-front : goal.returns-clause-front
returns-clause-front c =
    c.split_at.ensures.front ∙ ap (λ (rest : List ℕ). take (length c.args.text.now - length rest) c.args.text.now) c.rest_after-rest.ensures ∙ take-front (has c.args.class) c.args.text.now

pub returns-clause-rest : goal.returns-clause-rest
returns-clause-rest c =
    c.split_at.ensures.back ∙ ap (λ (rest : List ℕ). drop (length c.args.text.now - length rest) c.args.text.now) c.rest_after-rest.ensures ∙ drop-front (has c.args.class) c.args.text.now
