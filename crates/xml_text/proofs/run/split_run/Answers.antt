use Rattle.std.proofs.Common.{arith, ap, ◌-◌, ◌∙◌, List, ℕ, length, take, drop}
use Rattle.text_scan.proofs.Fronts.{length-rest, take-front, drop-front}
use Rattle.xml_text.specs.Bytes.{is_in}
use Rattle.xml_text.proofs.run.split_run.Goals as goal

pub overflow_sub-text : goal.overflow_sub-text
overflow_sub-text c = omega (arith, ap length c.after_run-rest.ensures, length-rest (is_in c.args.run) c.args.text.now)

pub returns-clause-front : goal.returns-clause-front
returns-clause-front c =
    c.split_at.ensures.front ∙ ap (λ (rest : List ℕ). take (length c.args.text.now - length rest) c.args.text.now) c.after_run-rest.ensures ∙ take-front (is_in c.args.run) c.args.text.now

pub returns-clause-rest : goal.returns-clause-rest
returns-clause-rest c =
    c.split_at.ensures.back ∙ ap (λ (rest : List ℕ). drop (length c.args.text.now - length rest) c.args.text.now) c.after_run-rest.ensures ∙ drop-front (is_in c.args.run) c.args.text.now
