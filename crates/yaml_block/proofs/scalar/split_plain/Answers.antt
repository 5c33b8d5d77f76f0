use Rattle.std.proofs.Common.{arith, ap, ◌-◌, ◌∙◌, List, ℕ, length, take, drop}
use Rattle.yaml_block.proofs.Texts.{plain_rest_fits, take-plain, drop-plain}
use Rattle.yaml_block.proofs.scalar.split_plain.Goals as goal

pub overflow_sub-text : goal.overflow_sub-text
overflow_sub-text c = omega (arith, ap length c.plain_rest-rest.ensures, plain_rest_fits c.args.place c.args.text.now)

pub returns-clause-front : goal.returns-clause-front
returns-clause-front c =
    c.split_at.ensures.front ∙ ap (λ (rest : List ℕ). take (length c.args.text.now - length rest) c.args.text.now) c.plain_rest-rest.ensures ∙ take-plain c.args.place c.args.text.now

pub returns-clause-rest : goal.returns-clause-rest
returns-clause-rest c =
    c.split_at.ensures.back ∙ ap (λ (rest : List ℕ). drop (length c.args.text.now - length rest) c.args.text.now) c.plain_rest-rest.ensures ∙ drop-plain c.args.place c.args.text.now
