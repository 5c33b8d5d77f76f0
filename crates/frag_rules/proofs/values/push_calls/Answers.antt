use Rattle.frag_rules.proofs.Keys.{calls-both}
use Rattle.frag_rules.proofs.Results.{on_ok}
use Rattle.frag_rules.proofs.values.push_calls.Goals as goal

pub returns : goal.returns
returns c =
    on_ok c.push_numbers.result _ _ (λ more. calls-both _ c.args.block.now _ _ _ _ _ c.key_of_values-on.ensures c.truths_of.ensures c.numbers_of.ensures c.in_ok-push_truths.ensures more) c.push_numbers.ensures
