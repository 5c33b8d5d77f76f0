use Rattle.std.proofs.Common.{◌∙◌, ap, sym, arith, Some, ℕ, List}
use Rattle.frag_script.specs.Reading.{negations, after_negations}
use Rattle.frag_script.specs.Tokens.{Token, tokens_in}
use Rattle.frag_script.proofs.Negations.{negation_passed, negations_end, counted_more, counted_all}
use Rattle.frag_script.proofs.value.split_negations.Goals as goal

pub loop-after-smaller : goal.loop-after-smaller
loop-after-smaller c = (negation_passed (tokens_in c.loop-after.rest.now) (tokens_in c.in-Some.after.now) c.in-Some.ensures).shorter

pub loop-after-preserved : goal.loop-after-preserved
loop-after-preserved c =
    let more = negation_passed (tokens_in c.loop-after.rest.now) (tokens_in c.in-Some.after.now) c.in-Some.ensures in (
      counted_more c.loop-after.count c.in-Some-checked_add.more (negations (tokens_in c.args.text.now)) (tokens_in c.loop-after.rest.now) (tokens_in c.in-Some.after.now) c.in-Some.ensures (omega arith) c.loop-after.invariant.0,
      sym more.passed ∙ c.loop-after.invariant.1,
    )

pub returns : goal.returns
returns c =
    let end = negations_end (tokens_in c.loop-after.rest.now) c.in_default.ensures in
    ap (λ (count : ℕ). Some (count, after_negations (tokens_in c.args.text.now))) (counted_all c.loop-after.count (negations (tokens_in c.args.text.now)) (tokens_in c.loop-after.rest.now) c.in_default.ensures c.loop-after.invariant.0)
    ∙ ap (λ (rest : List Token). Some (c.loop-after.count, rest)) (sym c.loop-after.invariant.1 ∙ end.1)
