-- The name has one more sibling.
use Rattle.std.proofs.Common.{◌≡◌, ◌+◌, ◌<◌, ◌-◌, ◌^◌, ℕ, min, ◌∙◌, arith}
use Rattle.dim_expand.proofs.Growing.{tally_more}
use Rattle.dim_expand.specs.Unfolding.{count_behind}
use Rattle.dim_expand.proofs.tally.Tally.next.Goals as goal

one_more : (number count : ℕ) → number ≡ count → count < 2 ^ 32 - 1 → min (number + 1) (2 ^ 32 - 1) ≡ count + 1
one_more number count is few = omega (arith, is, few)

pub returns-clause-tally : goal.returns-clause-tally
returns-clause-tally c = λ before tallies few.
    tally_more before c.args.self.now.counts.entries c.insert.new.self.entries c.in_ok-copy.field-0 c.args.name c.saturating_add.result tallies c.in_ok-insert.ensures.entries c.in_ok-copy.ensures
    (c.saturating_add.ensures ∙ one_more c.count-number.result (count_behind before c.args.name) (c.count-number.ensures before tallies) few)
