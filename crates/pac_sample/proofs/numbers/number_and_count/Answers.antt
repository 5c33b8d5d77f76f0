use Rattle.std.proofs.Common.{◌≡◌, ◌↔◌, ℕ, Some, Option, subst, sym}
use Rattle.pac_sample.specs.Wanted.{AreNumbers}
use Rattle.pac_sample.proofs.Readings.{numbers_given-exactly}
use Rattle.pac_sample.proofs.numbers.number_and_count.Goals as goal

pub returns-clause-exactly : goal.returns-clause-exactly
returns-clause-exactly c n count =
    subst (λ (given : Option (ℕ × ℕ)). (given ≡ Some (n, count)) ↔ AreNumbers c.args.number_word.now c.args.count_word.now n count) (sym c.both.ensures) (numbers_given-exactly c.args.number_word.now c.args.count_word.now n count)
