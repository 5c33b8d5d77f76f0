-- Addresses from numbers of bytes that are cut.
use Rattle.std.proofs.Common.{◌≡◌, ℕ, ◌+◌, ◌*◌, ◌-◌, ◌^◌, min, sym, ap, ◌∙◌, arith}
use Rattle.frag_sem.specs.AddressEnds.{cut}
use Rattle.frag_rules.proofs.Rooms.{cut-sum, cut-times, cut-twice}
use Rattle.frag_index.specs.Walks.{small}
use Rattle.frag_index.proofs.Walking.{small_same, small_sum}

pub small-cut : (start n : ℕ) → small (start + cut n) ≡ small (start + n)
small-cut start n = small_same (start + cut n) (start + n) (λ below. omega (arith, below)) (λ past. omega (arith, past))

sum-cut : (place index size : ℕ) → cut (cut place + index * cut size) ≡ cut (place + index * size)
sum-cut place index size =
    sym (cut-sum (cut place) (index * cut size))
    ∙ (ap (λ n. cut (n + cut (index * cut size))) (cut-twice place)
    ∙ (ap (λ n. cut (cut place + n)) (cut-times index size) ∙ cut-sum place (index * size)))

-- the member of an array whose place and size are cut, in sums that are held at 2^128 - 1
pub small-member : (start place index size : ℕ) → small (start + min (cut place + min (index * cut size) (2 ^ 128 - 1)) (2 ^ 128 - 1)) ≡ small (start + (place + index * size))
small-member start place index size =
    small_sum start (cut place) (index * cut size)
    ∙ (sym (small-cut start (cut place + index * cut size)) ∙ (ap (λ (n : ℕ). small (start + n)) (sum-cut place index size) ∙ small-cut start (place + index * size)))
