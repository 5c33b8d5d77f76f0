use Rattle.std.proofs.Common.{length}
use Rattle.svd_values.proofs.WordLists.{IsReadTo}
use Rattle.svd_values.proofs.index.words.Given as goal

abbrev pub invariant-words : goal.invariant-words
invariant-words l = IsReadTo l.fn.text l.words l.rest

abbrev pub decreases-words : goal.decreases-words
decreases-words l = length l.rest
