use Rattle.std.proofs.Common.{◌≡◌, length}
use Rattle.frag_words.specs.Words.{words_in}
use Rattle.frag_token.specs.Reading.{begins_at, many_at}
use Rattle.frag_token.proofs.Lists.{joined}
use Rattle.frag_token.proofs.list.many.Given as goal

abbrev pub invariant-loop-alloc : goal.invariant-loop-alloc
invariant-loop-alloc g l =
    joined l.items (many_at (begins_at l.begins) (g.P.Production.reading l.production).read (words_in l.rest)) ≡ many_at (begins_at l.begins) (g.P.Production.reading l.production).read (words_in l.text)

abbrev pub decreases-loop-alloc : goal.decreases-loop-alloc
decreases-loop-alloc g l = length (words_in l.rest)
