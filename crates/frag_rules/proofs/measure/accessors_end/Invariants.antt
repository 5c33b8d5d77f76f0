use Rattle.std.proofs.Common.{◌≡◌, length}
use Rattle.frag_sem.specs.AddressEnds.{greater}
use Rattle.frag_rules.specs.Insides.{found_inside}
use Rattle.frag_rules.specs.Measures.{accessors_cut, place_found}
use Rattle.frag_rules.specs.Naming.{named_in}
use Rattle.frag_rules.proofs.measure.accessors_end.Given as goal

abbrev pub invariant-loop-first : goal.invariant-loop-first
invariant-loop-first l = greater l.greatest (accessors_cut (named_in l.fields) (place_found l.layout) (found_inside l.inside) l.rest) ≡ accessors_cut (named_in l.fields) (place_found l.layout) (found_inside l.inside) l.fn.accessors

abbrev pub decreases-loop-first : goal.decreases-loop-first
decreases-loop-first l = length l.rest
