-- What the search for overlaps wants is what the kinds before it say.
use Rattle.overlap_check.proofs.FirstFault.{placed}
use Rattle.overlap_check.proofs.telling.overlap.Goals as goal

pub first_overlap-requires-clause-widths : goal.first_overlap-requires-clause-widths
first_overlap-requires-clause-widths c = (placed c.args.device.now c.requires.unfolded c.requires.placed).widths

pub first_overlap-requires-clause-ranges : goal.first_overlap-requires-clause-ranges
first_overlap-requires-clause-ranges c = (placed c.args.device.now c.requires.unfolded c.requires.placed).ranges

pub first_overlap-requires-clause-even : goal.first_overlap-requires-clause-even
first_overlap-requires-clause-even c = (placed c.args.device.now c.requires.unfolded c.requires.placed).even

pub first_overlap-requires-clause-fields : goal.first_overlap-requires-clause-fields
first_overlap-requires-clause-fields c = (placed c.args.device.now c.requires.unfolded c.requires.placed).fields
