use Rattle.frag_sem.proofs.Placing.{behind_gap, behind_end, ends_grow, fields_apart, fields_aligned, size_reaches}
use Rattle.frag_sem.proofs.laws.layout_law.Goals as goal

pub returns-clause-behind_gap : goal.returns-clause-behind_gap
returns-clause-behind_gap c = behind_gap

pub returns-clause-behind_end : goal.returns-clause-behind_end
returns-clause-behind_end c = behind_end

pub returns-clause-apart : goal.returns-clause-apart
returns-clause-apart c = fields_apart

pub returns-clause-aligned : goal.returns-clause-aligned
returns-clause-aligned c = fields_aligned

pub returns-clause-grows : goal.returns-clause-grows
returns-clause-grows c = ends_grow

pub returns-clause-size : goal.returns-clause-size
returns-clause-size c = size_reaches
