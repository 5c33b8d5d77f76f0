use Rattle.frag_index.proofs.index.Index.behind.Goals as goal

pub returns-clause-same : goal.returns-clause-same
returns-clause-same c = c.found_behind.ensures.same

pub returns-clause-numbered : goal.returns-clause-numbered
returns-clause-numbered c = c.found_behind.ensures.numbered
