use Rattle.frag_tree.proofs.values_text.push_truth.Goals as goal

pub returns-else-reads : goal.returns-else-reads
returns-else-reads c = rw c.if-reads.false c.push_line-else-reads.ensures
