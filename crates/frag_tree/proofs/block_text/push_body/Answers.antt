use Rattle.frag_tree.proofs.block_text.push_body.Goals as goal

pub returns-in-AtIndex : goal.returns-in-AtIndex
returns-in-AtIndex c = rw c.in-AtIndex.is c.push_parts-in-AtIndex.ensures
