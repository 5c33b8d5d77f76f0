use Rattle.std.proofs.Common.{◌∷◌, [], map, ◌+◌}
use Rattle.std.proofs.lemmas.Result.{on_ok_weaker}
use Rattle.frag_tree.specs.Phrases.{says}
use Rattle.frag_tree.specs.declared.phrase.Phrase.TheVariants as phrase
use Rattle.frag_tree.specs.Blocks.{access_line}
use Rattle.frag_tree.proofs.Printed.{put_braced}
use Rattle.frag_tree.proofs.block_text.push_accessors.Goals as goal

pub returns : goal.returns
returns c =
    let depth = c.args.depth in
    on_ok_weaker c.push_line-2.result
    (λ e. put_braced _ _ _ _ depth (says phrase.BlockImpl ∷ []) (map (access_line (depth + 1)) c.args.accessors.now) c.in_ok-push_line.ensures
    (rw (← c.in_ok-deeper.ensures) c.in_ok-push_each.ensures) e)
    c.push_line-2.ensures
