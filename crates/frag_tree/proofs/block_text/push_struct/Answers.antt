use Rattle.std.proofs.Common.{◌∷◌, [], map, ◌+◌}
use Rattle.std.proofs.lemmas.Result.{on_ok_weaker}
use Rattle.frag_words.specs.Lines.{fixed, braced}
use Rattle.frag_tree.specs.Phrases.{text_of, says}
use Rattle.frag_tree.specs.declared.phrase.Phrase.TheVariants as phrase
use Rattle.frag_tree.specs.Blocks.{field_line}
use Rattle.frag_tree.proofs.Printed.{put_braced, put_more}
use Rattle.frag_tree.proofs.block_text.push_struct.Goals as goal

pub returns : goal.returns
returns c =
    let depth = c.args.depth in
    let fields = map (field_line (depth + 1)) c.args.fields.now in
    let opening = says phrase.OpensStruct ∷ [] in
    on_ok_weaker c.push_line-3.result
    (λ e. put_more _ _ _ (fixed depth (text_of phrase.ReprC)) (braced depth opening fields) c.in_ok-push_line.ensures
    (put_braced _ _ _ _ depth opening fields c.in_ok-push_line-2.ensures
    (rw (← c.in_ok-deeper.ensures) c.in_ok-push_each.ensures) e))
    c.push_line-3.ensures
