use Rattle.std.proofs.Common.{◌∷◌, [], map, ◌+◌}
use Rattle.std.proofs.lemmas.Result.{on_ok_weaker}
use Rattle.frag_tree.specs.Phrases.{says}
use Rattle.frag_tree.specs.declared.phrase.Phrase.TheVariants as phrase
use Rattle.frag_tree.specs.Registers.{reader_line}
use Rattle.frag_tree.proofs.Printed.{put_braced}
use Rattle.frag_tree.proofs.register_text.push_readers.Goals as goal

pub returns-in_ok-push_each-in-Some : goal.returns-in_ok-push_each-in-Some
returns-in_ok-push_each-in-Some c =
    let depth = c.args.depth in
    rw c.in-Some.is (on_ok_weaker c.push_line-in-Some.result
    (λ e. put_braced _ _ _ _ depth (says phrase.ReadersImpl ∷ []) (map (reader_line (depth + 1)) c.in-Some.readers) c.in_ok-push_line-in-Some.ensures
    (rw (← c.in_ok-deeper-in-Some.ensures, ← c.as_slice.ensures) c.in_ok-push_each-in-Some.ensures) e)
    c.push_line-in-Some.ensures)
