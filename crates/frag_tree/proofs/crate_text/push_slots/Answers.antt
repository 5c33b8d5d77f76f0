use Rattle.std.proofs.Common.{◌∷◌, [], map}
use Rattle.std.proofs.lemmas.Result.{on_ok_weaker}
use Rattle.frag_words.specs.Lines.{braced, empty_line}
use Rattle.frag_tree.specs.Phrases.{says}
use Rattle.frag_tree.specs.declared.phrase.Phrase.TheVariants as phrase
use Rattle.frag_tree.specs.Blocks.{prelude_line}
use Rattle.frag_tree.specs.Crates.{slot_line}
use Rattle.frag_tree.proofs.Printed.{put_more, put_braced}
use Rattle.frag_tree.proofs.crate_text.push_slots.Goals as goal

pub returns : goal.returns
returns c =
    let opening = says phrase.OpensPeripherals ∷ [] in
    let slots = map (slot_line 1) c.args.slots.now in
    on_ok_weaker c.push_line-4.result
    (λ e. put_more _ _ _ (prelude_line 0) (empty_line ∷ braced 0 opening slots) c.in_ok-push_line.ensures
    (put_more _ _ _ empty_line (braced 0 opening slots) c.in_ok-push_line-2.ensures
    (put_braced _ _ _ _ 0 opening slots c.in_ok-push_line-3.ensures c.in_ok-push_each.ensures e)))
    c.push_line-4.ensures
