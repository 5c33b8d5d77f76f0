use Rattle.std.proofs.lemmas.Result.{on_ok_weaker}
use Rattle.frag_words.specs.Lines.{fixed}
use Rattle.frag_tree.specs.Phrases.{text_of}
use Rattle.frag_tree.specs.declared.phrase.Phrase.TheVariants as phrase
use Rattle.frag_tree.specs.Registers.{spec_line}
use Rattle.frag_tree.proofs.Printed.{put_line, put_more}
use Rattle.std.proofs.Common.{◌∷◌, []}
use Rattle.frag_tree.proofs.register_text.push_head.Goals as goal

pub returns : goal.returns
returns c =
    let depth = c.args.depth in
    let last = spec_line depth c.args.register.now in
    on_ok_weaker c.push_line-3.result
    (λ e. put_more _ _ _ (fixed depth (text_of phrase.UsePrelude)) (fixed depth (text_of phrase.SpecStruct) ∷ last ∷ []) c.in_ok-push_line.ensures
    (put_more _ _ _ (fixed depth (text_of phrase.SpecStruct)) (last ∷ []) c.in_ok-push_line-2.ensures (put_line _ _ last e)))
    c.push_line-3.ensures
