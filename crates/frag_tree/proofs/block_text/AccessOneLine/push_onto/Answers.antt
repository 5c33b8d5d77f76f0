use Rattle.std.proofs.Common.{◌∷◌, []}
use Rattle.std.proofs.lemmas.Result.{on_ok_weaker}
use Rattle.frag_words.specs.Lines.{word, line_text}
use Rattle.frag_tree.specs.Phrases.{text_of, says, receiver}
use Rattle.frag_tree.specs.declared.phrase.Phrase.TheVariants as phrase
use Rattle.frag_tree.specs.Blocks.{element_pieces, body_pieces}
use Rattle.frag_tree.specs.Parts.{spaces}
use Rattle.frag_tree.proofs.Printed.{put_access}
use Rattle.frag_tree.proofs.block_text.AccessOneLine.push_onto.Goals as goal

pub returns : goal.returns
unfolding line_text
returns c =
    let access = c.args.self.now in
    on_ok_weaker c.push-2.result
    (λ e. put_access (spaces c.args.depth) (says phrase.PubFn ∷ word access.name ∷ says (receiver access.is_indexed) ∷ says phrase.Reference ∷ []) (element_pieces access.element) (body_pieces access.body) (text_of phrase.OpensBody) _ _ _ _ _ _ _
    c.in_ok-push_indent.ensures (rw (← c.receiver.ensures) c.in_ok-push_parts.ensures) c.in_ok-push_element.ensures (rw (← c.text.ensures) c.in_ok-push.ensures.ok) c.in_ok-push_body.ensures e)
    c.push-2.ensures.ok
