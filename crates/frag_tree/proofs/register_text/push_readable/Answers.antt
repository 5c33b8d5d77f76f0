use Rattle.frag_words.specs.Lines.{fixed}
use Rattle.frag_tree.specs.Phrases.{text_of}
use Rattle.frag_tree.specs.declared.phrase.Phrase.TheVariants as phrase
use Rattle.frag_tree.proofs.Printed.{put_line}
use Rattle.frag_tree.proofs.register_text.push_readable.Goals as goal

pub returns-in_ok-push_line : goal.returns-in_ok-push_line
returns-in_ok-push_line c = rw c.if-readable.true (put_line _ _ (fixed c.args.depth (text_of phrase.ReadableImpl)) c.in_ok-push_line.ensures)
