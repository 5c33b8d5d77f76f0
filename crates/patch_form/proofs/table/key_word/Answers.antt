use Rattle.std.proofs.Common.{◌∙◌}
use Rattle.patch_form.proofs.Coding.{word-none, word-some}
use Rattle.patch_form.proofs.table.key_word.Goals as goal

pub returns-in-None : goal.returns-in-None
returns-in-None c = c.other_word.ensures ∙ word-none c.args.key.now c.word_code.result c.word_code.ensures c.in-None.is

pub returns-in-Some : goal.returns-in-Some
returns-in-Some c = c.word_at.ensures ∙ word-some c.args.key.now c.word_code.result c.in-Some.code c.word_code.ensures c.in-Some.is
