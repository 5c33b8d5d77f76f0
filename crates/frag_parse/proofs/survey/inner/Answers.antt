use Rattle.std.proofs.Common.{arith}
use Rattle.frag_words.specs.Words.{words_in}
use Rattle.frag_parts.specs.Heads.{head_told}
use Rattle.frag_parse.proofs.ModuleSteps.{head_fewer}
use Rattle.frag_parse.proofs.survey.inner.Goals as goal

pub overflow_add-result : goal.overflow_add-result
overflow_add-result c = omega (arith, c.requires, head_fewer (words_in c.args.text.now) (head_told c.in_ok-_head._head) (words_in c.in_ok-_head.rest.now) c.in_ok-_head.ensures)
