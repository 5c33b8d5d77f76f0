use Rattle.std.proofs.Common.{sym, ◌∙◌}
use Rattle.svd_text.specs.Views.{element_of}
use Rattle.svd_keys.specs.WrittenNames.{is_sibling, written_name, sibling_name}
use Rattle.svd_keys.proofs.WrittenNames.{kept-none, kept-passed, kept-failed}
use Rattle.svd_keys.proofs.written.sibling_name.Goals as goal

pub returns-in-None-clause-text : goal.returns-in-None-clause-text
unfolding sibling_name
returns-in-None-clause-text c = kept-none (is_sibling c.args.container) (written_name (element_of c.args.element.now)) c.in-None.ensures.text

pub returns-then-is_sibling-clause-text : goal.returns-then-is_sibling-clause-text
unfolding sibling_name
returns-then-is_sibling-clause-text c =
    kept-passed (is_sibling c.args.container) (written_name (element_of c.args.element.now)) c.in-Some.written.text.now c.in-Some.ensures.text (sym c.is_sibling.ensures ∙ c.if-is_sibling.true)

pub returns-else-is_sibling-clause-text : goal.returns-else-is_sibling-clause-text
unfolding sibling_name
returns-else-is_sibling-clause-text c =
    kept-failed (is_sibling c.args.container) (written_name (element_of c.args.element.now)) c.in-Some.written.text.now c.in-Some.ensures.text (sym c.is_sibling.ensures ∙ c.if-is_sibling.false)
