use Rattle.glob_select.proofs.Alternatives.{pattern_again}
use Rattle.patch_form.proofs.naming.pattern_or_none.Goals as goal

pub returns-in-Ok : goal.returns-in-Ok
returns-in-Ok c = ((pattern_again c.in-Ok.pattern c.args.text.now c.in-Ok.ensures.spelled).1, (c.in-Ok.pattern, c.in-Ok.ensures.spelled))
