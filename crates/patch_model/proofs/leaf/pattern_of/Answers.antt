use Rattle.std.proofs.Common.{ap, ◌∙◌}
use Rattle.glob_select.specs.Reading.{alternatives_of}
use Rattle.glob_select.proofs.Alternatives.{pattern_again}
use Rattle.patch_model.proofs.leaf.pattern_of.Goals as goal

pub returns-in-Ok : goal.returns-in-Ok
returns-in-Ok c = (pattern_again c.in-Ok.pattern c.as_bytes.result.now c.in-Ok.ensures.spelled).1 ∙ ap alternatives_of (c.as_bytes.ensures.value ∙ c.as_str.ensures)
