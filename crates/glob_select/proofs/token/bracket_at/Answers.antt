use Rattle.std.proofs.Common.{length, sym, ap, arith}
use Rattle.std.proofs.lemmas.List.{length-append}
use Rattle.text_scan.proofs.FixedText.{stripped-Some}
use Rattle.glob_select.specs.Spelling.{mark_inside}
use Rattle.glob_select.proofs.Items.{class_shorter}
use Rattle.glob_select.proofs.token.bracket_at.Goals as goal

pub returns-in-Some-clause-shorter : goal.returns-in-Some-clause-shorter
returns-in-Some-clause-shorter c =
    omega (arith, ap length (stripped-Some mark_inside c.args.text.now c.in-Some.rest.now (sym c.in-Some.ensures)), length-append mark_inside c.in-Some.rest.now)

pub returns-in-None-clause-shorter : goal.returns-in-None-clause-shorter
returns-in-None-clause-shorter c = class_shorter c.args.text.now c.class_at.result (sym c.in-None.ensures) c.class_at.ensures
