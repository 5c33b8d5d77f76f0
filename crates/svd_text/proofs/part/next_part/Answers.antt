use Rattle.std.proofs.Common.{Err, ap, inl, inr}
use Rattle.text_scan.proofs.Steps.{cases_option}
use Rattle.xml_text.specs.Views.{part_of}
use Rattle.xml_text.specs.Reading.{part_at}
use Rattle.xml_text.proofs.Parts.{part_takes, part_again}
use Rattle.svd_text.specs.Reading.{read_or}
use Rattle.svd_text.proofs.part.next_part.Goals as goal

pub returns-in-Ok-clause-read : goal.returns-in-Ok-clause-read
returns-in-Ok-clause-read c = ap read_or (part_again (part_of c.in-Ok.part) c.args.text.now c.in-Ok.rest.now c.in-Ok.ensures.spelled)

pub returns-in-Err-Syntax-clause-read : goal.returns-in-Err-Syntax-clause-read
returns-in-Err-Syntax-clause-read c =
    elim (cases_option (part_at c.args.text.now)) [
      | inl none ↦ ap read_or none
      | inr some ↦ absurd (c.in-Err-Syntax.ensures.refused (ap Err c.in-Err-Syntax.field-0-is) some.0.0 some.0.1 (part_takes c.args.text.now some.0.0 some.0.1 some.1))
    ]
