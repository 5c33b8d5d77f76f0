use Rattle.xml_text.proofs.Answering.{is_spelled, is_shorter, is_refused, is_found}
use Rattle.xml_text.proofs.part.split_part.Goals as goal

pub returns-clause-spelled : goal.returns-clause-spelled
returns-clause-spelled c = is_spelled c.args.text.now _ c.next_part.ensures

pub returns-clause-refused : goal.returns-clause-refused
returns-clause-refused c = is_refused c.args.text.now _ c.next_part.ensures

pub returns-clause-found : goal.returns-clause-found
returns-clause-found c = is_found c.args.text.now _ c.next_part.ensures

pub returns-clause-shorter : goal.returns-clause-shorter
returns-clause-shorter c = is_shorter c.args.text.now _ c.next_part.ensures
