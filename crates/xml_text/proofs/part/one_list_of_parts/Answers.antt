use Rattle.xml_text.proofs.Parts.{one_list}
use Rattle.xml_text.proofs.part.one_list_of_parts.Goals as goal

pub returns : goal.returns
returns c = one_list
