use Rattle.svd_text.proofs.OneText.{one_text}
use Rattle.svd_text.proofs.text.one_element.Goals as goal

pub returns : goal.returns
returns c = one_text
