use Rattle.svd_model.proofs.Nesting.{holding-nested}
use Rattle.svd_model.proofs.props.properties_law.Goals as goal

pub returns : goal.returns
returns c = holding-nested
