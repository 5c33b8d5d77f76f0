use Rattle.svd_values.proofs.Meanings.{one_index}
use Rattle.svd_values.proofs.meaning.dim_index_has_one_meaning.Goals as goal

pub returns : goal.returns
returns c = one_index c.args.text.now
