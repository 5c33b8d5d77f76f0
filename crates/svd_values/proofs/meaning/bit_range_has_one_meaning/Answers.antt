use Rattle.svd_values.proofs.Meanings.{one_place}
use Rattle.svd_values.proofs.meaning.bit_range_has_one_meaning.Goals as goal

pub returns : goal.returns
returns c = one_place c.args.text.now
