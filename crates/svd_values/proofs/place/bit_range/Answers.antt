use Rattle.svd_values.proofs.Ranges.{place_exactly}
use Rattle.svd_values.proofs.place.bit_range.Goals as goal

pub returns : goal.returns
returns c = place_exactly c.args.text.now c.read_place.result c.read_place.ensures
