use Rattle.svd_rows.proofs.Places.{stated-ranked, stated-set}
use Rattle.svd_rows.proofs.laws.ranks_law.Goals as goal

pub returns : goal.returns
returns g c = record { ranked = stated-ranked; setting = stated-set }
