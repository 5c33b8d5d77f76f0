use Rattle.std.proofs.Common.{subst}
use Rattle.derive_order.proofs.Told.{missing_told}
use Rattle.derive_sources.specs.Missing.{IsMissing}
use Rattle.derive_order.proofs.judging.missing_of.Goals as goal

pub returns-in-Missing : goal.returns-in-Missing
returns-in-Missing g c = missing_told g.all c.in-Missing.number (subst (IsMissing g.all) c.in-Missing.is c.requires)
