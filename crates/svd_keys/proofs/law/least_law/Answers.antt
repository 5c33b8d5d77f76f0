use Rattle.svd_keys.proofs.Orders.{least-append}
use Rattle.svd_keys.proofs.Firsts.{least-first}
use Rattle.svd_keys.proofs.law.least_law.Goals as goal

pub returns-clause-first : goal.returns-clause-first
returns-clause-first c = least-first

pub returns-clause-joins : goal.returns-clause-joins
returns-clause-joins c = least-append
