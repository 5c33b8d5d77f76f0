use Rattle.derived_rows.proofs.OneFault.{no_fault, one_fault}
use Rattle.derived_rows.proofs.laws.fault_law.Goals as goal

pub returns : goal.returns
returns c = λ all. record { one = one_fault all; none = no_fault all }
