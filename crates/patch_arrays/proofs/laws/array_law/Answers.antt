use Rattle.patch_arrays.proofs.Agreeing.{arraying-same}
use Rattle.patch_arrays.proofs.Alike.{peripherals-apart}
use Rattle.patch_arrays.proofs.Bridging.{visited-same}
use Rattle.patch_arrays.proofs.Fewer.{array-shrinks}
use Rattle.patch_arrays.proofs.Keeping.{array-distinct, array-every}
use Rattle.svd_model.specs.Facts.{IsElement, IsPlacedOrDerived}
use Rattle.patch_arrays.proofs.laws.array_law.Goals as goal

pub returns-clause-among_rows : goal.returns-clause-among_rows
returns-clause-among_rows c = λ line pattern name tree distinct. arraying-same line pattern name tree.keys tree.below distinct

pub returns-clause-fewer : goal.returns-clause-fewer
returns-clause-fewer c = array-shrinks

pub returns-clause-elements : goal.returns-clause-elements
returns-clause-elements c = array-every

pub returns-clause-siblings : goal.returns-clause-siblings
returns-clause-siblings c = array-distinct

pub returns-clause-apart : goal.returns-clause-apart
returns-clause-apart c = peripherals-apart

pub returns-clause-bounded : goal.returns-clause-bounded
returns-clause-bounded c = visited-same (IsElement IsPlacedOrDerived)
