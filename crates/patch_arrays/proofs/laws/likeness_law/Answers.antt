use Rattle.patch_arrays.proofs.Likeness.{alike_alone, alike_itself}
use Rattle.patch_arrays.proofs.laws.likeness_law.Goals as goal

pub returns : goal.returns
returns c = λ one other. (alike_alone one other, alike_itself one other)
