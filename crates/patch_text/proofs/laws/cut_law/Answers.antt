use Rattle.std.proofs.Common.{List, ℕ, subst}
use Rattle.patch_text.specs.CutLines.{AreLines}
use Rattle.patch_text.proofs.CutLines.{lines_again, lines_take}
use Rattle.patch_text.proofs.laws.cut_law.Goals as goal

pub returns : goal.returns
returns c text lines = (λ e. subst (λ (l : List (List ℕ)). AreLines l text) e (lines_take text), lines_again lines text)
