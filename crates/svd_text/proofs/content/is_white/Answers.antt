use Rattle.std.proofs.Common.{ℕ, List, ap, ◌∙◌, length, eqb}
use Rattle.text_scan.specs.declared.class.Class.TheVariants.{Blank}
use Rattle.text_scan.specs.Classes.{has}
use Rattle.svd_text.proofs.White.{none_left}
use Rattle.svd_text.proofs.content.is_white.Goals as goal

pub returns : goal.returns
returns c = c.is_empty.ensures ∙ ap (λ (t : List ℕ). eqb (length t) 0) c.after_blanks.ensures ∙ none_left (has Blank) c.args.text.now
