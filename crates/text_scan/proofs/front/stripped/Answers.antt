use Rattle.std.proofs.lemmas.Bool.Decides.{Decides-eqb}
use Rattle.std.proofs.lemmas.Slice.Eq.{strip_prefix_is}
use Rattle.text_scan.proofs.FixedText.{stripped_is}
use Rattle.text_scan.proofs.front.stripped.Goals as goal

pub returns : goal.returns
returns c =
    stripped_is c.args.fixed.now c.args.text.now _ (strip_prefix_is Decides-eqb c.args.text.now c.args.fixed.now _ c.strip_prefix.ensures.cases)
