use Rattle.std.proofs.Common.{◌∷◌, [], length, ap, sym, arith}
use Rattle.std.proofs.lemmas.List.{length-append}
use Rattle.text_scan.proofs.FixedText.{stripped-Some}
use Rattle.yaml_block.proofs.lines.unmarked.Goals as goal

pub returns-in-Some-clause-no_longer : goal.returns-in-Some-clause-no_longer
returns-in-Some-clause-no_longer c =
    omega (arith, ap length (stripped-Some (239 ∷ 187 ∷ 191 ∷ []) c.args.bytes.now c.in-Some.rest.now (sym c.in-Some.ensures)), length-append (239 ∷ 187 ∷ 191 ∷ []) c.in-Some.rest.now)
