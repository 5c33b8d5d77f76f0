use Rattle.svd_values.specs.declared.numeral.Digits.TheVariants.{Binary}
use Rattle.svd_values.proofs.Meanings.{one_number}
use Rattle.svd_values.proofs.meaning.number_has_one_meaning.Goals as goal

pub returns : goal.returns
returns c = one_number Binary c.args.text.now
