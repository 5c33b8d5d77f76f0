use Rattle.svd_values.specs.declared.numeral.Digits.TheVariants.{BinaryOrAny}
use Rattle.svd_values.proofs.Meanings.{one_number}
use Rattle.svd_values.proofs.meaning.value_bits_has_one_meaning.Goals as goal

pub returns : goal.returns
returns c = one_number BinaryOrAny c.args.text.now
