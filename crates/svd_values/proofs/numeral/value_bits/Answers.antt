use Rattle.std.proofs.Common.{ap, ◌∙◌}
use Rattle.svd_values.specs.declared.numeral.Digits.TheVariants.{BinaryOrAny}
use Rattle.svd_values.specs.Readers.{bounded, read_number, read_unsigned}
use Rattle.svd_values.proofs.Spelling.{number_exactly}
use Rattle.svd_values.proofs.numeral.value_bits.Goals as goal

pub returns : goal.returns
unfolding read_number
returns c = number_exactly BinaryOrAny c.args.text.now c.unsigned.result (c.unsigned.ensures ∙ ap (λ text. bounded (read_unsigned BinaryOrAny text)) c.without_plus.ensures)
