use Rattle.svd_values.specs.Given.{bits_given}
use Rattle.svd_values.proofs.Givens.{bits_given-exactly}
use Rattle.svd_keys.specs.Forms.{bits_of}
use Rattle.svd_keys.proofs.Exactly.{same_by}
use Rattle.svd_keys.proofs.form.bits.Goals as goal

pub returns : goal.returns
unfolding bits_of
returns c = same_by c.value_bits.result (bits_given c.args.text.now) _ c.value_bits.ensures (bits_given-exactly c.args.text.now)
