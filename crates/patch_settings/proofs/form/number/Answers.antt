use Rattle.svd_values.specs.Given.{number_given}
use Rattle.svd_values.proofs.Givens.{number_given-exactly}
use Rattle.svd_keys.specs.Forms.{number_of}
use Rattle.svd_keys.proofs.Exactly.{same_by}
use Rattle.patch_settings.proofs.form.number.Goals as goal

pub returns : goal.returns
unfolding number_of
returns c = same_by c.number.result (number_given c.args.text.now) _ c.number.ensures (number_given-exactly c.args.text.now)
