use Rattle.svd_keys.specs.Forms.{access_of}
use Rattle.svd_keys.proofs.Exactly.{same_by, access-exactly}
use Rattle.patch_settings.proofs.form.access.Goals as goal

pub returns : goal.returns
returns c = same_by c.access_word.result (access_of c.args.text.now) _ c.access_word.ensures (access-exactly c.args.text.now)
