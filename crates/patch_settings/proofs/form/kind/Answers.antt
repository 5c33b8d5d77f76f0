use Rattle.svd_keys.specs.Forms.{kind_of}
use Rattle.svd_keys.proofs.Exactly.{same_by, kind-exactly}
use Rattle.patch_settings.proofs.form.kind.Goals as goal

pub returns : goal.returns
returns c = same_by c.write_kind.result (kind_of c.args.text.now) _ c.write_kind.ensures (kind-exactly c.args.text.now)
