use Rattle.std.proofs.Common.{refl}
use Rattle.svd_values.specs.Readers.{read_place}
use Rattle.svd_values.proofs.Ranges.{place_exactly}
use Rattle.svd_keys.specs.Forms.{range_of}
use Rattle.svd_keys.proofs.Exactly.{same_by}
use Rattle.patch_settings.proofs.form.range.Goals as goal

pub returns : goal.returns
unfolding range_of
returns c = same_by c.bit_range.result (read_place c.args.text.now) _ c.bit_range.ensures (place_exactly c.args.text.now (read_place c.args.text.now) refl)
