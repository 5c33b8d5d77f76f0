use Rattle.crate_fits.proofs.Crates.{checked_crates_fit, crates_fit}
use Rattle.crate_fits.proofs.laws.fits_law.Goals as goal

pub returns : goal.returns
returns c = record { checked = checked_crates_fit; trees = crates_fit }
