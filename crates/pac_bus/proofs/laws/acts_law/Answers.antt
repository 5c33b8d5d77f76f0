use Rattle.pac_bus.proofs.Acting.{free_stays, zeros_stay, kept_in_turn, fits_each}
use Rattle.pac_bus.proofs.laws.acts_law.Goals as goal

pub returns-clause-stay : goal.returns-clause-stay
returns-clause-stay c = record { free = free_stays; zeros = zeros_stay }

pub returns-clause-turn : goal.returns-clause-turn
returns-clause-turn c = kept_in_turn

pub returns-clause-fits : goal.returns-clause-fits
returns-clause-fits c = fits_each
