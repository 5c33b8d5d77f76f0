use Rattle.rust_names.proofs.TakenNames.{ends_low, free_of_both, no_marker, none_reserved}
use Rattle.rust_names.proofs.laws.taken_law.Goals as goal

pub returns : goal.returns
returns c = record { ends = ends_low; markers = no_marker; reserved = none_reserved; both = free_of_both }
