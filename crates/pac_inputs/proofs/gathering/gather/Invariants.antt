-- The files before those that are left were read.
use Rattle.std.proofs.Common.{◌≡◌, length}
use Rattle.std.specs.Vec.Iter.{into_iter_items, into_iter_len}
use Rattle.pac_inputs.specs.Shelves.{shelf}
use Rattle.pac_inputs.proofs.GatheredSoFar.{GatheredSoFar}
use Rattle.pac_inputs.proofs.gathering.gather.Given as goal

abbrev pub invariant-loop-file : goal.invariant-loop-file
invariant-loop-file g l =
    GatheredSoFar l.fn.wanted.items (into_iter_items l.file-iterator) l.inputs
    (shelf (g.F.Files.told l.fn.files) (g.F.Files.asked l.fn.files) (g.F.Files.faults l.fn.files))
    (shelf (g.F.Files.told l.files) (g.F.Files.asked l.files) (g.F.Files.faults l.files))
    × (into_iter_len l.file-iterator ≡ length (into_iter_items l.file-iterator))
