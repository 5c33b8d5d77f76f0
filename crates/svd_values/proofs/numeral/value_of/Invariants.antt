use Rattle.std.proofs.Common.{◌≡◌, ◌<◌, ◌^◌, drop}
use Rattle.svd_values.specs.Readers.{read_on, bounded}
use Rattle.svd_values.proofs.numeral.value_of.Given as goal

abbrev pub invariant-loop-byte : goal.invariant-loop-byte
invariant-loop-byte l = (bounded (read_on l.digits l.value (drop l.byte-index l.text)) ≡ bounded (read_on l.digits 0 l.text)) × (l.value < 2 ^ 64)
