use Rattle.std.proofs.Common.{◌≡◌, length}
use Rattle.text_scan.proofs.Lists.{with_front}
use Rattle.yaml_block.specs.Scalars.{bytes_at}
use Rattle.yaml_block.proofs.quoted.bytes.Given as goal

abbrev pub invariant-bytes : goal.invariant-bytes
invariant-bytes l = with_front l.bytes.items (bytes_at l.quote l.rest) ≡ bytes_at l.quote l.text

abbrev pub decreases-bytes : goal.decreases-bytes
decreases-bytes l = length l.rest
