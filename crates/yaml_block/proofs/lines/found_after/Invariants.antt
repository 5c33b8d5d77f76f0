use Rattle.std.proofs.Common.{◌≡◌, ◌+◌, ◌≤◌, true, length}
use Rattle.std.specs.Prelude.{option_map}
use Rattle.yaml_block.specs.Lines.{joined, lines_from, lines_left, raw_lines}
use Rattle.yaml_block.proofs.Cutting.{left}
use Rattle.yaml_block.proofs.lines.found_after.Given as goal

abbrev pub invariant-lines : goal.invariant-lines
invariant-lines l = record {
  same : joined l.reader.lines (lines_from l.reader.first l.number (lines_left (option_map (λ text. text.now) l.rest))) ≡ lines_from true 1 (raw_lines l.text);
  counted : l.number + left (option_map (λ text. text.now) l.rest) ≤ length l.text + 2;
}

abbrev pub decreases-lines : goal.decreases-lines
decreases-lines l = left (option_map (λ text. text.now) l.rest)
