use Rattle.std.proofs.Common.{◌≡◌, ◌+◌, ◌≤◌, length, true, arith}
use Rattle.std.specs.Prelude.{option_map}
use Rattle.yaml_block.specs.Lines.{lines_from, lines_left, raw_lines, joined}
use Rattle.yaml_block.proofs.Finding.{taken, refused, done, left_less}
use Rattle.yaml_block.proofs.lines.found_after.Goals as goal

pub returns-then-not-branch : goal.returns-then-not-branch
returns-then-not-branch c =
    let same : joined c.lines.reader.lines (lines_from c.lines.reader.first c.lines.number (raw_lines c.in-Some.left.now)) ≡ lines_from true 1 (raw_lines c.args.text.now) = rw c.in-Some.is at c.lines.invariant.same in
    refused c.lines.reader.lines c.lines.reader.first c.take_in.new.self.lines c.take_in.new.self.first c.lines.number c.split_line.result.0.now c.in-Some.left.now (lines_left (option_map (λ text. text.now) c.split_line.result.1)) (lines_from true 1 (raw_lines c.args.text.now))
    same c.split_line.ensures.lines c.in_ok-take_in.field-0 c.if-not-branch.true c.in_ok-take_in.ensures

pub lines-preserved : goal.lines-preserved
lines-preserved c =
    let same : joined c.lines.reader.lines (lines_from c.lines.reader.first c.lines.number (raw_lines c.in-Some.left.now)) ≡ lines_from true 1 (raw_lines c.args.text.now) = rw c.in-Some.is at c.lines.invariant.same in
    let counted : c.lines.number + (length c.in-Some.left.now + 1) ≤ length c.args.text.now + 2 = rw c.in-Some.is at c.lines.invariant.counted in
    record {
      same = taken c.lines.reader.lines c.lines.reader.first c.take_in.new.self.lines c.take_in.new.self.first c.lines.number c.split_line.result.0.now c.in-Some.left.now (lines_left (option_map (λ text. text.now) c.split_line.result.1)) (lines_from true 1 (raw_lines c.args.text.now))
          same c.split_line.ensures.lines c.in_ok-take_in.field-0 c.if-not-branch.false c.in_ok-take_in.ensures;
      counted = omega (arith, counted, left_less c.split_line.result.1 (length c.in-Some.left.now) c.split_line.ensures.shorter);
    }

pub returns : goal.returns
returns c = done c.lines.reader.lines c.lines.reader.first c.lines.number c.lines.rest (lines_from true 1 (raw_lines c.args.text.now)) c.in_default.is c.lines.invariant.same
