use Rattle.std.proofs.Common.{List, ap, ◌≡◌, ◌+◌, arith, length, refl}
use Rattle.std.proofs.lemmas.Result.{err_from_is_err_and}
use Rattle.frag_tree.specs.declared.script.ScriptLine.{ScriptLine}
use Rattle.frag_script.specs.Reading.{outcome, lines_at, lines_left, script_at}
use Rattle.frag_script.specs.ScriptLines.{lines_of}
use Rattle.frag_script.proofs.Scripts.{left_now, lines_fit, lines_some, lines_here, lines_over, line_kept, line_free, line_fails, no_lines}
use Rattle.frag_script.proofs.script.statements.Goals as goal

pub loop-left-init : goal.loop-left-init
unfolding script_at
loop-left-init c = record {
  read = ap (λ (kept : List ScriptLine). outcome kept 0 (lines_at 1 (lines_of c.args.bytes.now))) c.new.ensures;
  fits = omega (arith, lines_fit c.args.bytes.now);
  counted = omega arith;
}

pub overflow_add-line : goal.overflow_add-line
overflow_add-line c =
    let some : length (lines_left (left_now c.loop-left.left)) ≡ length (lines_of c.in-Some.text.now) = ap length (lines_here c.loop-left.left c.in-Some.text (lines_of c.in-Some.text.now) c.in-Some.is refl) in
    omega (arith, c.loop-left.invariant.fits, some, lines_some c.in-Some.text.now, c.requires)

pub returns-in_err-statement-clause-refused : goal.returns-in_err-statement-clause-refused
returns-in_err-statement-clause-refused c =
    let fault = err_from_is_err_and c.from_residual.result c.from_residual.ensures.1 in
    rw (fault.1, fault.2) (line_fails c.in_err-statement.field-0.0 c.loop-left.met.kept c.loop-left.met.count (c.loop-left.line + 1) c.split_line.result.0.now (lines_left (left_now c.split_line.result.1)) (lines_left (left_now c.loop-left.left)) (script_at c.args.bytes.now) c.in_err-statement.ensures (lines_here c.loop-left.left c.in-Some.text _ c.in-Some.is c.split_line.ensures) c.loop-left.invariant.read)

pub keep-requires : goal.keep-requires
keep-requires c = omega (arith, c.loop-left.invariant.fits, c.loop-left.invariant.counted, c.requires)

pub loop-left-smaller-in_ok-keep : goal.loop-left-smaller-in_ok-keep
loop-left-smaller-in_ok-keep c = omega (arith, ap length (lines_here c.loop-left.left c.in-Some.text _ c.in-Some.is c.split_line.ensures))

pub loop-left-smaller : goal.loop-left-smaller
loop-left-smaller c = omega (arith, ap length (lines_here c.loop-left.left c.in-Some.text _ c.in-Some.is c.split_line.ensures))

pub loop-left-preserved-in_ok-keep : goal.loop-left-preserved-in_ok-keep
loop-left-preserved-in_ok-keep c =
    let whole = lines_here c.loop-left.left c.in-Some.text _ c.in-Some.is c.split_line.ensures in
    record {
      read = line_kept c.loop-left.met.kept c.keep.new.self.kept c.loop-left.met.count c.keep.new.self.count (c.loop-left.line + 1) c.split_line.result.0.now (lines_left (left_now c.split_line.result.1)) (lines_left (left_now c.loop-left.left)) c.in_ok-statement.field-0 c.in-Some-2.statement (script_at c.args.bytes.now) whole c.in_ok-statement.ensures c.in-Some-2.is c.in_ok-keep.ensures.met c.loop-left.invariant.read;
      fits = omega (arith, ap length whole, c.loop-left.invariant.fits);
      counted = omega (arith, c.in_ok-keep.ensures.counted, c.loop-left.invariant.counted);
    }

pub loop-left-preserved : goal.loop-left-preserved
loop-left-preserved c =
    let whole = lines_here c.loop-left.left c.in-Some.text _ c.in-Some.is c.split_line.ensures in
    record {
      read = line_free c.loop-left.met.kept c.loop-left.met.count (c.loop-left.line + 1) c.split_line.result.0.now (lines_left (left_now c.split_line.result.1)) (lines_left (left_now c.loop-left.left)) c.in_ok-statement.field-0 (script_at c.args.bytes.now) whole c.in_ok-statement.ensures c.in_default-2.is c.loop-left.invariant.read;
      fits = omega (arith, ap length whole, c.loop-left.invariant.fits);
      counted = omega (arith, c.loop-left.invariant.counted);
    }

pub returns-clause-ok : goal.returns-clause-ok
returns-clause-ok c =
    no_lines c.loop-left.met.kept c.loop-left.met.count (c.loop-left.line + 1) (lines_left (left_now c.loop-left.left)) (script_at c.args.bytes.now) (lines_over c.loop-left.left c.in_default.is) c.loop-left.invariant.read
