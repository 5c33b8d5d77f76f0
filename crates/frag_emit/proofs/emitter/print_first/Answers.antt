use Rattle.std.proofs.Common.{◌∙◌}
use Rattle.std.proofs.lemmas.Result.{err_from_is_err_and}
use Rattle.crate_form.specs.Crates.{emitted}
use Rattle.frag_tree.specs.Crates.{head_text}
use Rattle.pac_io.proofs.WrittenUpTo.{none_written}
use Rattle.frag_emit.proofs.Printing.{head-is, head-valid, prefix-of}
use Rattle.frag_emit.proofs.emitter.print_first.Goals as goal

pub returns-in_err-slots-clause-part : goal.returns-in_err-slots-clause-part
returns-in_err-slots-clause-part g c =
    let p = err_from_is_err_and c.from_residual.result c.from_residual.ensures.1 in rw p.1 (none_written _ _)

pub returns-in_err-print_head-clause-part : goal.returns-in_err-print_head-clause-part
returns-in_err-print_head-clause-part g c =
    let p = err_from_is_err_and c.from_residual-in_err-print_head.result c.from_residual-in_err-print_head.ensures.1 in
    rw p.1 (prefix-of (emitted c.args.state.now) 0 (head_text c.crate_version.result c.as_slice.result.now) (head-is c.args.state.now c.crate_version.result c.as_slice.result.now c.crate_version.ensures (c.as_slice.ensures ∙ c.in_ok-slots.ensures.form)) c.in_err-print_head.ensures.growth)

pub returns-clause-part : goal.returns-clause-part
returns-clause-part g c =
    let slots = c.as_slice.ensures ∙ c.in_ok-slots.ensures.form in
    record {
      bytes = head_text c.crate_version.result c.as_slice.result.now;
      is = head-is c.args.state.now c.crate_version.result c.as_slice.result.now c.crate_version.ensures slots;
      valid = head-valid c.args.state.now c.as_slice.result.now slots (rw c.as_slice.ensures c.in_ok-slots.ensures.valid);
      appended = c.in_ok-print_head.ensures.growth;
    }
