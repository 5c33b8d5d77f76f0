use Rattle.std.proofs.Common.{ap, not, sym}
use Rattle.std.proofs.lemmas.Result.{err_from_is_err_and}
use Rattle.text_scan.proofs.Lists.{goes_on, is_done}
use Rattle.yaml_block.specs.Scalars.{goes_on as more_of, byte_at, bytes_at}
use Rattle.yaml_block.proofs.Loops.{ends}
use Rattle.yaml_block.proofs.Texts.{byte_shrinks}
use Rattle.yaml_block.proofs.quoted.bytes.Goals as goal

pub returns-in_err-next : goal.returns-in_err-next
returns-in_err-next c =
    let fault = err_from_is_err_and c.from_residual.result c.from_residual.ensures.1 in
    rw (fault.1, fault.2) (ends (more_of c.args.quote) (byte_at c.args.quote) (byte_shrinks c.args.quote) c.in_err-next.field-0.0 c.bytes.bytes.items c.bytes.rest.now (bytes_at c.args.quote c.args.text.now)
    (ap not (sym c.bytes-test.ensures)) c.in_err-next.ensures c.bytes.invariant)

pub bytes-smaller : goal.bytes-smaller
bytes-smaller c = byte_shrinks c.args.quote c.bytes.rest.now (c.in_ok-next.next, c.in_ok-next.after.now) c.in_ok-next.ensures

pub bytes-preserved : goal.bytes-preserved
bytes-preserved c =
    rw c.in_ok-push.ensures.items (goes_on (more_of c.args.quote) (byte_at c.args.quote) (byte_shrinks c.args.quote) c.bytes.bytes.items c.bytes.rest.now c.in_ok-next.next c.in_ok-next.after.now (bytes_at c.args.quote c.args.text.now)
    (ap not (sym c.bytes-test.ensures)) c.in_ok-next.ensures c.bytes.invariant)

pub returns : goal.returns
returns c =
    is_done (more_of c.args.quote) (byte_at c.args.quote) (byte_shrinks c.args.quote) c.bytes.bytes.items c.bytes.rest.now (bytes_at c.args.quote c.args.text.now) (ap not (sym c.bytes-test.ensures)) c.bytes.invariant
