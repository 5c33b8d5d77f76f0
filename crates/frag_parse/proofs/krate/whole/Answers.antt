use Rattle.std.proofs.lemmas.Result.{err_from_is_err_and}
use Rattle.frag_words.specs.Words.{words_in}
use Rattle.frag_parse.proofs.CrateSteps.{blocks_refused, opening_refused}
use Rattle.frag_parse.proofs.Told.{whole_done}
use Rattle.frag_parse.proofs.krate.whole.Goals as goal

pub returns-in_err-version : goal.returns-in_err-version
returns-in_err-version c =
    let fault = err_from_is_err_and c.from_residual.result c.from_residual.ensures.1 in
    rw (fault.1, fault.2) (opening_refused (words_in c.args.bytes.now) c.in_err-version.field-0.0 c.in_err-version.ensures)

pub returns-in_err-blocks : goal.returns-in_err-blocks
returns-in_err-blocks c =
    let fault = err_from_is_err_and c.from_residual-in_err-blocks.result c.from_residual-in_err-blocks.ensures.1 in
    rw (fault.1, fault.2) (blocks_refused (words_in c.args.bytes.now) (words_in c.in_ok-version.rest.now) c.in_ok-version.version c.in_ok-version.slots c.in_err-blocks.field-0.0 c.in_ok-version.ensures c.in_err-blocks.ensures)

pub returns : goal.returns
returns c = whole_done (words_in c.args.bytes.now) (words_in c.in_ok-version.rest.now) (record { version = c.in_ok-version.version; slots = c.in_ok-version.slots; blocks = c.in_ok-blocks.blocks; places = c.into_places.result }) c.in_ok-version.ensures c.in_ok-blocks.ensures
