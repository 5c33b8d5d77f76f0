use Rattle.std.proofs.Common.{◌<◌, sym, subst, length, drop}
use Rattle.std.proofs.lemmas.Result.{err_from_is_err_and}
use Rattle.pac_base.specs.Names.{is_word_byte}
use Rattle.svd_values.proofs.WordLists.{front_at, read_more, read_nothing, no_word, no_comma, shorter, comma_first}
use Rattle.svd_values.proofs.index.words.Goals as goal

pub first_name-requires : goal.first_name-requires
first_name-requires c = (front_at is_word_byte c.words.rest.now c.split_at.result.0.now c.split_at.result.1.now c.word_len.result c.word_len.ensures.count c.split_at.ensures.front c.split_at.ensures.back).begins

pub returns-in_err-first_name : goal.returns-in_err-first_name
returns-in_err-first_name c =
    let p = err_from_is_err_and c.from_residual.result c.from_residual.ensures.1 in
    let front = front_at is_word_byte c.words.rest.now c.split_at.result.0.now c.split_at.result.1.now c.word_len.result c.word_len.ensures.count c.split_at.ensures.front c.split_at.ensures.back in
    rw (p.1, p.2) (λ fault. read_nothing c.args.text.now c.words.words c.words.rest.now c.words.invariant
    (no_word c.words.rest.now c.split_at.result.0.now c.split_at.result.1.now front (c.in_err-first_name.ensures fault)))

pub returns-in_err-behind_comma : goal.returns-in_err-behind_comma
returns-in_err-behind_comma c =
    let p = err_from_is_err_and c.from_residual-in_err-behind_comma.result c.from_residual-in_err-behind_comma.ensures.1 in
    let front = front_at is_word_byte c.words.rest.now c.split_at.result.0.now c.split_at.result.1.now c.word_len.result c.word_len.ensures.count c.split_at.ensures.front c.split_at.ensures.back in
    rw (p.1, p.2) (λ fault. read_nothing c.args.text.now c.words.words c.words.rest.now c.words.invariant
    (no_comma c.words.rest.now c.split_at.result.0.now c.split_at.result.1.now front c.in_err-behind_comma.ensures.1 c.in_err-behind_comma.ensures.2))

pub words-smaller : goal.words-smaller
words-smaller c =
    let front = front_at is_word_byte c.words.rest.now c.split_at.result.0.now c.split_at.result.1.now c.word_len.result c.word_len.ensures.count c.split_at.ensures.front c.split_at.ensures.back in
    let behind = rw c.in-Some.is at c.in_ok-behind_comma.ensures in
    subst (λ text. length text < length c.words.rest.now) (sym behind.0)
    (shorter c.words.rest.now c.split_at.result.0.now c.split_at.result.1.now (drop 1 c.split_at.result.1.now) front (comma_first c.split_at.result.1.now behind.1))

pub words-preserved : goal.words-preserved
words-preserved c =
    let front = front_at is_word_byte c.words.rest.now c.split_at.result.0.now c.split_at.result.1.now c.word_len.result c.word_len.ensures.count c.split_at.ensures.front c.split_at.ensures.back in
    let behind = rw c.in-Some.is at c.in_ok-behind_comma.ensures in
    rw (c.in_ok-push.ensures.ok, c.in_ok-first_name.ensures.0, behind.0)
    (read_more c.args.text.now c.words.words c.words.rest.now c.split_at.result.0.now c.split_at.result.1.now (drop 1 c.split_at.result.1.now) c.words.invariant front c.in_ok-first_name.ensures.1
    (comma_first c.split_at.result.1.now behind.1))
