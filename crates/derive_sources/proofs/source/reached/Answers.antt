use Rattle.std.proofs.Common.{◌∙◌, map, length, sym, ap, arith}
use Rattle.derive_sources.specs.Entries.{plain, kind_of}
use Rattle.derive_sources.specs.Numbers.{path_at}
use Rattle.derive_sources.proofs.Seats.{reached_nothing, reached_by}
use Rattle.derive_sources.proofs.source.reached.Goals as goal

pub returns-in_default : goal.returns-in_default
returns-in_default g c = sym (reached_nothing g.all (map plain c.args.entries.now) c.requires.0 (kind_of c.args.kind) c.args.names.now (path_at g.all c.args.from) c.in_default.len_below)

pub returns-in-len1-up : goal.returns-in-len1-up
returns-in-len1-up g c =
    c.of_kind.ensures
    ∙ sym (reached_by g.all (map plain c.args.entries.now) c.requires.0 (kind_of c.args.kind) c.args.names.now c.args.from c.followed.result (λ e. absurd (omega (arith, c.in-len1-up.len_at_least, ap (λ l. length l) e))) c.followed.ensures.found)
