use Rattle.std.proofs.Common.{◌∙◌, map, sym, arith}
use Rattle.derive_sources.specs.Entries.{plain, kind_of}
use Rattle.derive_sources.specs.Numbers.{path_at}
use Rattle.derive_sources.proofs.Seats.{no_set, not_one}
use Rattle.derived_rows.specs.Sources.{ancestors}
use Rattle.derive_sources.proofs.source.second.Goals as goal

pub returns-then-not-is : goal.returns-then-not-is
returns-then-not-is g c = sym (no_set g.all (map plain c.args.entries.now) c.requires.0 (kind_of c.args.kind) c.args.names.now (ancestors (path_at g.all c.args.number)) (sym c.is.ensures ∙ c.if-not-is.true))

pub returns-in_default : goal.returns-in_default
returns-in_default g c = sym (not_one g.all (map plain c.args.entries.now) c.requires.0 (kind_of c.args.kind) c.args.names.now (ancestors (path_at g.all c.args.number)) (λ e. absurd (omega (arith, e, c.in_default.len_below))))

pub returns-in_default-2 : goal.returns-in_default-2
returns-in_default-2 g c = sym (not_one g.all (map plain c.args.entries.now) c.requires.0 (kind_of c.args.kind) c.args.names.now (ancestors (path_at g.all c.args.number)) (λ e. absurd (omega (arith, e, c.in_default.len_at_least))))
