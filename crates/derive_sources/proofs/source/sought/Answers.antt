use Rattle.std.proofs.Common.{◌∙◌, option_map, sym, ap}
use Rattle.derive_sources.specs.Entries.{kind_of}
use Rattle.derive_sources.specs.Numbers.{path_at}
use Rattle.std.specs.Option.{option_or}
use Rattle.derived_rows.specs.Sources.{ancestors, second_try, source_among}
use Rattle.derive_sources.proofs.source.sought.Goals as goal

pub returns-in-Some : goal.returns-in-Some
unfolding source_among
returns-in-Some g c =
    sym (ap (λ o. option_or o (second_try g.all (kind_of c.args.kind) c.args.names.now (ancestors (path_at g.all c.args.number)))) (sym c.nearest.ensures ∙ ap (option_map (path_at g.all)) c.in-Some.is))

pub returns-in-None : goal.returns-in-None
unfolding source_among
returns-in-None g c =
    c.second.ensures
    ∙ sym (ap (λ o. option_or o (second_try g.all (kind_of c.args.kind) c.args.names.now (ancestors (path_at g.all c.args.number)))) (sym c.nearest.ensures ∙ ap (option_map (path_at g.all)) c.in-None.is))
