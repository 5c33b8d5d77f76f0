use Rattle.std.proofs.Common.{◌∙◌, map, option_map, sym, ap, arith}
use Rattle.std.proofs.lemmas.List.{length-map}
use Rattle.derive_sources.specs.Entries.{plain, kind_of}
use Rattle.derive_sources.specs.Numbers.{Item, path_at}
use Rattle.derived_rows.specs.Sources.{ancestors, source_among}
use Rattle.derive_sources.proofs.Seats.{source_kindless, source_nameless, source_sought}
use Rattle.derive_sources.proofs.source.source_of.Goals as goal

pub returns-in-Some-names : goal.returns-in-Some-names
returns-in-Some-names g c =
    c.sought.ensures
    ∙ ap (λ names. source_among g.all (kind_of c.in-Some.kind) names (ancestors (path_at g.all c.args.number))) c.as_slice.ensures
    ∙ sym (source_sought g.all (map plain c.args.entries.now) c.requires.0 c.args.number (kind_of c.in-Some.kind) c.in-Some-names.names.now (omega (arith, c.requires.1.1.1, length-map c.args.entries.now plain))
    (sym (ap (λ (item : Item). item.kind) c.entry_at-entry.ensures) ∙ ap (option_map kind_of) c.in-Some.is)
    (sym (ap (λ (item : Item). item.names) c.entry_at-entry.ensures) ∙ ap (option_map (λ path. path.now)) c.in-Some-names.is))

pub returns-in-None-names : goal.returns-in-None-names
returns-in-None-names g c = sym (source_nameless g.all (map plain c.args.entries.now) c.requires.0 c.args.number (omega (arith, c.requires.1.1.1, length-map c.args.entries.now plain))
    (sym (ap (λ (item : Item). item.names) c.entry_at-entry.ensures) ∙ ap (option_map (λ path. path.now)) c.in-None-names.is))

pub returns-in-None : goal.returns-in-None
returns-in-None g c = sym (source_kindless g.all (map plain c.args.entries.now) c.requires.0 c.args.number (omega (arith, c.requires.1.1.1, length-map c.args.entries.now plain))
    (sym (ap (λ (item : Item). item.kind) c.entry_at-entry.ensures) ∙ ap (option_map kind_of) c.in-None.is))
