use Rattle.std.proofs.Common.{◌∙◌, map, option_map, sym, ap, arith}
use Rattle.std.proofs.lemmas.List.{length-map}
use Rattle.derive_sources.specs.Entries.{plain}
use Rattle.derive_sources.specs.Numbers.{Item}
use Rattle.derive_sources.proofs.Told.{missing_at, not_missing}
use Rattle.derive_sources.proofs.finding.is_missing.Goals as goal

pub returns-in-Some : goal.returns-in-Some
returns-in-Some g c =
    c.is_unfound.ensures
    ∙ missing_at g.all (map plain c.args.entries.now) c.requires.0 c.args.found.now c.requires.1.0 c.args.number c.in-Some.field-0.now (omega (arith, c.requires.1.1, length-map c.args.entries.now plain))
    (sym (ap (λ (item : Item). item.names) c.entry_at.ensures) ∙ ap (option_map (λ path. path.now)) c.in-Some.is)

pub returns-in-None : goal.returns-in-None
returns-in-None g c =
    not_missing g.all (map plain c.args.entries.now) c.requires.0 c.args.found.now c.requires.1.0 c.args.number (omega (arith, c.requires.1.1, length-map c.args.entries.now plain))
    (sym (ap (λ (item : Item). item.names) c.entry_at.ensures) ∙ ap (option_map (λ path. path.now)) c.in-None.is)
