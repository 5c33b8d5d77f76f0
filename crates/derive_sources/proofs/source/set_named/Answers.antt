use Rattle.std.proofs.Common.{◌∙◌, map, option_map, option_and_then, true, sym, ap, arith}
use Rattle.std.proofs.lemmas.List.{length-map}
use Rattle.derive_sources.specs.Entries.{plain}
use Rattle.derive_sources.specs.Numbers.{path_at, first_owned, outer_of}
use Rattle.derive_sources.proofs.Seats.{set_tried}
use Rattle.derive_sources.proofs.source.set_named.Goals as goal

pub returns-in-Some : goal.returns-in-Some
returns-in-Some g c =
    ap (option_map (path_at g.all)) (c.get.ensures ∙ c.requires.1.0 c.in-Some.register c.bytes.result.now ∙ ap (first_owned (map plain c.args.entries.now) true c.in-Some.register) c.bytes.ensures.same)
    ∙ sym (ap (λ o. option_map (path_at g.all) (option_and_then (λ r. first_owned (map plain c.args.entries.now) true r c.args.name.now.name) o)) (sym (ap (outer_of (map plain c.args.entries.now)) c.entry_at.ensures) ∙ sym c.outer_of.ensures ∙ c.in-Some.is))
    ∙ sym (set_tried g.all (map plain c.args.entries.now) c.requires.0 c.args.number (omega (arith, c.requires.1.1, length-map c.args.entries.now plain)) c.args.name.now)

pub returns-in-None : goal.returns-in-None
returns-in-None g c =
    sym (ap (λ o. option_map (path_at g.all) (option_and_then (λ r. first_owned (map plain c.args.entries.now) true r c.args.name.now.name) o)) (sym (ap (outer_of (map plain c.args.entries.now)) c.entry_at.ensures) ∙ sym c.outer_of.ensures ∙ c.in-None.is))
    ∙ sym (set_tried g.all (map plain c.args.entries.now) c.requires.0 c.args.number (omega (arith, c.requires.1.1, length-map c.args.entries.now plain)) c.args.name.now)
