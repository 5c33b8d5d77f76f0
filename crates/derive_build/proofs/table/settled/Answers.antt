use Rattle.std.proofs.Common.{sym, refl, ◌∙◌}
use Rattle.std.proofs.lemmas.Option.{slice_get_read}
use Rattle.derive_build.proofs.Filled.{comes-alone, comes-taken, source-there}
use Rattle.derive_build.proofs.Told.{if-all-ok, stood, none-stood}
use Rattle.derive_build.proofs.table.settled.Goals as goal

pub returns-in-Some-get : goal.returns-in-Some-get
returns-in-Some-get c =
    if-all-ok c.taken_from.result _ _ _ _
    (λ made own keys children.
    comes-taken c.args.owns.now c.args.sources.now c.args.elements.now c.args.table.now c.args.number made c.in_ok-own.own c.index-owns-number.result c.in-Some.number c.in-Some-get.source.now
    (slice_get_read c.args.owns.now _ c.args.number c.index-owns-number.result refl c.requires.inside c.index-owns-number.is)
    c.in_ok-own.ensures.own c.in_ok-own.ensures.keys (c.in_ok-own.ensures.children ∙ c.parts_of.ensures) (sym c.in-Some.ensures) c.requires.owns
    (stood c.args.table.now c.in-Some.number c.in-Some-get.source.now c.in-Some-get.ensures.lookup.1 c.in-Some-get.ensures.lookup.3.0)
    c.requires.takes own keys children)
    c.taken_from.ensures.own c.taken_from.ensures.keys c.taken_from.ensures.children

pub unreachable-requires : goal.unreachable-requires
unreachable-requires c =
    source-there c.args.owns.now c.args.sources.now c.args.elements.now c.args.table.now c.args.number c.in-Some.number (sym c.in-Some.ensures) c.requires.owns
    (none-stood c.args.table.now c.in-Some.number c.in-None-get.ensures.lookup.0) c.requires.inside c.requires.takes

pub returns : goal.returns
returns c =
    comes-alone c.args.owns.now c.args.sources.now c.args.elements.now c.args.table.now c.args.number c.in_ok-own.own c.index-owns-number.result
    (slice_get_read c.args.owns.now _ c.args.number c.index-owns-number.result refl c.requires.inside c.index-owns-number.is)
    c.in_ok-own.ensures.own c.in_ok-own.ensures.keys (c.in_ok-own.ensures.children ∙ c.parts_of.ensures) (sym c.in-None.ensures)
