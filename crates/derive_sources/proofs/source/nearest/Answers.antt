use Rattle.std.proofs.Common.{◌<◌, ◌∙◌, map, length, option_map, sym, ap, subst, arith}
use Rattle.std.proofs.lemmas.List.{length-map}
use Rattle.derive_sources.specs.Entries.{plain, kind_of}
use Rattle.derive_sources.specs.Numbers.{Item, path_at}
use Rattle.derive_sources.proofs.Seats.{around, IsInside, depth, ancestors_found, nearer, inside_more, less_deep}
use Rattle.derived_rows.specs.Sources.{reached}
use Rattle.svd_model.specs.Properties.{nearest}
use Rattle.derive_sources.proofs.source.nearest.Goals as goal

pub loop-round-init : goal.loop-round-init
loop-round-init g c = record {
  inside = inside_more g.all (map plain c.args.entries.now) c.requires.0 c.args.number (length c.args.entries.now) c.entry_at-round.result.parent (omega (arith, c.requires.1.1, length-map c.args.entries.now plain)) (length-map c.args.entries.now plain) (ap (λ (item : Item). item.parent) c.entry_at-round.ensures);
  leads =
      ap (λ round. nearest (map (reached g.all (kind_of c.args.kind) c.args.names.now) (around g.all round))) (ap (λ (item : Item). item.parent) c.entry_at-round.ensures)
      ∙ sym (ap (λ paths. nearest (map (reached g.all (kind_of c.args.kind) c.args.names.now) paths)) (ancestors_found g.all (map plain c.args.entries.now) c.requires.0 c.args.number (omega (arith, c.requires.1.1, length-map c.args.entries.now plain))));
}

pub loop-round-smaller : goal.loop-round-smaller
loop-round-smaller g c =
    let inside : c.in-Some.from < length c.args.entries.now = subst (IsInside (length c.args.entries.now)) c.in-Some.is c.loop-round.invariant.inside in
    subst (λ r. depth c.entry_at-round-in-Some.result.parent < depth r) (sym c.in-Some.is)
    (less_deep g.all (map plain c.args.entries.now) c.requires.0 c.in-Some.from c.entry_at-round-in-Some.result.parent (omega (arith, inside, length-map c.args.entries.now plain)) (ap (λ (item : Item). item.parent) c.entry_at-round-in-Some.ensures))

pub loop-round-preserved : goal.loop-round-preserved
loop-round-preserved g c =
    let inside : c.in-Some.from < length c.args.entries.now = subst (IsInside (length c.args.entries.now)) c.in-Some.is c.loop-round.invariant.inside in
    record {
      inside = inside_more g.all (map plain c.args.entries.now) c.requires.0 c.in-Some.from (length c.args.entries.now) c.entry_at-round-in-Some.result.parent (omega (arith, inside, length-map c.args.entries.now plain)) (length-map c.args.entries.now plain) (ap (λ (item : Item). item.parent) c.entry_at-round-in-Some.ensures);
      leads =
          nearer g.all (map plain c.args.entries.now) c.requires.0 (reached g.all (kind_of c.args.kind) c.args.names.now) c.loop-round.round c.in-Some.from c.entry_at-round-in-Some.result.parent c.in-Some.is (omega (arith, inside, length-map c.args.entries.now plain))
          (sym c.reached.ensures ∙ ap (option_map (path_at g.all)) c.in_default-reached.is)
          (ap (λ (item : Item). item.parent) c.entry_at-round-in-Some.ensures)
          ∙ c.loop-round.invariant.leads;
    }
