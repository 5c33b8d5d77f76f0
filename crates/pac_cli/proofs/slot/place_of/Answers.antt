use Rattle.std.proofs.Common.{ℕ, ◌+◌, ◌<◌, ap, sym, ◌∙◌, subst, arith}
use Rattle.pac_cli.specs.Buses.{kinds_of, same_kind, slots_of}
use Rattle.pac_cli.proofs.Slots.{kind_at, kinds_count, none_more, place_found, place_missed}
use Rattle.pac_words.specs.declared.command.BusKind.{BusKind}
use Rattle.pac_cli.proofs.slot.place_of.Goals as goal

pub returns-then-same_kind : goal.returns-then-same_kind
returns-then-same_kind g c =
    let kinds = kinds_of (slots_of g.B.Bus.told c.args.lent.now) in
    c.loop-slot.invariant.0
    ∙ place_found c.args.kind kinds c.loop-slot.slot-index
    (subst (λ (n : ℕ). c.loop-slot.slot-index < n) (sym (kinds_count g.B.Bus.told c.args.lent.now)) c.loop-slot-test.true)
    c.loop-slot.invariant.1
    (ap (λ (k : BusKind). same_kind k c.args.kind) (kind_at g.B.Bus.told c.args.lent.now c.loop-slot.slot-index c.slot-item.result c.args.kind c.loop-slot-test.true c.slot-item.is)
    ∙ (sym c.same_kind.ensures ∙ c.if-same_kind.true))

pub loop-slot-preserved : goal.loop-slot-preserved
loop-slot-preserved g c =
    let kinds = kinds_of (slots_of g.B.Bus.told c.args.lent.now) in (
      ap (λ n. n + 1) c.loop-slot.invariant.0,
      none_more c.args.kind kinds c.loop-slot.slot-index c.loop-slot.invariant.1
          (ap (λ (k : BusKind). same_kind k c.args.kind) (kind_at g.B.Bus.told c.args.lent.now c.loop-slot.slot-index c.slot-item.result c.args.kind c.loop-slot-test.true c.slot-item.is)
          ∙ (sym c.same_kind.ensures ∙ c.if-same_kind.false)),
    )

pub returns : goal.returns
returns g c =
    let kinds = kinds_of (slots_of g.B.Bus.told c.args.lent.now) in
    c.loop-slot.invariant.0
    ∙ place_missed c.args.kind kinds c.loop-slot.slot-index (omega (arith, c.loop-slot-test.false, c.loop-slot.auto.slot-index-end, kinds_count g.B.Bus.told c.args.lent.now))
    c.loop-slot.invariant.1
