use Rattle.std.proofs.Common.{ℕ, refl, subst}
use Rattle.bits_word.specs.Start.{IsStart}
use Rattle.bits_word.proofs.Bits.{start_fewer, kept_whole}
use Rattle.bits_word.proofs.word.Word.start.Goals as goal

pub returns : goal.returns
returns g c =
    let whole = kept_whole c.start.result g.Self.Word.BITS (g.Self.Word.as_number c.cut.result) c.start.result c.cut.ensures (c.start.ensures.below g.Self.Word.BITS c.to_u64.ensures.below c.to_u64-3.ensures.below) refl in
    let fewer = start_fewer g.Self.Word.BITS c.to_u64.result c.to_u64-2.result c.to_u64-3.result c.start.result (g.Self.Word.as_number c.cut.result) g.met.Self.Word.bits_within c.start.ensures.bits whole in
    let word = subst (λ (w : ℕ). IsStart g.Self.Word.BITS w c.to_u64-2.result c.to_u64-3.result (g.Self.Word.as_number c.cut.result)) c.to_u64.ensures.same fewer in
    let one = subst (λ (o : ℕ). IsStart g.Self.Word.BITS (g.Self.Word.as_number c.args.self) o c.to_u64-3.result (g.Self.Word.as_number c.cut.result)) c.to_u64-2.ensures.same word in
    subst (λ (z : ℕ). IsStart g.Self.Word.BITS (g.Self.Word.as_number c.args.self) (g.Self.Word.as_number c.args.one) z (g.Self.Word.as_number c.cut.result)) c.to_u64-3.ensures.same one
