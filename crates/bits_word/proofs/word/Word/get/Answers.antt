use Rattle.std.proofs.Common.{ℕ, ◌∙◌, ◌<◌, ◌^◌, ap, sym, subst}
use Rattle.bits_word.specs.Places.{get}
use Rattle.bits_word.proofs.Bits.{get_below, kept_whole}
use Rattle.bits_word.proofs.word.Word.get.Goals as goal

pub returns : goal.returns
returns g c =
    kept_whole c.get.result g.Self.Word.BITS (g.Self.Word.as_number c.cut.result) (get (g.Self.Word.as_number c.args.self) c.args.offset c.args.width) c.cut.ensures
    (subst (λ (n : ℕ). n < 2 ^ g.Self.Word.BITS) (sym c.get.ensures) (get_below c.to_u64.result c.args.offset c.args.width g.Self.Word.BITS c.requires.within))
    (c.get.ensures ∙ ap (λ (word : ℕ). get word c.args.offset c.args.width) c.to_u64.ensures.same)
