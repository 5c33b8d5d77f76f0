use Rattle.std.proofs.Common.{ℕ, ◌<◌, ◌^◌, sym, subst}
use Rattle.bits_word.specs.Places.{mask}
use Rattle.bits_word.proofs.Bits.{mask_below, kept_whole}
use Rattle.bits_word.proofs.word.Word.mask.Goals as goal

pub returns : goal.returns
returns g c =
    kept_whole c.mask.result g.Self.Word.BITS (g.Self.Word.as_number c.cut.result) (mask c.args.offset c.args.width) c.cut.ensures
    (subst (λ (n : ℕ). n < 2 ^ g.Self.Word.BITS) (sym c.mask.ensures) (mask_below c.args.offset c.args.width g.Self.Word.BITS c.requires.within))
    c.mask.ensures
