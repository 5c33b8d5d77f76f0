use Rattle.std.proofs.Common.{ℕ, ◌∙◌, ap}
use Rattle.bits_word.specs.Places.{put}
use Rattle.bits_word.proofs.Bits.{kept_whole}
use Rattle.bits_word.proofs.word.Word.put.Goals as goal

pub returns : goal.returns
returns g c =
    kept_whole c.put.result g.Self.Word.BITS (g.Self.Word.as_number c.cut.result) (put (g.Self.Word.as_number c.args.self) c.args.offset c.args.width (g.Self.Word.as_number c.args.value)) c.cut.ensures
    (c.put.ensures.below g.Self.Word.BITS c.to_u64.ensures.below c.requires.within)
    (c.put.ensures.value
    ∙ ap (λ (word : ℕ). put word c.args.offset c.args.width c.to_u64-2.result) c.to_u64.ensures.same
    ∙ ap (λ (value : ℕ). put (g.Self.Word.as_number c.args.self) c.args.offset c.args.width value) c.to_u64-2.ensures.same)
