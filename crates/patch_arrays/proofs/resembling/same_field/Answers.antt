use Rattle.std.proofs.Common.{sym, ◌∙◌}
use Rattle.patch_arrays.proofs.Same.{and-else, and-second, and-third, field-same, is_not, is_so}
use Rattle.patch_arrays.proofs.resembling.same_field.Goals as goal

pub returns-then-ne : goal.returns-then-ne
returns-then-ne c = and-else _ _ _ (is_not _ (sym c.ne.ensures ∙ c.if-ne.true)) (sym (field-same c.args.key.now c.args.also.now c.args.one.now c.args.other.now))

pub returns-then-ne-2 : goal.returns-then-ne-2
returns-then-ne-2 c = and-second _ _ _ _ (is_not _ (sym c.ne-2.ensures ∙ c.if-ne-2.true)) (sym (field-same c.args.key.now c.args.also.now c.args.one.now c.args.other.now))

pub returns : goal.returns
returns c =
    and-third _ _ _ _ _ (is_so _ (sym c.ne.ensures ∙ c.if-ne.false)) (is_so _ (sym c.ne-2.ensures ∙ c.if-ne-2.false)) c.is_like_field.ensures (sym (field-same c.args.key.now c.args.also.now c.args.one.now c.args.other.now))
