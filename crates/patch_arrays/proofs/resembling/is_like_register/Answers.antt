use Rattle.std.proofs.Common.{sym, ◌∙◌}
use Rattle.patch_arrays.proofs.Same.{and-else, and-then, register-like}
use Rattle.patch_arrays.proofs.resembling.is_like_register.Goals as goal

pub returns-then-same_register_keys : goal.returns-then-same_register_keys
returns-then-same_register_keys c =
    and-then _ _ _ _ (sym c.same_register_keys.ensures ∙ c.if-same_register_keys.true) c.same_fields.ensures (register-like c.args.one.now c.args.other.now)

pub returns-else-same_register_keys : goal.returns-else-same_register_keys
returns-else-same_register_keys c = c.if-same_register_keys.false ∙ and-else _ _ _ (sym c.same_register_keys.ensures ∙ c.if-same_register_keys.false) (register-like c.args.one.now c.args.other.now)
