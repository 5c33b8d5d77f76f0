-- Worked rows: texts that are plain scalars, values and contents of lines, and texts that aren't.
use Rattle.std.proofs.Common.{[], refl}
use Rattle.std.specs.Prelude.{codes}
use Rattle.yaml_block.specs.declared.scalar.Place.TheVariants.{Line, Flow}
use Rattle.patch_text.specs.PlainScalars.{IsPlain}

entry_not_plain : ¬ IsPlain Line (codes "a: b")
entry_not_plain p = p.no_entry (codes "a", codes "b", refl)

comment_not_plain : ¬ IsPlain Line (codes "a #b")
comment_not_plain p = p.no_comment (codes "a", codes "b", refl)

colon_at_end_not_plain : ¬ IsPlain Line (codes "a:")
colon_at_end_not_plain p = p.no_key (codes "a", refl)

star_not_plain : ¬ IsPlain Line (codes "*a")
star_not_plain p = p.front 42 (codes "-?:,[]{}#&", codes "!|>'\"%@`", refl) (codes "a", refl)

comma_not_plain_in_flow : ¬ IsPlain Flow (codes "a,b")
comma_not_plain_in_flow p = p.no_mark 44 ([], codes "[]{}", refl) (codes "a", codes "b", refl)
