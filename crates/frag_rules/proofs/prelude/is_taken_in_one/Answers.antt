use Rattle.std.proofs.Common.{◌∙◌}
use Rattle.rust_names.specs.PreludeNames.{is_prelude_name as taken_by_any}
use Rattle.frag_sem.specs.PreludeCalls.{is_prelude_name}
use Rattle.frag_rules.proofs.PreludeWords.{among-first, other-than-first}
use Rattle.frag_rules.proofs.prelude.is_taken_in_one.Goals as goal

pub returns-then-ne : goal.returns-then-ne
unfolding taken_by_any is_prelude_name
returns-then-ne c = c.is_prelude_name.ensures ∙ among-first c.args.name.now c.as_slice.result.now c.ne.result c.as_slice.ensures c.ne.ensures c.if-ne.true

pub returns-else-ne : goal.returns-else-ne
unfolding taken_by_any is_prelude_name
returns-else-ne c = other-than-first c.args.name.now c.as_slice.result.now c.ne.result c.as_slice.ensures c.ne.ensures c.if-ne.false
