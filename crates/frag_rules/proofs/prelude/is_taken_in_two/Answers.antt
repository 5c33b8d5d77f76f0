use Rattle.rust_names.specs.PreludeNames.{is_prelude_name as taken_by_any}
use Rattle.frag_sem.specs.PreludeCalls.{is_prelude_name}
use Rattle.frag_rules.proofs.prelude.is_taken_in_two.Goals as goal

pub returns : goal.returns
unfolding taken_by_any is_prelude_name
returns c = c.is_prelude_name.ensures
