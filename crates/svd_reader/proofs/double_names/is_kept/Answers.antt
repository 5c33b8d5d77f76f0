use Rattle.svd_reader.proofs.SeenNames.{was_before, now_kept}
use Rattle.svd_reader.proofs.double_names.is_kept.Goals as goal

pub returns-in_ok-insert-in-Some-clause-before : goal.returns-in_ok-insert-in-Some-clause-before
returns-in_ok-insert-in-Some-clause-before c =
    was_before c.args.seen.now.keys c.args.name c.in-Some.name c.in_ok-insert-in-Some.field-0 c.in-Some.is c.in_ok-insert-in-Some.ensures.added

pub returns-in_ok-insert-in-Some-clause-kept : goal.returns-in_ok-insert-in-Some-clause-kept
returns-in_ok-insert-in-Some-clause-kept c =
    now_kept c.args.seen.now.keys c.insert.new.self.keys c.args.name c.in-Some.name c.in-Some.is c.in_ok-insert-in-Some.ensures.keys
