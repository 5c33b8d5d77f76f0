use Rattle.frag_rules.proofs.Keys.{call-kept, call-new}
use Rattle.frag_rules.proofs.values.is_new_call.Goals as goal

pub returns-clause-new : goal.returns-clause-new
returns-clause-new c = call-new c.args.call c.args.seen.now.keys c.in_ok-insert.field-0 c.in_ok-insert.ensures.added

pub returns-clause-kept : goal.returns-clause-kept
returns-clause-kept c = call-kept c.args.call c.args.seen.now.keys c.insert.new.self.keys c.in_ok-insert.field-0 c.in_ok-insert.ensures.added c.in_ok-insert.ensures.keys
