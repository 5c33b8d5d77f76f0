use Rattle.frag_eval.proofs.SameKeys.{fresh-is, kept-is}
use Rattle.frag_eval.proofs.keys.take.Goals as goal

pub returns-clause-new : goal.returns-clause-new
returns-clause-new c = fresh-is c.args.seen.now.keys c.in_ok-key_of.field-0 c.args.place.now c.in_ok-insert.field-0 c.in_ok-key_of.ensures c.in_ok-insert.ensures.added

pub returns-clause-kept : goal.returns-clause-kept
returns-clause-kept c = kept-is c.args.seen.now.keys c.insert.new.self.keys c.in_ok-key_of.field-0 c.args.place.now c.in_ok-insert.field-0 c.in_ok-key_of.ensures c.in_ok-insert.ensures.added c.in_ok-insert.ensures.keys
