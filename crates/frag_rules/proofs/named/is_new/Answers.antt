use Rattle.std.proofs.Common.{not, ap, sym, ◌∙◌, List, ℕ}
use Rattle.std.specs.Borrow.{Bor}
use Rattle.std.specs.Str.{bytes_eq}
use Rattle.frag_rules.proofs.Entries.{any-map}
use Rattle.frag_rules.proofs.named.is_new.Goals as goal

pub returns-clause-new : goal.returns-clause-new
returns-clause-new c = c.in_ok-insert.ensures.added ∙ ap not (sym (any-map (bytes_eq c.args.name.now) (λ (key : Bor (List ℕ)). key.now) c.args.seen.now.keys))
